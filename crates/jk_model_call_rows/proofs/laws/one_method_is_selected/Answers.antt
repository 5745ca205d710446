use Rattle.jk_model_call_rows.proofs.OneSelected.{one_public_target, one_selected, one_selected_target}
use Rattle.jk_model_call_rows.proofs.laws.one_method_is_selected.Goals as goal

pub returns-clause-method : goal.returns-clause-method
returns-clause-method c = λ classes receiver m selected other p q. one_selected classes receiver m selected other p q

pub returns-clause-target : goal.returns-clause-target
returns-clause-target c = λ classes receiver m target other p q. one_selected_target classes receiver m target other p q

pub returns-clause-public : goal.returns-clause-public
returns-clause-public c = λ classes receiver m target other p q. one_public_target classes receiver m target other p q
