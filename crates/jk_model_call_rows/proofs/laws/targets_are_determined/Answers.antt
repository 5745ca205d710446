use Rattle.jk_model_call_rows.proofs.OneSelected.{one_interface_target, one_special_target, one_virtual_target}
use Rattle.jk_model_call_rows.proofs.laws.targets_are_determined.Goals as goal

pub returns-clause-selected_at_receiver : goal.returns-clause-selected_at_receiver
returns-clause-selected_at_receiver c = λ classes heap receiver m target other p q. one_virtual_target classes heap receiver m target other p q

pub returns-clause-named_or_above : goal.returns-clause-named_or_above
returns-clause-named_or_above c = λ classes self m method target other p q. one_special_target classes self m method target other p q

pub returns-clause-of_interface : goal.returns-clause-of_interface
returns-clause-of_interface c = λ classes heap receiver m target other p q. one_interface_target classes heap receiver m target other p q
