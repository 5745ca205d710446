use Rattle.jk_model_system_rows.proofs.CopiesAgree.{one_copy}
use Rattle.jk_model_system_rows.proofs.laws.copies_of_arrays_are_determined.Goals as goal

pub returns : goal.returns
returns c = λ x given old done other p q. one_copy x given old done other p q
