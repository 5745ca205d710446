use Rattle.jk_model_system_rows.proofs.FailuresAgree.{failures_agree}
use Rattle.jk_model_system_rows.proofs.laws.failures_of_methods_are_determined.Goals as goal

pub returns : goal.returns
returns c = λ x meaning given old done other raise p q fails. failures_agree x old done other meaning given p q raise fails
