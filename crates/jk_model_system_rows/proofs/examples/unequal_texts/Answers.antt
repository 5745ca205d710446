-- Whatever the receiver's units are, a capability is no text.
use Rattle.jk_model_system_rows.proofs.examples.unequal_texts.Goals as goal

pub returns-clause-row : goal.returns-clause-row
returns-clause-row c = λ done (units, is, answers). answers
