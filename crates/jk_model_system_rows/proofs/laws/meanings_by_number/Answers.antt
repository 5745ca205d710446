-- The lists of meanings are as long as those of the table's methods.
use Rattle.jk_model_system_rows.proofs.NumbersOfMethods.{each_number, meaning_by_number, one_of_number}
use Rattle.jk_model_system_rows.proofs.laws.meanings_by_number.Goals as goal

pub returns-clause-meaning : goal.returns-clause-meaning
returns-clause-meaning c = λ m meaning means. meaning_by_number m meaning means

pub returns-clause-one : goal.returns-clause-one
returns-clause-one c = λ m n a b first second same. one_of_number m n a b first second same

pub returns-clause-all : goal.returns-clause-all
returns-clause-all c = λ number low. each_number number low
