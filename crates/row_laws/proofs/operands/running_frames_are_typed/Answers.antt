-- By the least typing of the method.
use Rattle.row_laws.proofs.StandsHere.{code_here, code_is_one, stands_typed}
use Rattle.row_laws.proofs.operands.running_frames_are_typed.Goals as goal

pub returns-clause-code : goal.returns-clause-code
returns-clause-code c = λ around x w runs. code_here around.classes w.frame runs.fits.0

pub returns-clause-one_code : goal.returns-clause-one_code
returns-clause-one_code c = λ classes f a b. code_is_one classes f a b

pub returns-clause-typed : goal.returns-clause-typed
returns-clause-typed c = λ around x w runs code.
    stands_typed around.classes runs.setting.codes w.frame code runs.fits.0 w.inside.heap runs.fits.1
