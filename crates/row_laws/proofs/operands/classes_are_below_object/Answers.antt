-- By the numbers of classes, from parent to parent.
use Rattle.row_laws.proofs.BelowObject.{below_object}
use Rattle.row_laws.proofs.operands.classes_are_below_object.Goals as goal

pub returns : goal.returns
returns c = λ classes class sound there. below_object classes sound class there
