-- By the height of the class.
use Rattle.std.proofs.Common.{◌+◌}
use Rattle.jk_model_heaps.proofs.FieldsInOrder.{fields_have_records}
use Rattle.jk_model_heaps.proofs.laws.fields_stand_in_one_order.Goals as goal

pub returns : goal.returns
returns c = λ classes d. fields_have_records classes (d.0 + 1) d
