-- No text of a field is of two types.
use Rattle.descriptors.proofs.NoTextBeginsAnother.{one_field}
use Rattle.descriptors.proofs.laws.one_field_type.Goals as goal

pub returns : goal.returns
returns c = one_field
