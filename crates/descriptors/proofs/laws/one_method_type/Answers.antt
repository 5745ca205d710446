-- No text of a method is of two types.
use Rattle.descriptors.proofs.NoTextBeginsAnother.{one_method}
use Rattle.descriptors.proofs.laws.one_method_type.Goals as goal

pub returns : goal.returns
returns c = one_method
