use Rattle.jk_model.proofs.SmallestClass.{smallest_is_class}
use Rattle.jk_model.proofs.laws.smallest_class.Goals as goal

pub returns : goal.returns
returns c = smallest_is_class
