-- By the lemma on what is left.
use Rattle.jk_model_sharing.proofs.SegmentsLeft.{others_left}
use Rattle.jk_model_sharing.proofs.laws.others_are_left.Goals as goal

pub returns : goal.returns
returns c = others_left
