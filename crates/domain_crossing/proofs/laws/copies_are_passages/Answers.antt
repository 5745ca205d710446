-- By the lemmas on it.
use Rattle.domain_crossing.proofs.PassagesOfParts.{copy_passes}
use Rattle.domain_crossing.proofs.laws.copies_are_passages.Goals as goal

pub returns : goal.returns
returns c = λ p new d e giver taker values answers fit h copied. copy_passes p d e giver taker values fit new answers h copied
