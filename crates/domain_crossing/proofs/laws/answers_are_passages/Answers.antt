-- By the lemmas on it.
use Rattle.domain_crossing.proofs.PassagesOfParts.{answer_copied, answer_too_large, answer_uncopiable}
use Rattle.domain_crossing.proofs.laws.answers_are_passages.Goals as goal

pub returns : goal.returns
returns c = record {
  copied = λ p d e giver taker values fit h. answer_copied p d e giver taker values fit h;
  uncopiable = λ p d e giver taker values a fit h. answer_uncopiable p d e giver taker values fit a h;
  too_large = λ p d e giver taker values n fit h. answer_too_large p d e giver taker values fit n h;
}
