-- Where no local rises, all are outside of the range.
use Rattle.std.proofs.Common.{inl, inr, arith}
use Rattle.std.proofs.lemmas.Bool.{cases_lt}
use Rattle.type_verifier.proofs.narrowing.narrowed.Goals as goal

pub returns-else-first-end-clause-outside : goal.returns-else-first-end-clause-outside
returns-else-first-end-clause-outside c = λ k a b at there _.
    c.end_of_rises-end.ensures.outside k a b at there (elim (cases_lt k c.first_rise-first.result) [
      | inl before ↦ inl before
      | inr past ↦ inr (omega arith)
    ])
