-- One place more is kept.
use Rattle.std.proofs.Common.{◌≡◌, ℕ, true, inl, inr, sym, subst, ◌∙◌, arith}
use Rattle.list_lemmas.proofs.TestsAndOrders.{less_or_same}
use Rattle.graph_copy.specs.Places.{is_kept_at, place_count}
use Rattle.graph_copy.proofs.kinds.keeps_all_fields.Goals as goal

pub is_place_kept-requires-clause-place : goal.is_place_kept-requires-clause-place
is_place_kept-requires-clause-place c =
    let count : c.places-i-end.result ≡ place_count c.args.t.now c.args.shape.now = c.places-i-end.ensures in
    let within = c.loop-i-test.true in
    omega (arith, count, within)

pub loop-i-preserved : goal.loop-i-preserved
loop-i-preserved c = λ k low. elim (less_or_same k c.loop-i.i low) [
  | inl before ↦ c.loop-i.invariant k before
  | inr same ↦
      subst (λ (n : ℕ). is_kept_at c.args.t.now c.args.shape.now n ≡ true) (sym same) (sym c.is_place_kept.ensures ∙ c.if-not-is_place_kept.false)
]

pub returns : goal.returns
returns c = λ told k within.
    let end : c.loop-i.i ≡ c.places-i-end.result = omega (arith, c.loop-i-test.false, c.loop-i.auto.i-end) in
    let count : c.places-i-end.result ≡ place_count c.args.t.now c.args.shape.now = c.places-i-end.ensures in
    c.loop-i.invariant k (omega (arith, end, count, within))
