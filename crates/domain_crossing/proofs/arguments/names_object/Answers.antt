-- By what each entry is.
use Rattle.std.proofs.Common.{◌≡◌, ℕ, ◌-◌, inl, inr, length, slice_get, ap, sym, subst, ◌∙◌, arith}
use Rattle.std.proofs.lemmas.Option.{same_Some}
use Rattle.list_lemmas.proofs.TestsAndOrders.{less_or_same}
use Rattle.domain_crossing.specs.NoObjects.{IsNoObject}
use Rattle.domain_crossing.proofs.EntriesOnTop.{none_is_object, peeked}
use Rattle.domain_crossing.proofs.NothingReached.{no_object}
use Rattle.domain_crossing.proofs.arguments.names_object.Goals as goal

pub loop-above-preserved : goal.loop-above-preserved
loop-above-preserved g c = λ values on many k low v at. elim (less_or_same k c.loop-above.above low) [
  | inl before ↦ c.loop-above.invariant values on many k before v at
  | inr same ↦
      let read = peeked (g.F.SegmentFrames.content c.args.frames.now) c.args.s values on c.loop-above.above c.peek.result (omega (arith, many))
      c.peek.ensures in
      let one : c.peek.result ≡ v =
      same_Some c.peek.result v (sym read ∙ ap (λ (n : ℕ). slice_get values (length values - 1 - n)) (sym same) ∙ at) in
      subst IsNoObject one (no_object c.peek.result c.in_default.not-Obj)
]

pub returns : goal.returns
returns g c = λ values on many none. none_is_object values (λ k low v at. c.loop-above.invariant values on many k (omega (arith, many, low)) v at)
