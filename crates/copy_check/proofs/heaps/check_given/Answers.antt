-- One value more may be given.
use Rattle.std.proofs.Common.{◌≡◌, ◌<◌, length, sym, ap, ◌∙◌, subst, inl, inr, arith}
use Rattle.std.proofs.lemmas.Option.{same_Some, slice_get_within}
use Rattle.jk_model.specs.declared.values.Value.{Value}
use Rattle.graph_copy.specs.AskedOfCopies.{MayBeGiven}
use Rattle.list_lemmas.proofs.TestsAndOrders.{less_or_same}
use Rattle.std.proofs.Common.{slice_get}
use Rattle.copy_check.proofs.heaps.check_given.Goals as goal

pub loop-i-preserved : goal.loop-i-preserved
loop-i-preserved g c = λ k v less at. elim (less_or_same k c.loop-i.i (omega (arith, less))) [
  | inl before ↦ c.loop-i.invariant k v before at
  | inr here ↦
      let same : c.get-v.result ≡ v =
      same_Some c.get-v.result v (sym c.get-v.ensures ∙ sym (ap (slice_get c.args.values.now) here) ∙ at) in
      subst (λ (u : Value). MayBeGiven ((g.H.ObjectStore.content c.args.store.now).heap c.args.d) u) same
      (c.is_known.ensures c.if-not-is_known.false).0
]

pub returns : goal.returns
returns g c = λ i v at.
    let within : i < length c.args.values.now = slice_get_within c.args.values.now i v at in
    let less : i < c.loop-i.i = omega (arith, within, c.len-i-end.ensures.count, c.loop-i-test.false) in
    c.loop-i.invariant i v less at
