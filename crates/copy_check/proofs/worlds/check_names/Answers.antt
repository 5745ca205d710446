-- Each named class stands at a place.
use Rattle.std.proofs.Common.{◌≡◌, ℕ, ◌<◌, Some, slice_get, ap, subst, inl, inr, arith}
use Rattle.std.specs.Prelude.{option_map}
use Rattle.jk_model_classes.specs.Worlds.{NamedClass}
use Rattle.list_lemmas.proofs.ItemsOfLists.{stands_at}
use Rattle.list_lemmas.proofs.TestsAndOrders.{less_or_same}
use Rattle.copy_check.proofs.worlds.check_names.Goals as goal

pub loop-i-preserved : goal.loop-i-preserved
loop-i-preserved g c = λ k e less at named. elim (less_or_same k c.loop-i.i (omega (arith, less))) [
  | inl before ↦ c.loop-i.invariant k e before at named
  | inr here ↦ c.check_name.ensures e
      (subst (λ (n : ℕ). option_map (λ (x : NamedClass). x.class) (slice_get c.args.from.now n) ≡ Some e) here at) named
]

pub returns : goal.returns
returns g c = λ e from to.
    let place = stands_at c.args.from.now (record { name = from.0; class = e }) from.1 in
    let less : place.0 < c.loop-i.i = omega (arith, place.1, c.len-i-end.ensures, c.loop-i-test.false) in
    c.loop-i.invariant place.0 e less (ap (option_map (λ (x : NamedClass). x.class)) place.2) to
