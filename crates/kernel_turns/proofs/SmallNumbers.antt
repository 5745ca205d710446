-- Numbers of capabilities that were given out in a sealed machine fit 24 bits.
use Rattle.std.proofs.Common.{◌≡◌, ℕ, zero, suc, ◌+◌, ◌<◌, ◌≤◌, ◌^◌, true, List, [], ◌∷◌, length, find, sum_by, take, slice_get, Option, Some, None, ap, ◌∙◌, arith}
use Rattle.std.specs.Prelude.{nat_le, nat_lt, option_and_then}
use Rattle.std.proofs.lemmas.Bool.{and_parts, ltb-true}
use Rattle.std.proofs.lemmas.List.Sums.{sum_by-cons}
use Rattle.std.proofs.lemmas.Option.{same_Some}
use Rattle.jk_model.specs.declared.identifiers.CapId.{CapId}
use Rattle.jk_model_heaps.specs.Capabilities.{CapRange, OwnedCapability, capability_in, has_number}
use Rattle.jk_model_machine_state.specs.Machines.{DomainState, Machine, caps_of}
use Rattle.jk_model_runs.specs.Sealed.{IsSealed}
use Rattle.list_lemmas.proofs.FoundItems.{Finds, finds}
use Rattle.list_lemmas.proofs.ItemsByPlace.{comes_from}
use Rattle.heap_laws.specs.LaidOutObjects.{AreSmallNumbers}

-- an item's share of a sum, and that of those before it
within : {X : Type 0} (f : X → ℕ) (xs : List X) (i : ℕ) (x : X) → slice_get xs i ≡ Some x
    → sum_by f (take i xs) + f x ≤ sum_by f (take (length xs) xs)
within f [] i x at = absurd cc
within f (y ∷ xs) zero x at =
    let one = ap f (same_Some y x at) in
    let all = sum_by-cons f y (take (length xs) xs) in
    omega (arith, one, all)
within f (y ∷ xs) (suc i) x at =
    let rest = within f xs i x at in
    let before = sum_by-cons f y (take i xs) in
    let all = sum_by-cons f y (take (length xs) xs) in
    omega (arith, rest, before, all)

module _ (m : Machine) (sealed : IsSealed m) where
  below : (k : CapId) (i : ℕ) (d : DomainState) → slice_get m.domains i ≡ Some d → has_number k d.caps ≡ true → k.0 < 2 ^ 24
  below k i d at has =
      let less = ltb-true k.0 (d.caps.first + d.caps.count)
      (and_parts (nat_le d.caps.first k.0) (nat_lt k.0 (d.caps.first + d.caps.count)) has).1 in
      let first = sealed.capabilities.chained i d at in
      let all = within (λ (e : DomainState). e.caps.count) m.domains i d at in
      let few = sealed.capabilities.few in
      omega (arith, less, first, all, few)

  by_found : (k : CapId) (c : OwnedCapability) (o : Option CapRange) → Finds (has_number k) (caps_of m) o → option_and_then (capability_in k) o ≡ Some c
      → k.0 < 2 ^ 24
  by_found k c None h is = absurd cc
  by_found k c (Some r) h is =
      let from = comes_from (λ (e : DomainState). e.caps) m.domains h.0 r h.1 in
      below k h.0 from.from from.there (ap (has_number k) from.gives ∙ h.2)

  pub small_numbers : AreSmallNumbers (caps_of m)
  small_numbers k (c, is) = by_found k c (find (has_number k) (caps_of m)) (finds (has_number k) (caps_of m)) is
