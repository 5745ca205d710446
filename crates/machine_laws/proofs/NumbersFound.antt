-- What stands at a place of a domain's capabilities was given out under the number of that place.
use Rattle.std.proofs.Common.{◌≡◌, ℕ, zero, suc, ◌+◌, ◌-◌, ◌<◌, ◌≤◌, Bool, true, false, cond, List, [], ◌∷◌, find, map, take, sum_by, Option, Some, slice_get, refl, sym, ap, subst, ◌∙◌, arith}
use Rattle.std.specs.Option.{option_and_then, option_map}
use Rattle.std.proofs.lemmas.Bool.Decides.{nat_tests}
use Rattle.std.proofs.lemmas.List.Sums.{sum_by-cons}
use Rattle.std.proofs.lemmas.Option.{same_Some, slice_get_within}
use Rattle.jk_model.specs.declared.identifiers.CapId.{CapId}
use Rattle.jk_model_heaps.specs.Capabilities.{CapRange, Capability, IsGivenOut, OwnedCapability, capability_in, has_number}
use Rattle.jk_model_machine_state.specs.Machines.{DomainState, Machine, caps_of}
use Rattle.jk_model_runs.specs.Sealed.{AreSealedCapabilities}
use Rattle.list_lemmas.proofs.ItemsOfLists.{Contains-at}

above_range : (k : CapId) (r : CapRange) → r.first + r.count ≤ k.0 → has_number k r ≡ false
above_range k r le = grind (arith, nat_tests)

within_range : (k : CapId) (r : CapRange) → r.first ≤ k.0 → k.0 < r.first + r.count → has_number k r ≡ true
within_range k r le lt = grind (arith, nat_tests)

abbrev counts : DomainState → ℕ
counts d = d.caps.count

abbrev caps_part : DomainState → CapRange
caps_part d = d.caps

found_first : (b : Bool) (r : CapRange) (o : Option CapRange) → b ≡ true → cond b (Some r) o ≡ Some r
found_first true r o e = refl
found_first false r o e = absurd cc

found_later : (b : Bool) (r : CapRange) (o : Option CapRange) → b ≡ false → cond b (Some r) o ≡ o
found_later true r o e = absurd cc
found_later false r o e = refl

-- the range of a domain is found by its numbers
found_by_number : (domains : List DomainState) (start i : ℕ) (d : DomainState) (k : CapId) → slice_get domains i ≡ Some d
    → ((j : ℕ) (e : DomainState) → slice_get domains j ≡ Some e → e.caps.first ≡ start + sum_by counts (take j domains))
    → d.caps.first ≤ k.0 → k.0 < d.caps.first + d.caps.count → find (has_number k) (map caps_part domains) ≡ Some d.caps
found_by_number [] start i d k at chained low high = absurd cc
found_by_number (x ∷ domains) start zero d k at chained low high =
    subst (λ (e : DomainState). find (has_number k) (map caps_part (x ∷ domains)) ≡ Some e.caps) (same_Some x d at)
    (found_first (has_number k x.caps) x.caps (find (has_number k) (map caps_part domains))
    (subst (λ (e : DomainState). has_number k e.caps ≡ true) (sym (same_Some x d at)) (within_range k d.caps low high)))
found_by_number (x ∷ domains) start (suc i) d k at chained low high =
    let first = chained (suc i) d at in
    let own = chained 0 x refl in
    let all = sum_by-cons counts x (take i domains) in
    found_later (has_number k x.caps) x.caps (find (has_number k) (map caps_part domains)) (above_range k x.caps (omega (arith, first, own, all, low)))
    ∙ found_by_number domains (start + x.caps.count) i d k at
    (λ j e there.
    let here = chained (suc j) e there in
    let sum = sum_by-cons counts x (take j domains) in
    omega (arith, here, sum)) low high

pub given_at : (m : Machine) → AreSealedCapabilities m → (i : ℕ) (d : DomainState) → slice_get m.domains i ≡ Some d → (n : ℕ) (c : Capability)
    → slice_get d.caps.made n ≡ Some c → (k : CapId) → k.0 ≡ d.caps.first + n → IsGivenOut (caps_of m) k
given_at m sealed i d at n c there k is =
    let within = slice_get_within d.caps.made n c there in
    let few = sealed.within d (Contains-at m.domains i d at) in
    let low : d.caps.first ≤ k.0 = omega (arith, is) in
    let high : k.0 < d.caps.first + d.caps.count = omega (arith, is, within, few) in
    let place : k.0 - d.caps.first ≡ n = omega (arith, is) in
    let owned : OwnedCapability = record { owner = d.caps.owner; capability = c } in (
      owned,
      ap (option_and_then (capability_in k)) (found_by_number m.domains 1 i d k at sealed.chained low high)
          ∙ ap (λ (j : ℕ). option_map (λ (x : Capability). let o : OwnedCapability = record { owner = d.caps.owner; capability = x } in o) (slice_get d.caps.made j))
          place
          ∙ ap (option_map (λ (x : Capability). let o : OwnedCapability = record { owner = d.caps.owner; capability = x } in o)) there,
    )
