-- Where one range of capabilities is changed, one domain is.
use Rattle.std.proofs.Common.{◌≡◌, ℕ, zero, suc, ◌+◌, ◌<◌, inl, inr, true, false, List, [], ◌∷◌, find, map, Some, slice_get, refl, ap, ◌∙◌, arith}
use Rattle.std.specs.Prelude.{◌==◌, if◌then◌else◌}
use Rattle.std.proofs.lemmas.Bool.{cases_Bool, eq-eqb, ne_eqb}
use Rattle.std.proofs.lemmas.Option.{same_Some}
use Rattle.jk_model_heaps.specs.Capabilities.{CapRange}
use Rattle.jk_model_sharing.specs.SharedStates.{SharedDomain}
use Rattle.thread_segments.specs.declared.domains.DomainEntry.{DomainEntry}
use Rattle.thread_segments.specs.DomainEntries.{domains_with}

-- the ranges are those of the domains from this number on
abbrev pub AreOwnedFrom : ℕ → List CapRange → Type 0
AreOwnedFrom n rs = (i : ℕ) (r : CapRange) → slice_get rs i ≡ Some r → r.owner.0 ≡ n + i

owned_tail : (n : ℕ) (y : CapRange) (rs : List CapRange) → AreOwnedFrom n (y ∷ rs) → AreOwnedFrom (suc n) rs
owned_tail n y rs h i r at = let e = h (suc i) r at in omega (arith, e)

pub owner_found : (n i k : ℕ) (rs : List CapRange) (r : CapRange) → AreOwnedFrom n rs → slice_get rs i ≡ Some r → k ≡ n + i
    → find (λ (x : CapRange). x.owner.0 == k) rs ≡ Some r
owner_found n i k [] r h at is = absurd cc
owner_found n zero k (y ∷ rs) r h at is =
    let owner : y.owner.0 ≡ k = omega (arith, h zero y refl, is) in
    let hit : (y.owner.0 == k) ≡ true = eq-eqb y.owner.0 k owner in
    rw hit at
owner_found n (suc i) k (y ∷ rs) r h at is =
    let miss : (y.owner.0 == k) ≡ false = ne_eqb y.owner.0 k (λ e. omega (arith, h zero y refl, is, e)) in
    rw miss (owner_found (suc n) i k rs r (owned_tail n y rs h) at (omega (arith, is)))

abbrev pub one_range : (CapRange → CapRange) → ℕ → CapRange → CapRange
one_range g k r = if r.owner.0 == k then g r else r

abbrev pub one_domain : ℕ → CapRange → SharedDomain → SharedDomain
one_domain k range e = if e.number.0 == k then record e { caps = range } else e

module _ (g : CapRange → CapRange) (k : ℕ) (range : CapRange) where
  caps_past : (n : ℕ) (es : List DomainEntry) (rs : List CapRange) → AreOwnedFrom n rs → k < n
      → domains_with n es (map (one_range g k) rs) ≡ map (one_domain k range) (domains_with n es rs)
  caps_past n [] rs h past = refl
  caps_past n (x ∷ es) [] h past = refl
  caps_past n (x ∷ es) (y ∷ rs) h past =
      let owner : (y.owner.0 == k) ≡ false = ne_eqb y.owner.0 k (λ e. omega (arith, h zero y refl, e, past)) in
      let number : (n == k) ≡ false = ne_eqb n k (λ e. omega (arith, e, past)) in
      rw (owner, number, caps_past (suc n) es rs (owned_tail n y rs h) (omega arith)) refl

  pub caps_changed : (n i : ℕ) (es : List DomainEntry) (rs : List CapRange) (r : CapRange) → AreOwnedFrom n rs → slice_get rs i ≡ Some r → k ≡ n + i
      → g r ≡ range → domains_with n es (map (one_range g k) rs) ≡ map (one_domain k range) (domains_with n es rs)
  caps_changed n i [] rs r h at is becomes = refl
  caps_changed n i (x ∷ es) [] r h at is becomes = refl
  caps_changed n zero (x ∷ es) (y ∷ rs) r h at is becomes =
      let owner : (y.owner.0 == k) ≡ true = eq-eqb y.owner.0 k (omega (arith, h zero y refl, is)) in
      let number : (n == k) ≡ true = eq-eqb n k (omega (arith, is)) in
      let new : g y ≡ range = ap g (same_Some y r at) ∙ becomes in
      rw (owner, number, new, caps_past (suc n) es rs (owned_tail n y rs h) (omega (arith, is))) refl
  caps_changed n (suc i) (x ∷ es) (y ∷ rs) r h at is becomes =
      let owner : (y.owner.0 == k) ≡ false = ne_eqb y.owner.0 k (λ e. omega (arith, h zero y refl, e, is)) in
      let number : (n == k) ≡ false = ne_eqb n k (λ e. omega (arith, e, is)) in
      rw (owner, number, caps_changed (suc n) i es rs r (owned_tail n y rs h) at (omega (arith, is)) becomes) refl

-- a range that is put where it stands
pub range_stays : (k : ℕ) (rs : List CapRange) → map (one_range (λ (r : CapRange). r) k) rs ≡ rs
range_stays k [] = refl
range_stays k (r ∷ rs) =
    elim (cases_Bool (r.owner.0 == k)) [
      | inl hit ↦ rw hit (ap (λ (xs : List CapRange). r ∷ xs) (range_stays k rs))
      | inr miss ↦ rw miss (ap (λ (xs : List CapRange). r ∷ xs) (range_stays k rs))
    ]
