-- A search of a list by a decided predicate ends: there is a first item that is so, or none, and a longest front of such items.
use Rattle.std.proofs.Common.{◌≡◌, ℕ, zero, suc, ◌<◌, inl, inr, List, [], ◌∷◌, Some, refl, sym, subst, arith}
use Rattle.std.specs.Prelude.{slice_get}
use Rattle.std.proofs.lemmas.Option.{same_Some}
use Rattle.jk_model_classes.specs.Items.{HasItem, HasItemBefore}
use Rattle.decided_lookups.specs.Decisions.{IsDecided}
use Rattle.decided_lookups.specs.Findings.{HasFirstOrNone, IsLongestFront}

module _ {X : Type 0} (P : X → Type 0) (decide : (x : X) → IsDecided (P x)) where
  before_later : (x : X) (items : List X) (place : ℕ) → (P x → ⊥) → (HasItemBefore place P items → ⊥) → HasItemBefore (suc place) P (x ∷ items) → ⊥
  before_later x items place fails none (zero, y, low, at, holds) = fails (subst P (sym (same_Some x y at)) holds)
  before_later x items place fails none (suc i, y, low, at, holds) = none (i, y, omega (arith, low), at, holds)

  none_later : (x : X) (items : List X) → (P x → ⊥) → (HasItem P items → ⊥) → HasItem P (x ∷ items) → ⊥
  none_later x items fails none (zero, y, at, holds) = fails (subst P (sym (same_Some x y at)) holds)
  none_later x items fails none (suc i, y, at, holds) = none (i, y, at, holds)

  pub first_or_none : (items : List X) → HasFirstOrNone P items
  first_or_none [] = inr (λ (i, x, at, holds). absurd cc)
  first_or_none (x ∷ items) = elim (decide x) [
    | inl holds ↦ inl (0, x, record { at = refl; holds = holds; first = λ (i, y, low, at, so). omega (arith, low) })
    | inr fails ↦ elim (first_or_none items) [
      | inl (place, y, first) ↦
          inl (suc place, y, record { at = first.at; holds = first.holds; first = before_later x items place fails first.first })
      | inr none ↦ inr (none_later x items fails none)
    ]
  ]

  each_more : (x : X) (items : List X) (n : ℕ) → P x → ((i : ℕ) (y : X) → i < n → slice_get items i ≡ Some y → P y)
      → (i : ℕ) (y : X) → i < suc n → slice_get (x ∷ items) i ≡ Some y → P y
  each_more x items n holds each zero y low at = subst P (same_Some x y at) holds
  each_more x items n holds each (suc i) y low at = each i y (omega (arith, low)) at

  pub longest_front : (items : List X) → (n : ℕ) × IsLongestFront P items n
  longest_front [] = (0, record { within = omega arith; each = λ i x low at. absurd (omega (arith, low)); ends = λ x at holds. absurd cc })
  longest_front (x ∷ items) = elim (decide x) [
    | inl holds ↦
        let rest = longest_front items in (
          suc rest.0,
          record {
            within = omega (arith, rest.1.within);
            each = each_more x items rest.0 holds rest.1.each;
            ends = rest.1.ends;
          },
        )
    | inr fails ↦ (
      0,
      record {
        within = omega arith;
        each = λ i y low at. absurd (omega (arith, low));
        ends = λ y at holds. fails (subst P (sym (same_Some x y at)) holds);
      },
    )
  ]
