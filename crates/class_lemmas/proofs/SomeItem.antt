-- A walk over a list has seen that no item is so, a place at a time.
use Rattle.std.proofs.Common.{◌≡◌, ℕ, ◌+◌, ◌<◌, ◌≤◌, inl, inr, List, length, Some, refl, sym, ◌∙◌, subst, arith}
use Rattle.std.specs.Prelude.{slice_get}
use Rattle.std.proofs.Math.ListN.{get_or}
use Rattle.std.proofs.lemmas.Bool.{cases_lt}
use Rattle.std.proofs.lemmas.Option.{slice_get_within, slice_get_read, same_Some}
use Rattle.jk_model_classes.specs.Items.{HasItem, HasItemBefore}

pub none_yet : {X : Type 0} (P : X → Type 0) (xs : List X) → HasItemBefore 0 P xs → ⊥
none_yet P xs (i, x, below, at, p) = omega arith

pub none_more : {X : Type 0} (P : X → Type 0) (xs : List X) (k : ℕ) (x : X) → k < length xs → x ≡ get_or xs k x → (P x → ⊥)
    → (HasItemBefore k P xs → ⊥) → HasItemBefore (k + 1) P xs → ⊥
none_more P xs k x within is never none (i, y, below, at, p) =
    elim (cases_lt i k) [
      | inl less ↦ none (i, y, less, at, p)
      | inr least ↦
          let here : i ≡ k = omega arith in
          let same : y ≡ x = same_Some y x
          (sym at ∙ subst (λ (n : ℕ). slice_get xs n ≡ Some x) (sym here) (slice_get_read xs (length xs) k x refl within is)) in
          never (subst P same p)
    ]

pub none_at_all : {X : Type 0} (P : X → Type 0) (xs : List X) (k : ℕ) → length xs ≤ k → (HasItemBefore k P xs → ⊥) → HasItem P xs → ⊥
none_at_all P xs k all none (i, x, at, p) = none (i, x, omega (arith, slice_get_within xs i x at), at, p)
