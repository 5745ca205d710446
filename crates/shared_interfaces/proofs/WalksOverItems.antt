-- A walk over a list finds the first item that is so, or has seen that none is.
use Rattle.std.proofs.Common.{◌≡◌, ℕ, ◌+◌, ◌≤◌, ◌↔◌, inl, inr, Bool, true, false, IsTrue, List, length, Some, refl, sym, ◌∙◌, subst, slice_get, arith, not}
use Rattle.std.proofs.lemmas.Bool.{cases_lt}
use Rattle.std.proofs.lemmas.Option.{slice_get_within, same_Some}
use Rattle.jk_model_classes.specs.Items.{HasItem, HasItemBefore}

-- ---- What an answer says.

-- the opposite of a test, of the opposite
pub opposite : (b : Bool) (P : Type 0) → (IsTrue b ↔ P) → IsTrue (not b) ↔ (P → ⊥)
opposite true P h = (λ t. absurd cc, λ never. absurd (never (h.0 refl)))
opposite false P h = (λ t p. let no : false ≡ true = h.1 p in absurd cc, λ never. refl)

-- ---- The walk, at place k with item x.

module _ {X : Type 0} (P : X → Type 0) (xs : List X) where
  pub none_before : HasItemBefore 0 P xs → ⊥
  none_before (i, x, below, at, p) = omega arith

  pub none_here : (k : ℕ) (x : X) → slice_get xs k ≡ Some x → (P x → ⊥) → (HasItemBefore k P xs → ⊥) → HasItemBefore (k + 1) P xs → ⊥
  none_here k x is never none (i, y, below, at, p) =
      elim (cases_lt i k) [
        | inl less ↦ none (i, y, less, at, p)
        | inr least ↦
            let here : k ≡ i = omega arith in
            let found : slice_get xs i ≡ Some x = subst (λ (n : ℕ). slice_get xs n ≡ Some x) here is in
            never (subst P (same_Some y x (sym at ∙ found)) p)
      ]

  pub one_here : (k : ℕ) (x : X) → slice_get xs k ≡ Some x → P x → HasItem P xs
  one_here k x is p = (k, x, is, p)

  pub none_there : (k : ℕ) → length xs ≤ k → (HasItemBefore k P xs → ⊥) → HasItem P xs → ⊥
  none_there k all none (i, x, at, p) = none (i, x, omega (arith, slice_get_within xs i x at), at, p)

  -- what a walk answers that stops at the first
  pub found : (k : ℕ) (x : X) → slice_get xs k ≡ Some x → P x → IsTrue true ↔ HasItem P xs
  found k x is p = (λ t. one_here k x is p, λ h. refl)

  pub missed : (k : ℕ) → length xs ≤ k → (HasItemBefore k P xs → ⊥) → IsTrue false ↔ HasItem P xs
  missed k all none = (λ t. absurd cc, λ h. absurd (none_there k all none h))
