-- Items that a walk over a list has seen so far.
use Rattle.std.proofs.Common.{◌≡◌, ℕ, ◌+◌, ◌≤◌, ◌⊎◌, inl, inr, List, length, Some, slice_get, sym, ◌∙◌, subst, arith}
use Rattle.std.proofs.lemmas.Bool.{cases_lt}
use Rattle.std.proofs.lemmas.Option.{same_Some, slice_get_within}
use Rattle.jk_model_classes.specs.Items.{HasItem, HasItemBefore}

module _ {X : Type 0} (P : X → Type 0) (xs : List X) (k : ℕ) where
  pub before_split : (x : X) → slice_get xs k ≡ Some x → HasItemBefore (k + 1) P xs → HasItemBefore k P xs ⊎ P x
  before_split x at (i, y, below, found, p) =
      elim (cases_lt i k) [
        | inl less ↦ inl (i, y, less, found, p)
        | inr least ↦
            let place : i ≡ k = omega arith in
            let one : y ≡ x = same_Some y x (sym found ∙ subst (λ (n : ℕ). slice_get xs n ≡ Some x) (sym place) at) in
            inr (subst P one p)
      ]

  pub before_old : HasItemBefore k P xs → HasItemBefore (k + 1) P xs
  before_old (i, y, below, found, p) = (i, y, omega arith, found, p)

  pub before_new : (x : X) → slice_get xs k ≡ Some x → P x → HasItemBefore (k + 1) P xs
  before_new x at p = (k, x, omega arith, at, p)

  pub all_before : length xs ≤ k → HasItem P xs → HasItemBefore k P xs
  all_before all (i, y, found, p) = let within = slice_get_within xs i y found in (i, y, omega arith, found, p)

  pub some_before : HasItemBefore k P xs → HasItem P xs
  some_before (i, y, below, found, p) = (i, y, found, p)
