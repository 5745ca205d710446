-- An item of two lists that are put together stands in one of them.
use Rattle.std.proofs.Common.{◌≡◌, ℕ, zero, suc, List, [], ◌∷◌, ◌++◌, Some, slice_get, inl, inr, ◌⊎◌, Contains}
use Rattle.list_lemmas.proofs.ItemsOfLists.{Contains-at}

module _ {X : Type 0} where
  pub slice_get-append_cases : (xs ys : List X) (k : ℕ) (x : X) → slice_get (xs ++ ys) k ≡ Some x → (slice_get xs k ≡ Some x) ⊎ Contains ys x
  slice_get-append_cases [] ys k x e = inr (Contains-at ys k x e)
  slice_get-append_cases (z ∷ xs) ys zero x e = inl e
  slice_get-append_cases (z ∷ xs) ys (suc k) x e = slice_get-append_cases xs ys k x e
