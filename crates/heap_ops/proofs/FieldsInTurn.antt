-- The fields that a loop has passed: a list, cut at a place, with the next one, and with all of them.
use Rattle.std.proofs.Common.{◌≡◌, ℕ, ◌+◌, ◌<◌, ◌≤◌, List, [], ◌∷◌, ◌++◌, length, take, drop, get_or, Some, slice_get, sym, ap, subst, ◌∙◌, arith}
use Rattle.std.proofs.lemmas.List.{length-take, take-append-drop, take_all, take_more}
use Rattle.list_lemmas.proofs.ItemsByPlace.{item_read}

-- a loop goes over `ys`, which is the list `xs` of the class
module _ {X : Type 0} (xs ys : List X) (same : ys ≡ xs) (i : ℕ) where
  pub passed_all : length ys ≤ i → take i xs ≡ xs
  passed_all end = take_all i xs (subst (λ (l : List X). length l ≤ i) same end)

  module _ (low : i < length ys) where
    within : i < length xs
    within = subst (λ (l : List X). i < length l) same low

    pub passed : i ≡ length (take i xs)
    passed = let low_here = within in omega (arith, length-take i xs, low_here)

    module _ (x : X) (is : x ≡ get_or ys i x) where
      read : x ≡ get_or xs i x
      read = is ∙ ap (λ (l : List X). get_or l i x) same

      pub next_at : slice_get xs i ≡ Some x
      next_at = item_read xs i x within read

      pub next_passed : take (i + 1) xs ≡ take i xs ++ x ∷ []
      next_passed = take_more xs i x within ∙ ap (λ (y : X). take i xs ++ y ∷ []) (sym read)

      pub others_after : xs ≡ (take i xs ++ x ∷ []) ++ drop (i + 1) xs
      others_after = sym (take-append-drop (i + 1) xs) ∙ ap (λ (l : List X). l ++ drop (i + 1) xs) next_passed
