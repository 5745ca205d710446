-- What stands at a place of a list that has one item more at its end.
use Rattle.std.proofs.Common.{◌≡◌, ℕ, zero, suc, ◌<◌, List, [], ◌∷◌, ◌++◌, length, refl, arith}
use Rattle.std.specs.Prelude.{slice_get}

module _ {X : Type 0} where
  pub slice_get-front : (xs : List X) (y : X) (k : ℕ) → k < length xs → slice_get (xs ++ y ∷ []) k ≡ slice_get xs k
  slice_get-front [] y k h = absurd (omega arith)
  slice_get-front (x ∷ xs) y zero h = refl
  slice_get-front (x ∷ xs) y (suc k) h = slice_get-front xs y k (omega arith)
