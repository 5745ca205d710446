-- What is read at a place of a list whose items are all so, or are all the same.
use Rattle.std.proofs.Common.{◌≡◌, ℕ, zero, suc, ◌<◌, true, false, List, [], ◌∷◌, length, get_or, replicate, Some, slice_get, arith}
use Rattle.std.specs.List.{AllByRecursion}

pub all_read : {X : Type 0} (P : X → Type 0) (xs : List X) (k : ℕ) (d : X) → AllByRecursion P xs → k < length xs → P (get_or xs k d)
all_read P [] k d h below = absurd (omega arith)
all_read P (x ∷ xs) zero d h below = h.0
all_read P (x ∷ xs) (suc k) d h below = all_read P xs k d h.1 (omega arith)

-- where all marks are off, none is on
pub none_marked : (n k : ℕ) → slice_get (replicate n false) k ≡ Some true → ⊥
none_marked zero k e = absurd cc
none_marked (suc n) zero e = absurd cc
none_marked (suc n) (suc k) e = none_marked n k e
