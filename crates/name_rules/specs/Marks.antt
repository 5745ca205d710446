-- Marks at places.
use Rattle.std.specs.Prelude.{◌≡◌, ℕ, ◌<◌, ◌⊎◌, ◌↔◌, Bool, true, List, length, Some, slice_get}

abbrev pub IsMarked : List Bool → ℕ → Type 0
IsMarked marks i = slice_get marks i ≡ Some true

-- what is so is marked too, as far as there are marks
pub record Marks (Marked : ℕ → Type 0) (before after : List Bool) : Type 0 where
  pub as_many : length after ≡ length before
  pub at : (i : ℕ) → i < length before → IsMarked after i ↔ (IsMarked before i ⊎ Marked i)

-- of so many places those are marked that are so
pub record MarksOf (n : ℕ) (Marked : ℕ → Type 0) (marks : List Bool) : Type 0 where
  pub as_many : length marks ≡ n
  pub at : (i : ℕ) → i < n → IsMarked marks i ↔ Marked i
