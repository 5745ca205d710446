-- Which words of a pool can be read.
use Rattle.std.specs.Prelude.{◌≡◌, ℕ, List, Option, Some, slice_get}

-- the word at this place was cleared or stored
abbrev pub IsReadable : List (Option ℕ) → ℕ → Type 0
IsReadable words at = (word : ℕ) × (slice_get words at ≡ Some (Some word))
