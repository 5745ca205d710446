-- What one entry of a pool spells.
use Rattle.std.specs.Prelude.{ℕ, ⊤, List, Option, Some, None}
use Rattle.jk_model.specs.declared.class_file.PoolEntry.{PoolEntry}
use Rattle.jk_model.specs.declared.class_file.PoolEntry.TheVariants.{Utf8}
use Rattle.jk_model.specs.Text.{IsModifiedUtf8, Spells}

-- its bytes are a text, where it is a Utf8 entry
abbrev pub IsText : PoolEntry → Type 0
IsText (Utf8 bytes) = IsModifiedUtf8 bytes
IsText _ = ⊤

-- the units that a Utf8 entry spells, and nothing for each other entry
abbrev pub IsTextOf : PoolEntry → Option (List ℕ) → Type 0
IsTextOf (Utf8 bytes) (Some units) = Spells bytes units
IsTextOf (Utf8 bytes) None = ⊥
IsTextOf _ (Some units) = ⊥
IsTextOf _ None = ⊤
