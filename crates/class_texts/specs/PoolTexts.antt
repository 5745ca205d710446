-- The texts of a pool: what each Utf8 entry spells.
use Rattle.std.specs.Prelude.{◌≡◌, ℕ, ◌↔◌, List, length, Option, Some, slice_get}
use Rattle.jk_model.specs.declared.class_file.PoolEntry.{PoolEntry}
use Rattle.jk_model_classes.specs.Members.{TextAt}

-- One for each entry: the units that a Utf8 entry spells, and nothing for each other entry.
pub record AreTextsOf (pool : List PoolEntry) (texts : List (Option (List ℕ))) : Type 0 where
  pub as_many : length texts ≡ length pool
  pub each : (i : ℕ) (units : List ℕ) → TextAt pool i units ↔ (slice_get texts i ≡ Some (Some units))
