-- What the index of a pool knows, and what holds after one entry was put into the pool.
use Rattle.std.specs.Prelude.{◌≡◌, ◌≢◌, ℕ, ◌+◌, ◌<◌, ◌⊎◌, List, ◌++◌, length, Option, Some, None, slice_get}
use Rattle.std.specs.BTreeMap.{BTreeMap, get}
use Rattle.jk_model.specs.declared.class_file.PoolEntry.{PoolEntry}
use Rattle.jk_model.specs.declared.class_file.PoolEntry.TheVariants.{Unusable}
use Rattle.jkasm.specs.declared.pool.key.Key.{Key}
use Rattle.jkasm.specs.contracts.pool.key.KeyOrd.TheImpl as block
use Rattle.jkasm.specs.PoolGrowth.{IsFilePool}
use Rattle.jkasm.specs.PoolKeys.{entry_of, slots_of}

-- the entry stands at this index and nowhere else, or nowhere at all
abbrev pub StandsOnlyAt : List PoolEntry → PoolEntry → Option ℕ → Type 0
StandsOnlyAt pool e None = (j : ℕ) → slice_get pool j ≡ Some e → ⊥
StandsOnlyAt pool e (Some i) = (slice_get pool i ≡ Some e) × ((j : ℕ) → slice_get pool j ≡ Some e → j ≡ i)

-- each entry stands in the pool once
abbrev pub EntriesDiffer : List PoolEntry → Type 0
EntriesDiffer pool = (i j : ℕ) (e : PoolEntry) → e ≢ Unusable → slice_get pool i ≡ Some e → slice_get pool j ≡ Some e → i ≡ j

-- the index has the place of each entry of the pool, and the pool is that of a class file
pub record IsIndexed (pool : List PoolEntry) (index : BTreeMap Key ℕ) : Type 0 where
  pub places : (key : Key) → StandsOnlyAt pool (entry_of key) (get block.ghosts.cmp index key)
  pub differ : EntriesDiffer pool
  pub file : IsFilePool pool

-- the entry of this content has index i now. It was there, or it came to the end.
pub record HasPut (old new : List PoolEntry) (key : Key) (i : ℕ) : Type 0 where
  pub found : slice_get new i ≡ Some (entry_of key)
  pub grows : (new ≡ old) ⊎ ((new ≡ old ++ slots_of key) × (i ≡ length old))
  pub differ : EntriesDiffer new

-- the entry of this content isn't in the pool, and has no room at its end
pub record IsFull (pool : List PoolEntry) (key : Key) : Type 0 where
  pub absent : (j : ℕ) → slice_get pool j ≡ Some (entry_of key) → ⊥
  pub places : 65535 < length pool + length (slots_of key)
  pub differ : EntriesDiffer pool
  pub file : IsFilePool pool
