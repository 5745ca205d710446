-- The constant pool by itself, at the front of some bytes (the Java Virtual Machine Specification, section
-- 4.4): which pool they hold, and where they stop holding one. It is judged in two passes: first each entry
-- is read, then what the entries say is looked at.
use Rattle.std.specs.Prelude.{◌≡◌, ℕ, ◌+◌, ◌<◌, ◌≤◌, ◌≢◌, ◌⊎◌, List, [], ◌∷◌, ◌++◌, length, take, flat_map, Some, slice_get}
use Rattle.std.specs.List.{AllByRecursion}
use Rattle.jk_model.specs.declared.class_file.PoolEntry.{PoolEntry}
use Rattle.jk_model.specs.ClassFile.{u2, IsU2, entry_bytes, IsEntry, AreSlots, BeginsUnusable, IsPool, pool_bytes, IsUtf8Entry, IsGoodEntry}

-- the pool is laid out in front, and these bytes follow it
abbrev pub BeginsWithPool : List ℕ → List PoolEntry → List ℕ → Type 0
BeginsWithPool bytes pool rest = IsPool pool × (bytes ≡ pool_bytes pool ++ rest)

-- the bytes hold this pool: it is laid out in front, and its entries are good
abbrev pub HasPool : List ℕ → List PoolEntry → Type 0
HasPool bytes pool = ((rest : List ℕ) × BeginsWithPool bytes pool rest) × AllByRecursion (IsGoodEntry pool) pool

-- ---- While the entries are read.

-- the bytes end within a pool
abbrev pub IsCutPool : List ℕ → Type 0
IsCutPool bytes = (pool : List PoolEntry) × (more : List ℕ) × (more ≢ []) × IsPool pool × (bytes ++ more ≡ pool_bytes pool)

-- the tags of entries
abbrev pub IsTag : ℕ → Type 0
IsTag tag = (tag ≡ 1) ⊎ ((3 ≤ tag) × (tag ≤ 12))

-- those of the entries after which an index is unusable: Long and Double
abbrev pub IsWideTag : ℕ → Type 0
IsWideTag tag = (tag ≡ 5) ⊎ (tag ≡ 6)

-- these entries may stand at the indices from 0 on
abbrev pub AreFirstEntries : List PoolEntry → Type 0
AreFirstEntries entries = BeginsUnusable AreSlots entries × AllByRecursion IsEntry entries

-- At this index stands a tag that is none, or that of a Long or Double in a pool that ends at it.
abbrev pub HasBadTag : List ℕ → ℕ → Type 0
HasBadTag bytes i =
    (count : ℕ) × (entries : List PoolEntry) × (tag : ℕ) × (more : List ℕ) × IsU2 count × AreFirstEntries entries
    × (bytes ≡ u2 count ++ flat_map entry_bytes entries ++ tag ∷ more) × (length entries ≡ i) × (i < count)
    × ((IsTag tag → ⊥) ⊎ (IsWideTag tag × (i + 1 ≡ count)))

-- the count is 0, so that not even index 0 is there
abbrev pub HasNoIndex : List ℕ → Type 0
HasNoIndex bytes = (more : List ℕ) × (bytes ≡ u2 0 ++ more)

-- at this index the entries stop being those of a pool
abbrev pub StopsAtTag : List ℕ → ℕ → Type 0
StopsAtTag bytes i = (HasNoIndex bytes × (i ≡ 0)) ⊎ HasBadTag bytes i

-- ---- Once all entries are read.

-- the first entry of a pool, by its index, that isn't good
abbrev pub IsFirstBadEntry : List PoolEntry → ℕ → PoolEntry → Type 0
IsFirstBadEntry pool i e =
    (slice_get pool i ≡ Some e) × AllByRecursion (IsGoodEntry pool) (take i pool) × (IsGoodEntry pool e → ⊥)

-- its text is no modified UTF-8
abbrev pub HasBadText : List ℕ → ℕ → Type 0
HasBadText bytes i =
    (pool : List PoolEntry) × (rest : List ℕ) × (e : PoolEntry) × BeginsWithPool bytes pool rest
    × IsFirstBadEntry pool i e × IsUtf8Entry e

-- it names an index that is out of range, or an entry of another kind than it needs
abbrev pub HasBadIndex : List ℕ → ℕ → Type 0
HasBadIndex bytes i =
    (pool : List PoolEntry) × (rest : List ℕ) × (e : PoolEntry) × BeginsWithPool bytes pool rest
    × IsFirstBadEntry pool i e × (IsUtf8Entry e → ⊥)
