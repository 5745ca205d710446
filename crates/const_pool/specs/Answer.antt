-- What each pass answers.
use Rattle.std.specs.Prelude.{◌≡◌, ◌≢◌, ℕ, ◌+◌, ◌≤◌, ◌⊎◌, IsTrue, List, [], ◌∷◌, ◌++◌, length, Result, Ok, Err}
use Rattle.std.specs.List.{AllByRecursion}
use Rattle.jk_model.specs.declared.class_file.PoolEntry.{PoolEntry}
use Rattle.jk_model.specs.declared.class_file.PoolEntry.TheVariants.{Unusable, Long, Double}
use Rattle.jk_model.specs.ClassFile.{IsEntry, entry_bytes, IsUtf8Entry, IsGoodEntry}
use Rattle.jk_model.specs.ConstantPool.{BeginsWithPool, IsCutPool, IsTag, IsWideTag, StopsAtTag, IsFirstBadEntry, HasBadIndex, HasBadText}
use Rattle.const_pool.specs.declared.tags.Tag.{Tag}
use Rattle.const_pool.specs.declared.judge.EntryFault.{EntryFault}
use Rattle.const_pool.specs.declared.judge.EntryFault.TheVariants as faults
use Rattle.const_pool.specs.declared.pool.PoolError.{PoolError}
use Rattle.const_pool.specs.declared.pool.PoolError.TheVariants.{BadTag, BadIndex, BadUtf, Truncated, OutOfMemory}
use Rattle.const_pool.specs.Reading.{tag_number, is_wide}

-- ---- The first pass.

-- the unusable index after an entry, where it has one
abbrev pub second_index : PoolEntry → List PoolEntry
second_index (Long n) = Unusable ∷ []
second_index (Double n) = Unusable ∷ []
second_index _ = []

-- an entry at its index, or its two indices
abbrev pub group : PoolEntry → List PoolEntry
group e = e ∷ second_index e

-- an entry that has bytes
abbrev pub IsSlot : PoolEntry → Type 0
IsSlot Unusable = ⊥
IsSlot e = IsEntry e

-- what is answered of the entry at an index of a pool of so many
abbrev pub IsEntryAnswer : ℕ → ℕ → List ℕ → Result (PoolEntry × List ℕ) PoolError → Type 0
IsEntryAnswer index count bytes (Ok (e, after)) = IsSlot e × (bytes ≡ entry_bytes e ++ after) × (index + length (group e) ≤ count)
IsEntryAnswer index count bytes (Err (BadTag i)) =
    (i ≡ index) × ((tag : ℕ) × (more : List ℕ) × (bytes ≡ tag ∷ more) × ((IsTag tag → ⊥) ⊎ (IsWideTag tag × (index + 1 ≡ count))))
IsEntryAnswer index count bytes (Err Truncated) =
    (e : PoolEntry) × (more : List ℕ) × (more ≢ []) × IsSlot e × (bytes ++ more ≡ entry_bytes e) × (index + length (group e) ≤ count)
IsEntryAnswer index count bytes (Err (BadIndex i)) = ⊥
IsEntryAnswer index count bytes (Err (BadUtf i)) = ⊥
IsEntryAnswer index count bytes (Err OutOfMemory) = Unit {0}

-- what is answered of the tag in front of such an entry, and of the bytes after it
abbrev pub IsTagAnswer : ℕ → ℕ → List ℕ → Result (Tag × List ℕ) PoolError → Type 0
IsTagAnswer index count bytes (Ok (t, after)) = (bytes ≡ tag_number t ∷ after) × (IsTrue (is_wide t) → index + 1 ≢ count)
IsTagAnswer index count bytes (Err e) = IsEntryAnswer index count bytes (Err e)

-- what is answered of the front of a pool's bytes
abbrev pub IsPoolAnswer : List ℕ → Result (List PoolEntry × List ℕ) PoolError → Type 0
IsPoolAnswer bytes (Ok (pool, after)) = BeginsWithPool bytes pool after
IsPoolAnswer bytes (Err (BadTag i)) = StopsAtTag bytes i
IsPoolAnswer bytes (Err (BadIndex i)) = ⊥
IsPoolAnswer bytes (Err (BadUtf i)) = ⊥
IsPoolAnswer bytes (Err Truncated) = IsCutPool bytes
IsPoolAnswer bytes (Err OutOfMemory) = Unit {0}

-- ---- The second pass.

-- what is answered of an entry at an index
abbrev pub IsJudgment : List PoolEntry → PoolEntry → ℕ → Result Unit EntryFault → Type 0
IsJudgment pool e index (Ok u) = IsGoodEntry pool e
IsJudgment pool e index (Err (faults.BadIndex i)) = (i ≡ index) × (IsUtf8Entry e → ⊥) × (IsGoodEntry pool e → ⊥)
IsJudgment pool e index (Err (faults.BadUtf i)) = (i ≡ index) × IsUtf8Entry e × (IsGoodEntry pool e → ⊥)

-- what is answered of all entries
abbrev pub IsPoolJudgment : List PoolEntry → Result Unit EntryFault → Type 0
IsPoolJudgment pool (Ok u) = AllByRecursion (IsGoodEntry pool) pool
IsPoolJudgment pool (Err (faults.BadIndex i)) = (e : PoolEntry) × IsFirstBadEntry pool i e × (IsUtf8Entry e → ⊥)
IsPoolJudgment pool (Err (faults.BadUtf i)) = (e : PoolEntry) × IsFirstBadEntry pool i e × IsUtf8Entry e

-- ---- Both passes.

-- what is answered of bytes that should begin with a pool
abbrev pub IsAnswer : List ℕ → Result (List PoolEntry × List ℕ) PoolError → Type 0
IsAnswer bytes (Ok (pool, after)) = BeginsWithPool bytes pool after × AllByRecursion (IsGoodEntry pool) pool
IsAnswer bytes (Err (BadTag i)) = StopsAtTag bytes i
IsAnswer bytes (Err (BadIndex i)) = HasBadIndex bytes i
IsAnswer bytes (Err (BadUtf i)) = HasBadText bytes i
IsAnswer bytes (Err Truncated) = IsCutPool bytes
IsAnswer bytes (Err OutOfMemory) = Unit {0}
