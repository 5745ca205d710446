-- Reading an entry by its tag, and how the faults of its parts are answered.
use Rattle.std.specs.Prelude.{ℕ, Bool, true, false, List, Option, Result, Ok, Err}
use Rattle.std.specs.Int.{w16, w32, w64}
use Rattle.byte_fields.specs.declared.errors.ReadError.{ReadError}
use Rattle.byte_fields.specs.declared.errors.ReadError.TheVariants as reads
use Rattle.byte_fields.specs.Reading.{mapped_at, number_at, pair_at, block_at}
use Rattle.jk_model.specs.declared.class_file.PoolEntry.{PoolEntry}
use Rattle.jk_model.specs.declared.class_file.PoolEntry.TheVariants as entries
use Rattle.const_pool.specs.declared.tags.Tag.{Tag}
use Rattle.const_pool.specs.declared.tags.Tag.TheVariants.{Utf8, Integer, Float, Long, Double, Class, Str, FieldRef, MethodRef, InterfaceMethodRef, NameAndType}
use Rattle.const_pool.specs.declared.judge.EntryFault.{EntryFault}
use Rattle.const_pool.specs.declared.judge.EntryFault.TheVariants as faults
use Rattle.const_pool.specs.declared.pool.PoolError.{PoolError}
use Rattle.const_pool.specs.declared.pool.PoolError.TheVariants.{BadIndex, BadUtf, Truncated, OutOfMemory}

-- what a function returned, seen by view
abbrev pub seen : {X Y E : Type 0} → (X → Y) → Result X E → Result Y E
seen view (Ok x) = Ok (view x)
seen view (Err e) = Err e

-- why a pool is not read, where a field is not
abbrev pub read_error : ReadError → PoolError
read_error reads.EndsEarly = Truncated
read_error reads.OutOfMemory = OutOfMemory

-- why a pool is refused, where an entry isn't good
abbrev pub fault_error : EntryFault → PoolError
fault_error (faults.BadIndex i) = BadIndex i
fault_error (faults.BadUtf i) = BadUtf i

-- ---- Entries.

abbrev pub tag_number : Tag → ℕ
tag_number Utf8 = 1
tag_number Integer = 3
tag_number Float = 4
tag_number Long = 5
tag_number Double = 6
tag_number Class = 7
tag_number Str = 8
tag_number FieldRef = 9
tag_number MethodRef = 10
tag_number InterfaceMethodRef = 11
tag_number NameAndType = 12

abbrev pub is_wide : Tag → Bool
is_wide Long = true
is_wide Double = true
is_wide _ = false

-- what stands after a tag
unfoldable pub body_at : Tag → List ℕ → Option (PoolEntry × List ℕ)
body_at Utf8 bytes = mapped_at (λ t. entries.Utf8 t) (block_at w16) bytes
body_at Integer bytes = mapped_at (λ n. entries.Integer n) (number_at w32) bytes
body_at Float bytes = mapped_at (λ n. entries.Float n) (number_at w32) bytes
body_at Long bytes = mapped_at (λ n. entries.Long n) (number_at w64) bytes
body_at Double bytes = mapped_at (λ n. entries.Double n) (number_at w64) bytes
body_at Class bytes = mapped_at (λ i. entries.Class i) (number_at w16) bytes
body_at Str bytes = mapped_at (λ i. entries.Str i) (number_at w16) bytes
body_at FieldRef bytes = mapped_at (λ p. entries.FieldRef p.0 p.1) pair_at bytes
body_at MethodRef bytes = mapped_at (λ p. entries.MethodRef p.0 p.1) pair_at bytes
body_at InterfaceMethodRef bytes = mapped_at (λ p. entries.InterfaceMethodRef p.0 p.1) pair_at bytes
body_at NameAndType bytes = mapped_at (λ p. entries.NameAndType p.0 p.1) pair_at bytes
