-- What is done for a code line: its instruction is written, and its constants are put into the pool.
use Rattle.std.specs.Prelude.{◌≡◌, ℕ, ◌+◌, ◌≤◌, List, ◌++◌, length, Option}
use Rattle.jk_model.specs.declared.class_file.PoolEntry.{PoolEntry}
use Rattle.asm_reader.specs.declared.items.CodeLine.{CodeLine}
use Rattle.asm_reader.specs.declared.items.Statement.{Statement}
use Rattle.jkasm.specs.CodePlaces.{line_size, place_after}
use Rattle.jkasm.specs.Constants.{for_statement}
use Rattle.jkasm.specs.GoodLines.{names_of, AllStand, ReachesLabel}
use Rattle.jkasm.specs.Limits.{MAX_COUNT}
use Rattle.jkasm.specs.PoolGrowth.{Takes, HasNoRoom}
use Rattle.jkasm.specs.Written.{IsLineWritten}

-- An instruction was written after this code, in a method of these lines. That its bytes are right is known where
-- the method's code is not too long.
pub record Writes (codes : List CodeLine) (old_pool new_pool : List PoolEntry) (old new : List ℕ) (s : Option Statement) : Type 0 where
  pub bytes : List ℕ
  pub appended : new ≡ old ++ bytes
  pub written : place_after 0 codes ≤ MAX_COUNT → IsLineWritten new_pool codes (length old) s bytes
  pub size : length bytes ≡ line_size (length old) s
  pub short : length new ≤ MAX_COUNT
  pub takes : Takes old_pool new_pool (for_statement s)
  pub stand : AllStand codes (names_of s)
  pub reach : ReachesLabel codes (length old) s

-- The instruction can't stand after this code: a label, a jump or the length is at fault, or the pool has no room.
abbrev pub CannotBeWritten : List CodeLine → List PoolEntry → List ℕ → Option Statement → Type 0
CannotBeWritten codes pool old s =
    AllStand codes (names_of s) → ReachesLabel codes (length old) s → length old + line_size (length old) s ≤ MAX_COUNT
    → HasNoRoom pool (for_statement s)
