-- An instruction is written where its bytes were put after the code, and its constants into the pool.
use Rattle.std.proofs.Common.{◌≡◌, ℕ, ◌+◌, ◌≤◌, List, ◌++◌, Some, length, ap, ◌∙◌, arith, length-append}
use Rattle.jk_model.specs.declared.class_file.PoolEntry.{PoolEntry}
use Rattle.asm_reader.specs.declared.items.CodeLine.{CodeLine}
use Rattle.asm_reader.specs.declared.items.Statement.{Statement}
use Rattle.jkasm.specs.CodePlaces.{statement_size, place_after}
use Rattle.jkasm.specs.Constants.{for_statement}
use Rattle.jkasm.specs.GoodLines.{names_of, AllStand, ReachesLabel}
use Rattle.jkasm.specs.LineWriting.{Writes}
use Rattle.jkasm.specs.PoolGrowth.{Takes}
use Rattle.jkasm.specs.Written.{IsWritten}

-- Bytes were put after a code that has room for this instruction.
pub record Puts (old new bytes : List ℕ) (s : Statement) : Type 0 where
  pub appended : new ≡ old ++ bytes
  pub size : length bytes ≡ statement_size (length old) s
  pub room : length old + statement_size (length old) s ≤ 65535

pub record IsRight (codes : List CodeLine) (pool : List PoolEntry) (old bytes : List ℕ) (s : Statement) : Type 0 where
  pub right : place_after 0 codes ≤ 65535 → IsWritten pool codes (length old) s bytes

-- what is asked of labels
pub record HasLabels (codes : List CodeLine) (old : List ℕ) (s : Statement) : Type 0 where
  pub stand : AllStand codes (names_of (Some s))
  pub reach : ReachesLabel codes (length old) (Some s)

pub writes : (codes : List CodeLine) (before after : List PoolEntry) (old new bytes : List ℕ) (s : Statement)
    → Puts old new bytes s → IsRight codes after old bytes s → HasLabels codes old s → Takes before after (for_statement (Some s))
    → Writes codes before after old new (Some s)
writes codes before after old new bytes s puts right labels takes = record {
  bytes = bytes;
  appended = puts.appended;
  written = right.right;
  size = puts.size;
  short =
      let long : length new ≡ length old + length bytes = ap length puts.appended ∙ length-append old bytes in
      let size = puts.size in
      let room = puts.room in
      omega (arith, long, size, room);
  takes = takes;
  stand = labels.stand;
  reach = labels.reach;
}
