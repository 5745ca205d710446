-- The entries before this one are in the other table.
use Rattle.std.proofs.Common.{◌+◌, ◌≤◌}
use Rattle.number_table.specs.TableMoves.{place_in, room}
use Rattle.number_table.proofs.TableIsMoved.{AreMoved}
use Rattle.number_table.proofs.entry_table.EntryTable.moved_to.Given as goal

abbrev pub invariant-loop-entry : goal.invariant-loop-entry
invariant-loop-entry l = AreMoved l.self (place_in l.table) l.entry × (room l.initial.table ≤ room l.table + l.entry)
