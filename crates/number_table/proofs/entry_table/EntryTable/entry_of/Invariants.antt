-- The entry is among those that are left, if it is in the bucket.
use Rattle.std.proofs.Common.{◌≡◌, ◌≤◌}
use Rattle.number_table.specs.ChainMoves.{count}
use Rattle.number_table.specs.Entries.{found_at}
use Rattle.number_table.specs.TableMoves.{find}
use Rattle.number_table.proofs.entry_table.EntryTable.entry_of.Given as goal

abbrev pub invariant-loop-left : goal.invariant-loop-left
invariant-loop-left l =
    (l.left ≤ count l.self.chains l.bucket)
    × (found_at l.self.chains.nodes.items l.self.entries.items l.bucket l.number l.left ≡ find l.self l.number)

abbrev pub decreases-loop-left : goal.decreases-loop-left
decreases-loop-left l = l.left
