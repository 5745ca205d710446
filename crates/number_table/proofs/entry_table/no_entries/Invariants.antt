-- So many entries are made.
use Rattle.std.proofs.Common.{◌≡◌, length, vec_capacity}
use Rattle.number_table.proofs.entry_table.no_entries.Given as goal

abbrev pub invariant-loop : goal.invariant-loop
invariant-loop l = (length l.entries.items ≡ l.counter) × (vec_capacity l.entries ≡ l.count)
