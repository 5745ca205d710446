-- The entries before the next were brought in with all to which they refer, and there are no more entries than classes.
use Rattle.std.proofs.Common.{◌+◌, ◌-◌, length}
use Rattle.domain_resolver.proofs.ReachedClassesNamed.{Importing}
use Rattle.domain_resolver.proofs.name_table.NameTable.import.Given as goal

abbrev pub invariant-loop-next : goal.invariant-loop-next
invariant-loop-next l = Importing l.classes l.fn.self l.fn.class l.self l.next

abbrev pub decreases-loop-next : goal.decreases-loop-next
decreases-loop-next l = (length l.fn.self + length l.classes) - l.next
