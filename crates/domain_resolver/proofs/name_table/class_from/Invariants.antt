-- The entries looked at don't have the name, and each leads on to an older one.
use Rattle.std.proofs.Common.{◌+◌}
use Rattle.std.specs.Option.{option_map_or}
use Rattle.domain_resolver.proofs.EntryOfAName.{Searches}
use Rattle.domain_resolver.proofs.name_table.class_from.Given as goal

abbrev pub invariant-loop-next : goal.invariant-loop-next
invariant-loop-next l = Searches l.entries l.name l.next

abbrev pub decreases-loop-next : goal.decreases-loop-next
decreases-loop-next l = option_map_or (λ place. place + 1) l.next 0
