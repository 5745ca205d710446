-- The entries looked at don't have the text, and each leads on to an older one.
use Rattle.std.proofs.Common.{◌+◌}
use Rattle.std.specs.Option.{option_map_or}
use Rattle.class_init.proofs.PlaceOfAText.{Searches}
use Rattle.class_init.proofs.known_texts.place_from.Given as goal

abbrev pub invariant-loop-next : goal.invariant-loop-next
invariant-loop-next l = Searches l.entries l.units l.next

abbrev pub decreases-loop-next : goal.decreases-loop-next
decreases-loop-next l = option_map_or (λ place. place + 1) l.next 0
