-- The places of the instructions so far are marked, and no others.
use Rattle.std.proofs.Common.{◌≡◌, length}
use Rattle.class_rules.proofs.PlacesMarked.{AreMarked}
use Rattle.class_rules.proofs.codes.places.places_of.Given as goal

abbrev pub invariant-loop-instr : goal.invariant-loop-instr
invariant-loop-instr l = record { long : length l.places.items ≡ l.long; marked : AreMarked l.instrs l.instr-index l.places.items }
