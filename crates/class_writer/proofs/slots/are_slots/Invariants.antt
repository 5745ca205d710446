-- The pool is one of slots just if the entries that are left are.
use Rattle.class_writer.proofs.SlotsInTurn.{SoFar}
use Rattle.class_writer.proofs.slots.are_slots.Given as goal

abbrev pub invariant-loop-entry : goal.invariant-loop-entry
invariant-loop-entry l = SoFar l.pool l.entry-index l.due
