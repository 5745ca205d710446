-- The catch entries so far have marked what they ask for.
use Rattle.type_verifier.proofs.MarksKept.{MarksEach, EntryMarked}
use Rattle.type_verifier.proofs.leading.mark_entries.Given as goal

abbrev pub invariant-loop-h : goal.invariant-loop-h
invariant-loop-h l = MarksEach EntryMarked l.handlers l.h-index l.fn.leads l.leads
