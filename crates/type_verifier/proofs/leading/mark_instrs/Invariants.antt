-- The instructions so far have marked what they ask for.
use Rattle.type_verifier.specs.Marks.{IsInstrMarked}
use Rattle.type_verifier.proofs.MarksKept.{MarksEach}
use Rattle.type_verifier.proofs.leading.mark_instrs.Given as goal

abbrev pub invariant-loop-place : goal.invariant-loop-place
invariant-loop-place l = MarksEach IsInstrMarked l.instrs l.place l.fn.leads l.leads
