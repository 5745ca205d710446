-- The cases so far are marked.
use Rattle.type_verifier.proofs.MarksKept.{MarksEach, CaseMarked}
use Rattle.type_verifier.proofs.leading.mark_cases.Given as goal

abbrev pub invariant-loop-case : goal.invariant-loop-case
invariant-loop-case l = MarksEach CaseMarked l.cases l.case-index l.fn.leads l.leads
