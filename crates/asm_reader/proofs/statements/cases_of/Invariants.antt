-- The words so far are the cases so far.
use Rattle.asm_reader.proofs.CasesRiseInTurn.{IsSoFar}
use Rattle.asm_reader.proofs.statements.cases_of.Given as goal

abbrev pub invariant-loop-word : goal.invariant-loop-word
invariant-loop-word l = IsSoFar l.words l.word-index l.cases
