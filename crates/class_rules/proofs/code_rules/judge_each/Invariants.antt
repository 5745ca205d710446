-- The methods so far are judged.
use Rattle.class_rules.proofs.CodesReadEach.{AreJudgedBefore}
use Rattle.class_rules.proofs.code_rules.judge_each.Given as goal

abbrev pub invariant-loop-method : goal.invariant-loop-method
invariant-loop-method l = AreJudgedBefore l.c l.methods l.method-index l.judged
