-- What is passed stands before what is left, which grows shorter.
use Rattle.std.proofs.Common.{length}
use Rattle.unit_text.proofs.OneJudgment.{IsPassed}
use Rattle.unit_text.proofs.judge.bad_encoding.Given as goal

abbrev pub invariant-loop-rest : goal.invariant-loop-rest
invariant-loop-rest l = IsPassed l.bytes l.rest

abbrev pub decreases-loop-rest : goal.decreases-loop-rest
decreases-loop-rest l = length l.rest
