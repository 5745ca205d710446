-- The last digits are written.
use Rattle.system_calls.proofs.DigitsInTurn.{IsPartlyWritten}
use Rattle.system_calls.proofs.short_texts.digits_of.Given as goal

abbrev pub invariant-loop-rest : goal.invariant-loop-rest
invariant-loop-rest l = IsPartlyWritten l.fn.n l.from l.rest l.units

abbrev pub decreases-loop-rest : goal.decreases-loop-rest
decreases-loop-rest l = l.from
