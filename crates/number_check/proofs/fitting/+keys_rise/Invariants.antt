-- Fewer keys are left each time.
use Rattle.std.proofs.Common.{length}
use Rattle.number_check.proofs.fitting.+keys_rise.Given as goal

abbrev pub decreases-keys_rise : goal.decreases-keys_rise
decreases-keys_rise l = length l.cases.now
