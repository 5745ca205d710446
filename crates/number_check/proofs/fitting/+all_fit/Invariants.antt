-- Fewer values are left each time.
use Rattle.std.proofs.Common.{length}
use Rattle.number_check.proofs.fitting.+all_fit.Given as goal

abbrev pub decreases-all_fit : goal.decreases-all_fit
decreases-all_fit l = length l.values.now
