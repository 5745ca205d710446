-- No more are counted than were looked at.
use Rattle.std.proofs.Common.{◌≤◌}
use Rattle.link_rules.proofs.final_methods.asks_final_ones.Given as goal

abbrev pub invariant-loop-i : goal.invariant-loop-i
invariant-loop-i l = l.finals ≤ l.i
