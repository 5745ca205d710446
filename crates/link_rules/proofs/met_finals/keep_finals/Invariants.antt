-- The methods so far are kept.
use Rattle.link_rules.proofs.MetByKeys.{AreKeptBefore}
use Rattle.link_rules.proofs.met_finals.keep_finals.Given as goal

abbrev pub invariant-loop-i : goal.invariant-loop-i
invariant-loop-i l = AreKeptBefore l.fn.met l.met l.fn.until l.fn.package_number l.fn.methods l.i
