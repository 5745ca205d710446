-- No method before this place runs for the called one.
use Rattle.std.proofs.Common.{◌-◌}
use Rattle.member_lookup.proofs.RunnersOfAClass.{NoneBefore}
use Rattle.member_lookup.proofs.selection.own_runner.Given as goal

abbrev pub invariant-loop-index : goal.invariant-loop-index
invariant-loop-index l = NoneBefore l.t l.method l.d l.from

abbrev pub decreases-loop-index : goal.decreases-loop-index
decreases-loop-index l = 65535 - l.from
