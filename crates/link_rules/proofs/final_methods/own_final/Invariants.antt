-- No method before this place is one.
use Rattle.std.proofs.Common.{◌-◌}
use Rattle.link_rules.proofs.FinalsOfAClass.{NoneBefore}
use Rattle.link_rules.proofs.final_methods.own_final.Given as goal

abbrev pub invariant-loop-index : goal.invariant-loop-index
invariant-loop-index l = NoneBefore l.t l.class l.method.name l.method.kind l.d l.from

abbrev pub decreases-loop-index : goal.decreases-loop-index
decreases-loop-index l = 65535 - l.from
