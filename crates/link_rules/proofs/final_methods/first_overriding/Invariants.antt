-- The classes so far were asked.
use Rattle.member_lookup.proofs.WalksUpwards.{height}
use Rattle.link_rules.specs.FinalMethods.{IsOutside}
use Rattle.link_rules.proofs.FinalsAbove.{AreAsked}
use Rattle.link_rules.proofs.final_methods.first_overriding.Given as goal

abbrev pub invariant-loop-next : goal.invariant-loop-next
invariant-loop-next l = AreAsked (IsOutside l.before) l.t l.class l.methods l.next l.best

abbrev pub decreases-loop-next : goal.decreases-loop-next
decreases-loop-next l = height l.next
