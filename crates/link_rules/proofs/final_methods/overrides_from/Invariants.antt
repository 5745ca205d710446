-- The method overrides no final one of the classes so far.
use Rattle.std.proofs.Common.{[], ◌∷◌, None}
use Rattle.member_lookup.proofs.WalksUpwards.{height}
use Rattle.link_rules.specs.FinalMethods.{IsInside}
use Rattle.link_rules.proofs.FinalsAbove.{AreAsked}
use Rattle.link_rules.proofs.final_methods.overrides_from.Given as goal

abbrev pub invariant-loop-next : goal.invariant-loop-next
invariant-loop-next l = AreAsked (IsInside l.first) l.t l.class (l.method ∷ []) l.next None

abbrev pub decreases-loop-next : goal.decreases-loop-next
decreases-loop-next l = height l.next
