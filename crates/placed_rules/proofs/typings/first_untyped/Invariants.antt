-- The methods so far are typed.
use Rattle.placed_rules.specs.Codes.{AreTypedBefore}
use Rattle.placed_rules.proofs.typings.first_untyped.Given as goal

abbrev pub invariant-loop-i : goal.invariant-loop-i
invariant-loop-i l = AreTypedBefore l.t l.fn.class l.i
