-- The methods so far were asked for.
use Rattle.link_rules.specs.FinalMethods.{IsFirstPlace}
use Rattle.link_rules.proofs.FinalsOfAClass.{OverridesBefore}
use Rattle.link_rules.proofs.final_methods.first_named.Given as goal

abbrev pub invariant-loop-i : goal.invariant-loop-i
invariant-loop-i l = IsFirstPlace (OverridesBefore l.t l.fn.class l.fn.d l.i) l.fn.methods l.best
