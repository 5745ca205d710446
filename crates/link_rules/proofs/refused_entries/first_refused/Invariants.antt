-- No link so far is refused.
use Rattle.link_rules.proofs.RefusedByLinks.{NoneRefused}
use Rattle.link_rules.proofs.refused_entries.first_refused.Given as goal

abbrev pub invariant-loop-i : goal.invariant-loop-i
invariant-loop-i l = NoneRefused l.t l.class l.fn.links l.i
