-- No entry so far misses its member.
use Rattle.link_rules.proofs.MissingByLinks.{NoneMissing}
use Rattle.link_rules.proofs.missing_members.first_missing.Given as goal

abbrev pub invariant-loop-i : goal.invariant-loop-i
invariant-loop-i l = NoneMissing l.t l.c l.fn.links l.i
