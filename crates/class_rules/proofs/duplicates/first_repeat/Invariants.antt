-- The set has the keys of the members so far, and none of them is there twice.
use Rattle.std.specs.BTreeSet.{contains}
use Rattle.class_rules.proofs.RepeatsByKeys.{pair_cmp, HasKeysSoFar, HasNoRepeat}
use Rattle.class_rules.proofs.duplicates.first_repeat.Given as goal

abbrev pub invariant-loop-i : goal.invariant-loop-i
invariant-loop-i l = HasKeysSoFar (contains pair_cmp l.seen) l.facts l.members l.i × HasNoRepeat l.facts l.members l.i
