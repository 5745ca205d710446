-- The texts so far are known by their units, and the entries so far by their indices.
use Rattle.class_rules.specs.SeenTexts.{known_of}
use Rattle.class_rules.proofs.TextsSoFar.{IsSeen, IsTable}
use Rattle.class_rules.proofs.texts.facts_of.Given as goal

abbrev pub invariant-loop-i : goal.invariant-loop-i
invariant-loop-i l = IsSeen l.pool l.i (known_of l.seen) × IsTable l.pool l.i l.table
