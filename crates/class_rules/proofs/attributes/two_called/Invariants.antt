-- No two attributes so far are called so, and it is remembered whether one is.
use Rattle.class_rules.specs.Attributes.{IsCalledBy}
use Rattle.class_rules.proofs.TwoItems.{IsSeen}
use Rattle.class_rules.proofs.attributes.two_called.Given as goal

abbrev pub invariant-loop-a : goal.invariant-loop-a
invariant-loop-a l = IsSeen l.seen (IsCalledBy l.pool.entries.now l.word) l.attributes l.a-index
