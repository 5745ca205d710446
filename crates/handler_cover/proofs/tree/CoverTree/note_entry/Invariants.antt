-- What is left of the entry are the nodes of the level from left up to right.
use Rattle.handler_cover.proofs.RangesTakenApart.{IsPartly}
use Rattle.handler_cover.proofs.tree.CoverTree.note_entry.Given as goal

abbrev pub invariant-loop-level : goal.invariant-loop-level
invariant-loop-level l = IsPartly l.places l.x l.entry l.initial.self l.self l.level l.left l.right
