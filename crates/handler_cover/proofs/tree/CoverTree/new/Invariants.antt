-- The tree holds the entries so far.
use Rattle.handler_cover.proofs.EntriesInTurn.{HoldsFirst}
use Rattle.handler_cover.proofs.tree.CoverTree.new.Given as goal

abbrev pub invariant-loop-x : goal.invariant-loop-x
invariant-loop-x l = HoldsFirst l.places l.handlers l.x l.tree
