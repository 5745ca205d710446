-- The levels so far have seen nothing.
use Rattle.type_verifier.specs.Climbs.{UnseenTo}
use Rattle.type_verifier.specs.Covers.{nodes_of}
use Rattle.type_verifier.proofs.handing.unseen.Given as goal

abbrev pub invariant-loop-level : goal.invariant-loop-level
invariant-loop-level l = UnseenTo l.task.tree (nodes_of l.nodes) l.level
