-- The nodes so far have seen nothing.
use Rattle.type_verifier.specs.Climbs.{AllUnseen}
use Rattle.type_verifier.proofs.handing.unseen_row.Given as goal

abbrev pub invariant-loop-node : goal.invariant-loop-node
invariant-loop-node l = AllUnseen l._node l.row.items
