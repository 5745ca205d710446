-- A node more has seen nothing.
use Rattle.type_verifier.proofs.NodesUnseen.{AllUnseen-push}
use Rattle.type_verifier.proofs.handing.unseen_row.Goals as goal

pub loop-node-preserved : goal.loop-node-preserved
loop-node-preserved c = rw c.in_ok-push.ensures.items (AllUnseen-push c.loop-node._node c.loop-node.row.items c.loop-node.invariant)
