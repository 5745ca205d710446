-- The number stands at the node, and the other nodes are as before.
use Rattle.std.proofs.Common.{refl}
use Rattle.handler_cover.proofs.tree.CoverTree.note.Goals as goal
use Rattle.handler_cover.proofs.NodesByPlace.{noted_in}

pub returns : goal.returns
returns c =
    noted_in (λ n. n.items) (λ l. l.items) c.self.inside.levels.items c.index_mut.result.now _ c.index_mut-2.result.now c.push.new.self
    c.args.level c.args.node c.args.x c.args.self.now c.self.view_is c.requires.level c.requires.node
    c.index_mut.ensures.value c.index_mut-2.ensures.value refl c.in_ok-push.ensures.items
