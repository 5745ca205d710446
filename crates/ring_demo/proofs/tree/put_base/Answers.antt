-- Each of the three files has a path of its own.
use Rattle.std.proofs.Common.{ap}
use Rattle.jk_outside.specs.MemoryTrees.{FilesState}
use Rattle.ring_demo.proofs.NewPaths.{new_hop, new_node, new_shares}
use Rattle.ring_demo.proofs.tree.put_base.Goals as goal

pub put-requires : goal.put-requires
put-requires c = rw c.requires new_hop

pub put-requires-2 : goal.put-requires-2
put-requires-2 c =
    let one = ap (λ (s : FilesState). s.files) c.in_ok-put.ensures in
    rw (one, c.requires) new_node

pub put-requires-3 : goal.put-requires-3
put-requires-3 c =
    let one = ap (λ (s : FilesState). s.files) c.in_ok-put.ensures in
    let two = ap (λ (s : FilesState). s.files) c.in_ok-put-2.ensures in
    rw (two, one, c.requires) new_shares
