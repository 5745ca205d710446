-- There is room for as many counts.
use Rattle.heap_ops.proofs.DoingHere.{doing}
use Rattle.heap_ops.proofs.TreesMade.{counts_are_few}
use Rattle.heap_ops.proofs.array_trees.make_array_tree.Goals as goal

pub many_counts-many-requires : goal.many_counts-many-requires
many_counts-many-requires g c =
    let heaps = g.H.ObjectStore.content c.args.heap.now in
    let frames = g.F.SegmentFrames.content c.args.frames.now in
    counts_are_few heaps frames c.args.here.now (doing heaps frames c.args.here.now c.requires.may) c.requires.op
