-- The code is one of a kind of whole numbers.
use Rattle.heap_ops.proofs.ArraysNew.{has_code}
use Rattle.heap_ops.proofs.DoingHere.{doing}
use Rattle.heap_ops.proofs.making.make_array.Goals as goal

pub number_base-base-requires : goal.number_base-base-requires
number_base-base-requires g c =
    let heaps = g.H.ObjectStore.content c.args.heap.now in
    let frames = g.F.SegmentFrames.content c.args.frames.now in
    has_code heaps frames c.args.here.now (doing heaps frames c.args.here.now c.requires.may) c.requires.op
