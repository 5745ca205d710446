-- The operand leads to a type whose class is there.
use Rattle.heap_ops.proofs.ArraysNew.{base_there, names_element}
use Rattle.heap_ops.proofs.DoingHere.{doing}
use Rattle.heap_ops.proofs.making.make_reference_array.Goals as goal

pub type_named-requires : goal.type_named-requires
type_named-requires g c =
    let heaps = g.H.ObjectStore.content c.args.heap.now in
    let frames = g.F.SegmentFrames.content c.args.frames.now in
    names_element heaps frames c.args.here.now (doing heaps frames c.args.here.now c.requires.may) c.requires.op

pub make_array_of-requires-clause-class : goal.make_array_of-requires-clause-class
make_array_of-requires-clause-class g c =
    let heaps = g.H.ObjectStore.content c.args.heap.now in
    let frames = g.F.SegmentFrames.content c.args.frames.now in
    base_there heaps frames c.args.here.now (doing heaps frames c.args.here.now c.requires.may) c.type_named.result.now c.type_named.ensures
