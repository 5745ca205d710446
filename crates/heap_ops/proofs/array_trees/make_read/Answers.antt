-- A negative count is met first.
use Rattle.std.proofs.Common.{length, sym, subst}
use Rattle.jk_model.specs.declared.steps.After.TheVariants as Next
use Rattle.jk_model.specs.declared.steps.Raise.{Raise}
use Rattle.heap_ops.proofs.DoingHere.{Doing, Done, doing}
use Rattle.heap_ops.proofs.TreesMade.{ints_as_many, negative_raises}
use Rattle.heap_ops.proofs.array_trees.make_read.Goals as goal

pub read_counts-requires-clause-ints : goal.read_counts-requires-clause-ints
read_counts-requires-clause-ints g c =
    let heaps = g.H.ObjectStore.content c.args.heap.now in
    let frames = g.F.SegmentFrames.content c.args.frames.now in
    let k = doing heaps frames c.args.here.now c.requires.may in
    let ints = ints_as_many heaps frames c.args.here.now k c.requires.op (length c.args.counts.now) c.requires.many in
    (ints.0, ints.1, ints.3)

pub make_counted-requires-clause-counts : goal.make_counted-requires-clause-counts
make_counted-requires-clause-counts g c =
    let heaps = g.H.ObjectStore.content c.args.heap.now in
    let frames = g.F.SegmentFrames.content c.args.frames.now in
    let k = doing heaps frames c.args.here.now c.requires.may in
    let ints = ints_as_many heaps frames c.args.here.now k c.requires.op (length c.args.counts.now) c.requires.many in
    (ints.0, ints.1, ints.2, c.in-Ok.ensures.ok ints.0 ints.1 ints.3)

pub returns-in-Err : goal.returns-in-Err
returns-in-Err g c = λ own shared x may setting.
    let heaps = g.H.ObjectStore.content c.args.heap.now in
    let frames = g.F.SegmentFrames.content c.args.frames.now in
    let k : Doing heaps frames c.args.here.now =
    record { own = own; shared = shared; may = may; kind = c.requires.may.kind; setting = x; is_setting = setting } in
    let ints = ints_as_many heaps frames c.args.here.now k c.requires.op (length c.args.counts.now) c.requires.many in
    subst (λ (r : Raise). Done heaps frames c.args.here.now k heaps frames own (Next.Raise r)) (sym c.in-Err.ensures.err.1)
    (negative_raises heaps frames c.args.here.now k c.requires.op ints.0 ints.1 ints.2 (c.in-Err.ensures.err.0 ints.0 ints.1 ints.3))
