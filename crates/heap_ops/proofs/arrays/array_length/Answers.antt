-- Null is met first; else the array's length is pushed.
use Rattle.std.proofs.Common.{ℤ, pos, subst, ◌∙◌}
use Rattle.std.specs.Int.{w32}
use Rattle.std.proofs.lemmas.Int.{to_z-of_z}
use Rattle.std.proofs.lemmas.Result.{err_from_is_err_and}
use Rattle.jk_model.specs.declared.steps.Raise.TheVariants as Raised
use Rattle.jk_model.specs.declared.values.Value.TheVariants as Held
use Rattle.jk_model_heaps.specs.SystemClasses.{NULL_POINTER_EXCEPTION}
use Rattle.heap_ops.specs.TopEntries.{PutsFor}
use Rattle.heap_ops.proofs.ArrayLengths.{array_below, is_array_at, length_pushed, null_raises, one_there}
use Rattle.heap_ops.proofs.DoingHere.{Doing, answered, doing}
use Rattle.heap_ops.proofs.arrays.array_length.Goals as goal

pub object_at-requires : goal.object_at-requires
object_at-requires g c =
    let heaps = g.H.ObjectStore.content c.args.heap.now in
    let frames = g.F.SegmentFrames.content c.args.frames.now in
    array_below heaps frames c.args.here.now (doing heaps frames c.args.here.now c.requires.may) c.requires.op

pub returns-in_err-a : goal.returns-in_err-a
returns-in_err-a g c = λ own shared x may setting.
    let heaps = g.H.ObjectStore.content c.args.heap.now in
    let frames = g.F.SegmentFrames.content c.args.frames.now in
    let k : Doing heaps frames c.args.here.now =
    record { own = own; shared = shared; may = may; kind = c.requires.may.kind; setting = x; is_setting = setting } in
    let p = err_from_is_err_and c.from_residual.result c.from_residual.ensures.1 in
    let e = c.in_err-a.ensures in
    answered heaps frames c.args.here.now k heaps frames own c.from_residual.result p.0 (Raised.Fresh NULL_POINTER_EXCEPTION) p.1 (p.2 ∙ e.1)
    (null_raises heaps frames c.args.here.now k c.requires.op e.0)

pub array_at-len-requires : goal.array_at-len-requires
array_at-len-requires g c =
    let heaps = g.H.ObjectStore.content c.args.heap.now in
    let frames = g.F.SegmentFrames.content c.args.frames.now in
    is_array_at heaps frames c.args.here.now (doing heaps frames c.args.here.now c.requires.may) c.requires.op c.in_ok-a.a c.in_ok-a.ensures

pub replace-requires-clause-many : goal.replace-requires-clause-many
replace-requires-clause-many g c =
    let heaps = g.H.ObjectStore.content c.args.heap.now in
    let frames = g.F.SegmentFrames.content c.args.frames.now in
    one_there heaps frames c.args.here.now (doing heaps frames c.args.here.now c.requires.may) c.requires.op

pub returns : goal.returns
returns g c = λ own shared x may setting.
    let heaps = g.H.ObjectStore.content c.args.heap.now in
    let frames = g.F.SegmentFrames.content c.args.frames.now in
    let k : Doing heaps frames c.args.here.now =
    record { own = own; shared = shared; may = may; kind = c.requires.may.kind; setting = x; is_setting = setting } in
    let puts : PutsFor frames (g.F.SegmentFrames.content c.replace.new.frames) c.args.here.now.segment 1 (Held.Int (pos c.array_at-len.result.1)) =
    subst (λ (n : ℤ). PutsFor frames (g.F.SegmentFrames.content c.replace.new.frames) c.args.here.now.segment 1 (Held.Int n))
    (to_z-of_z w32 c.int_of.result (record { sfits = c.int_of.type_inv }) ∙ c.int_of.ensures) c.replace.ensures in
    length_pushed heaps frames c.args.here.now k c.requires.op (g.F.SegmentFrames.content c.replace.new.frames) c.in_ok-a.a c.array_at-len.result.0
    c.array_at-len.result.1 c.in_ok-a.ensures c.array_at-len.ensures.is puts
