-- Null is met first, then the index; else the element is pushed.
use Rattle.std.proofs.Common.{ℤ, sym, subst, ◌∙◌}
use Rattle.std.specs.Int.{w32}
use Rattle.std.proofs.lemmas.Int.{to_z-of_z}
use Rattle.std.proofs.lemmas.Result.{err_from_is_err_and}
use Rattle.jk_model.specs.declared.steps.Raise.TheVariants as Raised
use Rattle.jk_model_heaps.specs.SystemClasses.{ARRAY_INDEX_EXCEPTION, NULL_POINTER_EXCEPTION}
use Rattle.heap_ops.specs.HeapValues.{HasNoPlace}
use Rattle.heap_ops.proofs.DoingHere.{Doing, answered, doing}
use Rattle.heap_ops.proofs.ElementLoads.{array_below, element_pushed, index_below, index_raises, is_array_at, item_of_array, null_raises, two_there}
use Rattle.heap_ops.proofs.arrays.load_element.Goals as goal

pub object_at-requires : goal.object_at-requires
object_at-requires g c =
    let heaps = g.H.ObjectStore.content c.args.heap.now in
    let frames = g.F.SegmentFrames.content c.args.frames.now in
    array_below heaps frames c.args.here.now (doing heaps frames c.args.here.now c.requires.may) c.requires.op

pub returns-in_err-a : goal.returns-in_err-a
returns-in_err-a g c = λ own shared x may setting.
    let heaps = g.H.ObjectStore.content c.args.heap.now in
    let frames = g.F.SegmentFrames.content c.args.frames.now in
    let k : Doing heaps frames c.args.here.now =
    record { own = own; shared = shared; may = may; kind = c.requires.may.kind; setting = x; is_setting = setting } in
    let p = err_from_is_err_and c.from_residual.result c.from_residual.ensures.1 in
    let e = c.in_err-a.ensures in
    answered heaps frames c.args.here.now k heaps frames own c.from_residual.result p.0 (Raised.Fresh NULL_POINTER_EXCEPTION) p.1 (p.2 ∙ e.1)
    (null_raises heaps frames c.args.here.now k c.requires.op e.0)

pub array_at-len-requires : goal.array_at-len-requires
array_at-len-requires g c =
    let heaps = g.H.ObjectStore.content c.args.heap.now in
    let frames = g.F.SegmentFrames.content c.args.frames.now in
    is_array_at heaps frames c.args.here.now (doing heaps frames c.args.here.now c.requires.may) c.requires.op c.in_ok-a.a c.in_ok-a.ensures

pub int_at-index-requires : goal.int_at-index-requires
int_at-index-requires g c =
    let heaps = g.H.ObjectStore.content c.args.heap.now in
    let frames = g.F.SegmentFrames.content c.args.frames.now in
    index_below heaps frames c.args.here.now (doing heaps frames c.args.here.now c.requires.may) c.requires.op

pub returns-in_err-place : goal.returns-in_err-place
returns-in_err-place g c = λ own shared x may setting.
    let heaps = g.H.ObjectStore.content c.args.heap.now in
    let frames = g.F.SegmentFrames.content c.args.frames.now in
    let k : Doing heaps frames c.args.here.now =
    record { own = own; shared = shared; may = may; kind = c.requires.may.kind; setting = x; is_setting = setting } in
    let p = err_from_is_err_and c.from_residual-in_err-place.result c.from_residual-in_err-place.ensures.1 in
    let e = c.in_err-place.ensures in
    let is = to_z-of_z w32 c.int_at-index.result (record { sfits = c.int_at-index.type_inv }) in
    answered heaps frames c.args.here.now k heaps frames own c.from_residual-in_err-place.result p.0 (Raised.Fresh ARRAY_INDEX_EXCEPTION) p.1 (p.2 ∙ e.1)
    (index_raises heaps frames c.args.here.now k c.requires.op c.in_ok-a.a c.array_at-len.result.0 c.array_at-len.result.1 c.in_ok-a.ensures
    c.array_at-len.ensures.is c.int_at-index.result c.int_at-index.ensures
    (subst (λ (n : ℤ). HasNoPlace n c.array_at-len.result.1) is e.0))

pub read-v-requires : goal.read-v-requires
read-v-requires g c =
    item_of_array (g.H.ObjectStore.content c.args.heap.now) c.args.here.now c.classes.result.now c.in_ok-a.a c.in_ok-place.place
    c.array_at-len.result.0 c.array_at-len.result.1 c.array_at-len.ensures.is c.in_ok-place.ensures.1

pub replace-requires-clause-many : goal.replace-requires-clause-many
replace-requires-clause-many g c =
    let heaps = g.H.ObjectStore.content c.args.heap.now in
    let frames = g.F.SegmentFrames.content c.args.frames.now in
    two_there heaps frames c.args.here.now (doing heaps frames c.args.here.now c.requires.may) c.requires.op

pub returns : goal.returns
returns g c = λ own shared x may setting.
    let heaps = g.H.ObjectStore.content c.args.heap.now in
    let frames = g.F.SegmentFrames.content c.args.frames.now in
    let k : Doing heaps frames c.args.here.now =
    record { own = own; shared = shared; may = may; kind = c.requires.may.kind; setting = x; is_setting = setting } in
    let is = to_z-of_z w32 c.int_at-index.result (record { sfits = c.int_at-index.type_inv }) in
    element_pushed heaps frames c.args.here.now k c.requires.op c.in_ok-a.a c.array_at-len.result.0 c.array_at-len.result.1 c.in_ok-a.ensures
    c.array_at-len.ensures.is c.int_at-index.result c.int_at-index.ensures (g.F.SegmentFrames.content c.replace.new.frames) c.in_ok-place.place
    c.read-v.result (sym is ∙ c.in_ok-place.ensures.0) c.in_ok-place.ensures.1 c.read-v.ensures c.replace.ensures
