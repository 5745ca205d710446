-- Null is met first, then the index, then the type; else what a store leaves of the value is put in the item's place.
use Rattle.std.proofs.Common.{ℤ, sym, subst, ◌∙◌}
use Rattle.std.specs.Int.{w32}
use Rattle.std.proofs.lemmas.Int.{to_z-of_z}
use Rattle.std.proofs.lemmas.Result.{err_from_is_err_and}
use Rattle.jk_model.specs.declared.steps.Raise.TheVariants as Raised
use Rattle.jk_model_heaps.specs.SystemClasses.{ARRAY_INDEX_EXCEPTION, NULL_POINTER_EXCEPTION}
use Rattle.heap_ops.specs.HeapValues.{HasNoPlace}
use Rattle.heap_ops.proofs.DoingHere.{Doing, answered, doing_among}
use Rattle.heap_ops.proofs.ElementStores.{array_below, array_here, element_put, index_below, index_raises, is_array_at, null_raises, same_element, takes, three_there, type_raises, value_below}
use Rattle.heap_ops.proofs.ReferencesStored.{asked, is_known, is_store, reference, told}
use Rattle.heap_ops.proofs.StaticsUsed.{never_true}
use Rattle.heap_ops.proofs.arrays.store_reference.Goals as goal

pub object_at-requires : goal.object_at-requires
object_at-requires g c =
    let heaps = g.H.ObjectStore.content c.args.heap.now in
    let frames = g.F.SegmentFrames.content c.args.frames.now in
    let caps = g.C.CapabilityTests.known c.args.caps.now in
    let k = doing_among heaps frames caps c.args.here.now c.requires.may in
    array_below heaps frames c.args.here.now k (is_store heaps frames c.args.here.now k c.requires.op)

pub returns-in_err-a : goal.returns-in_err-a
returns-in_err-a g c = λ own shared known x may setting.
    let heaps = g.H.ObjectStore.content c.args.heap.now in
    let frames = g.F.SegmentFrames.content c.args.frames.now in
    let caps = g.C.CapabilityTests.known c.args.caps.now in
    let k : Doing heaps frames c.args.here.now =
    record { own = own; shared = shared; may = may; kind = c.requires.may.kind; setting = x; is_setting = setting } in
    let p = err_from_is_err_and c.from_residual.result c.from_residual.ensures.1 in
    let e = c.in_err-a.ensures in
    answered heaps frames c.args.here.now k heaps frames own c.from_residual.result p.0 (Raised.Fresh NULL_POINTER_EXCEPTION) p.1 (p.2 ∙ e.1)
    (null_raises heaps frames c.args.here.now k (is_store heaps frames c.args.here.now k c.requires.op) e.0)

pub array_at-len-requires : goal.array_at-len-requires
array_at-len-requires g c =
    let heaps = g.H.ObjectStore.content c.args.heap.now in
    let frames = g.F.SegmentFrames.content c.args.frames.now in
    let caps = g.C.CapabilityTests.known c.args.caps.now in
    let k = doing_among heaps frames caps c.args.here.now c.requires.may in
    is_array_at heaps frames c.args.here.now k (is_store heaps frames c.args.here.now k c.requires.op) c.in_ok-a.a c.in_ok-a.ensures

pub int_at-index-requires : goal.int_at-index-requires
int_at-index-requires g c =
    let heaps = g.H.ObjectStore.content c.args.heap.now in
    let frames = g.F.SegmentFrames.content c.args.frames.now in
    let caps = g.C.CapabilityTests.known c.args.caps.now in
    let k = doing_among heaps frames caps c.args.here.now c.requires.may in
    index_below heaps frames c.args.here.now k (is_store heaps frames c.args.here.now k c.requires.op)

pub returns-in_err-place : goal.returns-in_err-place
returns-in_err-place g c = λ own shared known x may setting.
    let heaps = g.H.ObjectStore.content c.args.heap.now in
    let frames = g.F.SegmentFrames.content c.args.frames.now in
    let caps = g.C.CapabilityTests.known c.args.caps.now in
    let k : Doing heaps frames c.args.here.now =
    record { own = own; shared = shared; may = may; kind = c.requires.may.kind; setting = x; is_setting = setting } in
    let p = err_from_is_err_and c.from_residual-in_err-place.result c.from_residual-in_err-place.ensures.1 in
    let e = c.in_err-place.ensures in
    let is = to_z-of_z w32 c.int_at-index.result (record { sfits = c.int_at-index.type_inv }) in
    answered heaps frames c.args.here.now k heaps frames own c.from_residual-in_err-place.result p.0 (Raised.Fresh ARRAY_INDEX_EXCEPTION) p.1 (p.2 ∙ e.1)
    (index_raises heaps frames c.args.here.now k (is_store heaps frames c.args.here.now k c.requires.op) c.in_ok-a.a c.array_at-len.result.0
    c.array_at-len.result.1 c.in_ok-a.ensures
    c.array_at-len.ensures.is c.int_at-index.result c.int_at-index.ensures (subst (λ (n : ℤ). HasNoPlace n c.array_at-len.result.1) is e.0))

pub value_at-top-requires : goal.value_at-top-requires
value_at-top-requires g c =
    let heaps = g.H.ObjectStore.content c.args.heap.now in
    let frames = g.F.SegmentFrames.content c.args.frames.now in
    let caps = g.C.CapabilityTests.known c.args.caps.now in
    let k = doing_among heaps frames caps c.args.here.now c.requires.may in
    value_below heaps frames c.args.here.now k (is_store heaps frames c.args.here.now k c.requires.op)

pub may_be_cast-requires-clause-reference : goal.may_be_cast-requires-clause-reference
may_be_cast-requires-clause-reference g c =
    let heaps = g.H.ObjectStore.content c.args.heap.now in
    let frames = g.F.SegmentFrames.content c.args.frames.now in
    let caps = g.C.CapabilityTests.known c.args.caps.now in
    let k = doing_among heaps frames caps c.args.here.now c.requires.may in
    reference heaps frames c.args.here.now k c.requires.op caps c.requires.may.known c.value_at-top.result c.value_at-top.ensures

pub may_be_cast-requires-clause-known : goal.may_be_cast-requires-clause-known
may_be_cast-requires-clause-known g c =
    let heaps = g.H.ObjectStore.content c.args.heap.now in
    let frames = g.F.SegmentFrames.content c.args.frames.now in
    let caps = g.C.CapabilityTests.known c.args.caps.now in
    let k = doing_among heaps frames caps c.args.here.now c.requires.may in
    is_known heaps frames c.args.here.now k c.requires.op caps c.requires.may.known c.value_at-top.result c.value_at-top.ensures

pub returns-then-not-may_be_cast : goal.returns-then-not-may_be_cast
returns-then-not-may_be_cast g c = λ own shared known x may setting.
    let heaps = g.H.ObjectStore.content c.args.heap.now in
    let frames = g.F.SegmentFrames.content c.args.frames.now in
    let caps = g.C.CapabilityTests.known c.args.caps.now in
    let k : Doing heaps frames c.args.here.now =
    record { own = own; shared = shared; may = may; kind = c.requires.may.kind; setting = x; is_setting = setting } in
    let is = to_z-of_z w32 c.int_at-index.result (record { sfits = c.int_at-index.type_inv }) in
    type_raises heaps frames c.args.here.now k (is_store heaps frames c.args.here.now k c.requires.op) c.in_ok-a.a c.array_at-len.result.0
    c.array_at-len.result.1 c.in_ok-a.ensures
    c.array_at-len.ensures.is c.int_at-index.result c.int_at-index.ensures
    c.in_ok-place.place (sym is ∙ c.in_ok-place.ensures.0) c.in_ok-place.ensures.1 c.requires.op
    (λ suits. never_true c.may_be_cast.result c.if-not-may_be_cast.true (c.may_be_cast.ensures.1
    (told heaps frames c.args.here.now k c.requires.op caps known c.value_at-top.result c.value_at-top.ensures (array_here heaps frames c.args.here.now k
    (is_store heaps frames c.args.here.now k c.requires.op) c.in_ok-a.a c.array_at-len.result.0 c.array_at-len.result.1 c.in_ok-a.ensures
    c.array_at-len.ensures.is c.int_at-index.result c.int_at-index.ensures).element c.array_at-len.result.0 (same_element heaps frames c.args.here.now k
    (is_store heaps frames c.args.here.now k c.requires.op) c.in_ok-a.a c.array_at-len.result.0 c.array_at-len.result.1 c.in_ok-a.ensures
    c.array_at-len.ensures.is c.int_at-index.result c.int_at-index.ensures) suits)))

pub write-requires : goal.write-requires
write-requires g c =
    let heaps = g.H.ObjectStore.content c.args.heap.now in
    let frames = g.F.SegmentFrames.content c.args.frames.now in
    let caps = g.C.CapabilityTests.known c.args.caps.now in
    let k = doing_among heaps frames caps c.args.here.now c.requires.may in
    let is = to_z-of_z w32 c.int_at-index.result (record { sfits = c.int_at-index.type_inv }) in
    let suits = asked heaps frames c.args.here.now k c.requires.op caps c.requires.may.known c.value_at-top.result c.value_at-top.ensures (array_here heaps
    frames c.args.here.now k (is_store heaps frames c.args.here.now k c.requires.op) c.in_ok-a.a c.array_at-len.result.0 c.array_at-len.result.1
    c.in_ok-a.ensures
    c.array_at-len.ensures.is c.int_at-index.result c.int_at-index.ensures).element c.array_at-len.result.0 (same_element heaps frames c.args.here.now k
    (is_store heaps frames c.args.here.now k c.requires.op) c.in_ok-a.a c.array_at-len.result.0 c.array_at-len.result.1 c.in_ok-a.ensures
    c.array_at-len.ensures.is c.int_at-index.result c.int_at-index.ensures)
    (c.may_be_cast.ensures.0 c.if-not-may_be_cast.false) in
    takes heaps frames c.args.here.now k (is_store heaps frames c.args.here.now k c.requires.op) c.in_ok-a.a c.array_at-len.result.0 c.array_at-len.result.1
    c.in_ok-a.ensures
    c.array_at-len.ensures.is c.int_at-index.result c.int_at-index.ensures
    c.in_ok-place.place (sym is ∙ c.in_ok-place.ensures.0) c.in_ok-place.ensures.1 c.heap_rows_keep.ensures
    (g.met.H.ObjectStore.holds c.args.heap.now) (λ op. suits) c.value_at-top.result c.stored-v.result c.value_at-top.ensures c.stored-v.ensures
    c.classes.result.now

pub drop_entries-requires : goal.drop_entries-requires
drop_entries-requires g c =
    let heaps = g.H.ObjectStore.content c.args.heap.now in
    let frames = g.F.SegmentFrames.content c.args.frames.now in
    let caps = g.C.CapabilityTests.known c.args.caps.now in
    let k = doing_among heaps frames caps c.args.here.now c.requires.may in
    three_there heaps frames c.args.here.now k (is_store heaps frames c.args.here.now k c.requires.op)

pub returns : goal.returns
returns g c = λ own shared known x may setting.
    let heaps = g.H.ObjectStore.content c.args.heap.now in
    let frames = g.F.SegmentFrames.content c.args.frames.now in
    let caps = g.C.CapabilityTests.known c.args.caps.now in
    let k : Doing heaps frames c.args.here.now =
    record { own = own; shared = shared; may = may; kind = c.requires.may.kind; setting = x; is_setting = setting } in
    let is = to_z-of_z w32 c.int_at-index.result (record { sfits = c.int_at-index.type_inv }) in
    let suits = asked heaps frames c.args.here.now k c.requires.op caps known c.value_at-top.result c.value_at-top.ensures (array_here heaps frames
    c.args.here.now k (is_store heaps frames c.args.here.now k c.requires.op) c.in_ok-a.a c.array_at-len.result.0 c.array_at-len.result.1 c.in_ok-a.ensures
    c.array_at-len.ensures.is c.int_at-index.result c.int_at-index.ensures).element c.array_at-len.result.0 (same_element heaps frames c.args.here.now k
    (is_store heaps frames c.args.here.now k c.requires.op) c.in_ok-a.a c.array_at-len.result.0 c.array_at-len.result.1 c.in_ok-a.ensures
    c.array_at-len.ensures.is c.int_at-index.result c.int_at-index.ensures)
    (c.may_be_cast.ensures.0 c.if-not-may_be_cast.false) in
    element_put heaps frames c.args.here.now k (is_store heaps frames c.args.here.now k c.requires.op) c.in_ok-a.a c.array_at-len.result.0
    c.array_at-len.result.1 c.in_ok-a.ensures
    c.array_at-len.ensures.is c.int_at-index.result c.int_at-index.ensures
    c.in_ok-place.place (sym is ∙ c.in_ok-place.ensures.0) c.in_ok-place.ensures.1 c.heap_rows_keep.ensures
    (g.met.H.ObjectStore.holds c.args.heap.now) (λ op. suits) c.value_at-top.result c.stored-v.result c.value_at-top.ensures c.stored-v.ensures
    (g.H.ObjectStore.content c.write.new.self) (g.F.SegmentFrames.content c.drop_entries.new.frames) c.write.ensures c.drop_entries.ensures
