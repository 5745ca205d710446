-- Null and instances stay, and else an exception is raised.
use Rattle.heap_ops.proofs.DoingHere.{Doing, doing_among}
use Rattle.heap_ops.proofs.InstancesTold.{cast_done, cast_fails, cast_found, is_known, names_type, reference, value_below}
use Rattle.heap_ops.proofs.StaticsUsed.{never_true}
use Rattle.heap_ops.proofs.casts.cast.Goals as goal

pub value_at-v-requires : goal.value_at-v-requires
value_at-v-requires g c =
    let heaps = g.H.ObjectStore.content c.args.heap.now in
    let frames = g.F.SegmentFrames.content c.args.frames.now in
    let caps = g.C.CapabilityTests.known c.args.caps.now in
    let k = doing_among heaps frames caps c.args.here.now c.requires.may in
    value_below heaps frames c.args.here.now k caps c.requires.may.known (cast_found heaps frames c.args.here.now k caps c.requires.may.known c.requires.op)

pub type_named-requires : goal.type_named-requires
type_named-requires g c =
    let heaps = g.H.ObjectStore.content c.args.heap.now in
    let frames = g.F.SegmentFrames.content c.args.frames.now in
    let caps = g.C.CapabilityTests.known c.args.caps.now in
    let k = doing_among heaps frames caps c.args.here.now c.requires.may in
    names_type heaps frames c.args.here.now k caps c.requires.may.known (cast_found heaps frames c.args.here.now k caps c.requires.may.known c.requires.op)

pub may_be_cast-requires-clause-reference : goal.may_be_cast-requires-clause-reference
may_be_cast-requires-clause-reference g c =
    let heaps = g.H.ObjectStore.content c.args.heap.now in
    let frames = g.F.SegmentFrames.content c.args.frames.now in
    let caps = g.C.CapabilityTests.known c.args.caps.now in
    let k = doing_among heaps frames caps c.args.here.now c.requires.may in
    reference heaps frames c.args.here.now k caps c.requires.may.known (cast_found heaps frames c.args.here.now k caps c.requires.may.known c.requires.op)
    c.value_at-v.result c.value_at-v.ensures

pub may_be_cast-requires-clause-known : goal.may_be_cast-requires-clause-known
may_be_cast-requires-clause-known g c =
    let heaps = g.H.ObjectStore.content c.args.heap.now in
    let frames = g.F.SegmentFrames.content c.args.frames.now in
    let caps = g.C.CapabilityTests.known c.args.caps.now in
    let k = doing_among heaps frames caps c.args.here.now c.requires.may in
    is_known heaps frames c.args.here.now k caps c.requires.may.known (cast_found heaps frames c.args.here.now k caps c.requires.may.known c.requires.op)
    c.value_at-v.result c.value_at-v.ensures

pub returns-then-may_be_cast : goal.returns-then-may_be_cast
returns-then-may_be_cast g c = λ own shared known x may setting.
    let heaps = g.H.ObjectStore.content c.args.heap.now in
    let frames = g.F.SegmentFrames.content c.args.frames.now in
    let caps = g.C.CapabilityTests.known c.args.caps.now in
    let k : Doing heaps frames c.args.here.now =
    record { own = own; shared = shared; may = may; kind = c.requires.may.kind; setting = x; is_setting = setting } in
    cast_done heaps frames c.args.here.now k caps known c.requires.op c.value_at-v.result c.value_at-v.ensures c.type_named.result.now c.type_named.ensures
    (c.may_be_cast.ensures.0 c.if-may_be_cast.true)

pub returns-else-may_be_cast : goal.returns-else-may_be_cast
returns-else-may_be_cast g c = λ own shared known x may setting.
    let heaps = g.H.ObjectStore.content c.args.heap.now in
    let frames = g.F.SegmentFrames.content c.args.frames.now in
    let caps = g.C.CapabilityTests.known c.args.caps.now in
    let k : Doing heaps frames c.args.here.now =
    record { own = own; shared = shared; may = may; kind = c.requires.may.kind; setting = x; is_setting = setting } in
    cast_fails heaps frames c.args.here.now k caps known c.requires.op c.value_at-v.result c.value_at-v.ensures c.type_named.result.now c.type_named.ensures
    (λ is. never_true c.may_be_cast.result c.if-may_be_cast.false (c.may_be_cast.ensures.1 is))
