-- 1 is pushed at an instance, and else 0.
use Rattle.heap_ops.proofs.DoingHere.{Doing, doing_among}
use Rattle.heap_ops.proofs.InstancesTold.{is_known, names_type, one_there, reference, test_fails, test_found, test_holds, value_below}
use Rattle.heap_ops.proofs.StaticsUsed.{never_true}
use Rattle.heap_ops.proofs.casts.test_instance.Goals as goal

pub value_at-v-requires : goal.value_at-v-requires
value_at-v-requires g c =
    let heaps = g.H.ObjectStore.content c.args.heap.now in
    let frames = g.F.SegmentFrames.content c.args.frames.now in
    let caps = g.C.CapabilityTests.known c.args.caps.now in
    let k = doing_among heaps frames caps c.args.here.now c.requires.may in
    value_below heaps frames c.args.here.now k caps c.requires.may.known (test_found heaps frames c.args.here.now k caps c.requires.may.known c.requires.op)

pub type_named-requires : goal.type_named-requires
type_named-requires g c =
    let heaps = g.H.ObjectStore.content c.args.heap.now in
    let frames = g.F.SegmentFrames.content c.args.frames.now in
    let caps = g.C.CapabilityTests.known c.args.caps.now in
    let k = doing_among heaps frames caps c.args.here.now c.requires.may in
    names_type heaps frames c.args.here.now k caps c.requires.may.known (test_found heaps frames c.args.here.now k caps c.requires.may.known c.requires.op)

pub is_instance_of-requires-clause-reference : goal.is_instance_of-requires-clause-reference
is_instance_of-requires-clause-reference g c =
    let heaps = g.H.ObjectStore.content c.args.heap.now in
    let frames = g.F.SegmentFrames.content c.args.frames.now in
    let caps = g.C.CapabilityTests.known c.args.caps.now in
    let k = doing_among heaps frames caps c.args.here.now c.requires.may in
    reference heaps frames c.args.here.now k caps c.requires.may.known (test_found heaps frames c.args.here.now k caps c.requires.may.known c.requires.op)
    c.value_at-v.result c.value_at-v.ensures

pub is_instance_of-requires-clause-known : goal.is_instance_of-requires-clause-known
is_instance_of-requires-clause-known g c =
    let heaps = g.H.ObjectStore.content c.args.heap.now in
    let frames = g.F.SegmentFrames.content c.args.frames.now in
    let caps = g.C.CapabilityTests.known c.args.caps.now in
    let k = doing_among heaps frames caps c.args.here.now c.requires.may in
    is_known heaps frames c.args.here.now k caps c.requires.may.known (test_found heaps frames c.args.here.now k caps c.requires.may.known c.requires.op)
    c.value_at-v.result c.value_at-v.ensures

pub replace-requires-clause-many : goal.replace-requires-clause-many
replace-requires-clause-many g c =
    let heaps = g.H.ObjectStore.content c.args.heap.now in
    let frames = g.F.SegmentFrames.content c.args.frames.now in
    let caps = g.C.CapabilityTests.known c.args.caps.now in
    let k = doing_among heaps frames caps c.args.here.now c.requires.may in
    one_there heaps frames c.args.here.now k caps c.requires.may.known (test_found heaps frames c.args.here.now k caps c.requires.may.known c.requires.op)

pub replace-requires-else-is_instance_of-clause-many : goal.replace-requires-else-is_instance_of-clause-many
replace-requires-else-is_instance_of-clause-many g c =
    let heaps = g.H.ObjectStore.content c.args.heap.now in
    let frames = g.F.SegmentFrames.content c.args.frames.now in
    let caps = g.C.CapabilityTests.known c.args.caps.now in
    let k = doing_among heaps frames caps c.args.here.now c.requires.may in
    one_there heaps frames c.args.here.now k caps c.requires.may.known (test_found heaps frames c.args.here.now k caps c.requires.may.known c.requires.op)

pub returns-then-is_instance_of : goal.returns-then-is_instance_of
returns-then-is_instance_of g c = λ own shared known x may setting.
    let heaps = g.H.ObjectStore.content c.args.heap.now in
    let frames = g.F.SegmentFrames.content c.args.frames.now in
    let caps = g.C.CapabilityTests.known c.args.caps.now in
    let k : Doing heaps frames c.args.here.now =
    record { own = own; shared = shared; may = may; kind = c.requires.may.kind; setting = x; is_setting = setting } in
    test_holds heaps frames c.args.here.now k caps known c.requires.op c.value_at-v.result c.value_at-v.ensures c.type_named.result.now c.type_named.ensures
    (g.F.SegmentFrames.content c.replace.new.frames) (c.is_instance_of.ensures.0 c.if-is_instance_of.true) c.replace.ensures

pub returns-else-is_instance_of : goal.returns-else-is_instance_of
returns-else-is_instance_of g c = λ own shared known x may setting.
    let heaps = g.H.ObjectStore.content c.args.heap.now in
    let frames = g.F.SegmentFrames.content c.args.frames.now in
    let caps = g.C.CapabilityTests.known c.args.caps.now in
    let k : Doing heaps frames c.args.here.now =
    record { own = own; shared = shared; may = may; kind = c.requires.may.kind; setting = x; is_setting = setting } in
    test_fails heaps frames c.args.here.now k caps known c.requires.op c.value_at-v.result c.value_at-v.ensures c.type_named.result.now c.type_named.ensures
    (g.F.SegmentFrames.content c.replace-else-is_instance_of.new.frames)
    (λ is. never_true c.is_instance_of.result c.if-is_instance_of.false (c.is_instance_of.ensures.1 is)) c.replace-else-is_instance_of.ensures
