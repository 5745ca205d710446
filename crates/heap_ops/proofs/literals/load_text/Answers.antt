-- The literal's object is pushed, which is there or fits.
use Rattle.std.proofs.Common.{List, subst}
use Rattle.jk_model_classes.specs.declared.records.ClassRecord.{ClassRecord}
use Rattle.heap_ops.specs.LiteralObjects.{HasObject, LiteralCall}
use Rattle.heap_ops.proofs.DoingHere.{Doing, doing_with}
use Rattle.heap_ops.proofs.RoomOnStack.{room_for_constant}
use Rattle.heap_ops.proofs.TextsLoaded.{fails, has_room, leads_somewhere, pushed}
use Rattle.heap_ops.proofs.literals.load_text.Goals as goal

pub unreachable-requires : goal.unreachable-requires
unreachable-requires g c =
    let heaps = g.H.ObjectStore.content c.args.heap.now in
    let frames = g.F.SegmentFrames.content c.args.frames.now in
    leads_somewhere heaps frames c.args.here.now (doing_with heaps frames c.args.own.now c.args.here.now c.requires.may) c.requires.op
    c.in_default.ensures

pub literal_object-requires-clause-known : goal.literal_object-requires-clause-known
literal_object-requires-clause-known g c =
    let heaps = g.H.ObjectStore.content c.args.heap.now in
    let frames = g.F.SegmentFrames.content c.args.frames.now in
    has_room heaps frames c.args.here.now (doing_with heaps frames c.args.own.now c.args.here.now c.requires.may) c.requires.op c.in-Some.text.now
    c.in-Some.ensures

pub push_value-requires : goal.push_value-requires
push_value-requires g c =
    let heaps = g.H.ObjectStore.content c.args.heap.now in
    let frames = g.F.SegmentFrames.content c.args.frames.now in
    room_for_constant heaps frames c.args.here.now (doing_with heaps frames c.args.own.now c.args.here.now c.requires.may) c.requires.op

pub returns-in-Ok : goal.returns-in-Ok
returns-in-Ok g c = λ shared x may setting.
    let heaps = g.H.ObjectStore.content c.args.heap.now in
    let frames = g.F.SegmentFrames.content c.args.frames.now in
    let k : Doing heaps frames c.args.here.now =
    record { own = c.args.own.now; shared = shared; may = may; kind = c.requires.may.kind; setting = x; is_setting = setting } in
    let call : LiteralCall = record {
      heaps = heaps;
      new_heaps = g.H.ObjectStore.content c.literal_object.new.heap;
      own = c.args.own.now;
      new_own = c.literal_object.new.own;
      domain = c.args.here.now.domain;
      text = c.in-Some.text.now;
    } in
    pushed heaps frames c.args.here.now k c.requires.op c.in-Some.text.now c.in-Some.ensures (g.met.H.ObjectStore.holds c.args.heap.now)
    (g.H.ObjectStore.content c.literal_object.new.heap) (g.F.SegmentFrames.content c.push_value.new.self) c.literal_object.new.own c.in-Ok.a
    (subst (λ (classes : List ClassRecord). HasObject call classes c.in-Ok.a) c.classes.ensures c.in-Ok.ensures.ok) c.push_value.ensures

pub returns-in-Err : goal.returns-in-Err
returns-in-Err g c = λ shared x may setting.
    let heaps = g.H.ObjectStore.content c.args.heap.now in
    let frames = g.F.SegmentFrames.content c.args.frames.now in
    let k : Doing heaps frames c.args.here.now =
    record { own = c.args.own.now; shared = shared; may = may; kind = c.requires.may.kind; setting = x; is_setting = setting } in
    fails heaps frames c.args.here.now k c.requires.op c.in-Some.text.now c.in-Some.ensures (g.H.ObjectStore.content c.literal_object.new.heap)
    c.literal_object.new.own c.in-Err.ensures.err
