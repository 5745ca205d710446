-- The object is pushed where it fits.
use Rattle.std.proofs.Common.{◌<◌, ◌≤◌, List, sym, subst}
use Rattle.jk_model_classes.specs.declared.records.ClassRecord.{ClassRecord}
use Rattle.jk_model_classes.specs.Classes.{HasClass}
use Rattle.jk_model_heaps.specs.declared.shapes.Shape.TheVariants as Of
use Rattle.jk_model_heaps.specs.Heaps.{zero_object}
use Rattle.object_store.specs.HeapContents.{MakesObject, shape_words, words_left}
use Rattle.heap_ops.proofs.DoingHere.{Doing, doing}
use Rattle.heap_ops.proofs.ObjectsNew.{class_there, is_class, names_type, object_fails, object_pushed}
use Rattle.heap_ops.proofs.RoomOnStack.{room_for_object}
use Rattle.heap_ops.proofs.making.make_object.Goals as goal

pub type_named-requires : goal.type_named-requires
type_named-requires g c =
    let heaps = g.H.ObjectStore.content c.args.heap.now in
    let frames = g.F.SegmentFrames.content c.args.frames.now in
    names_type heaps frames c.args.here.now (doing heaps frames c.args.here.now c.requires.may) c.requires.op

pub unreachable-requires : goal.unreachable-requires
unreachable-requires g c =
    let heaps = g.H.ObjectStore.content c.args.heap.now in
    let frames = g.F.SegmentFrames.content c.args.frames.now in
    c.in_default.not-Class _ (is_class heaps frames c.args.here.now (doing heaps frames c.args.here.now c.requires.may) c.requires.op c.type_named.result.now
    c.type_named.ensures)

pub make-requires-clause-classes : goal.make-requires-clause-classes
make-requires-clause-classes g c =
    let heaps = g.H.ObjectStore.content c.args.heap.now in
    let frames = g.F.SegmentFrames.content c.args.frames.now in
    let there : HasClass c.classes.result.now c.in-Class.class =
    subst (λ (classes : List ClassRecord). HasClass classes c.in-Class.class) (sym c.classes.ensures)
    (class_there heaps frames c.args.here.now (doing heaps frames c.args.here.now c.requires.may) c.requires.op c.type_named.result.now
    c.in-Class.class c.type_named.ensures c.in-Class.is) in
    there

pub push_value-requires : goal.push_value-requires
push_value-requires g c =
    let heaps = g.H.ObjectStore.content c.args.heap.now in
    let frames = g.F.SegmentFrames.content c.args.frames.now in
    room_for_object heaps frames c.args.here.now (doing heaps frames c.args.here.now c.requires.may) c.requires.op

pub returns-in-Ok : goal.returns-in-Ok
returns-in-Ok g c = λ own shared x may setting.
    let heaps = g.H.ObjectStore.content c.args.heap.now in
    let frames = g.F.SegmentFrames.content c.args.frames.now in
    let after = g.H.ObjectStore.content c.make.new.self in
    let k : Doing heaps frames c.args.here.now =
    record { own = own; shared = shared; may = may; kind = c.requires.may.kind; setting = x; is_setting = setting } in
    object_pushed heaps frames c.args.here.now k c.requires.op c.type_named.result.now c.in-Class.class c.type_named.ensures c.in-Class.is
    (g.met.H.ObjectStore.holds c.args.heap.now) after (g.F.SegmentFrames.content c.push_value.new.self) c.in-Ok.a
    (subst (λ (classes : List ClassRecord). MakesObject heaps after classes c.args.here.now.domain c.in-Ok.a
    (zero_object classes (Of.Plain c.in-Class.class))) c.classes.ensures c.in-Ok.ensures.ok)
    (subst (λ (classes : List ClassRecord). shape_words classes (Of.Plain c.in-Class.class) ≤ words_left heaps c.args.here.now.domain)
    c.classes.ensures c.in-Ok.ensures.room) c.push_value.ensures

pub returns-in-Err : goal.returns-in-Err
returns-in-Err g c = λ own shared x may setting.
    let heaps = g.H.ObjectStore.content c.args.heap.now in
    let frames = g.F.SegmentFrames.content c.args.frames.now in
    let after = g.H.ObjectStore.content c.make.new.self in
    let k : Doing heaps frames c.args.here.now =
    record { own = own; shared = shared; may = may; kind = c.requires.may.kind; setting = x; is_setting = setting } in
    object_fails heaps frames c.args.here.now k c.requires.op c.type_named.result.now c.in-Class.class c.type_named.ensures c.in-Class.is after
    c.in-Err.ensures.err
    (subst (λ (classes : List ClassRecord). words_left heaps c.args.here.now.domain < shape_words classes (Of.Plain c.in-Class.class))
    c.classes.ensures c.in-Err.ensures.no_room)
