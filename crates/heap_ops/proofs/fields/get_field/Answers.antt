-- Null is met first; else the field's value is pushed.
use Rattle.std.proofs.Common.{List, sym, subst, ◌∙◌}
use Rattle.std.proofs.lemmas.Result.{err_from_is_err_and}
use Rattle.jk_model.specs.declared.steps.Raise.TheVariants as Raised
use Rattle.jk_model_classes.specs.declared.records.ClassRecord.{ClassRecord}
use Rattle.jk_model_classes.specs.Lookups.{FieldIs}
use Rattle.jk_model_heaps.specs.SystemClasses.{NULL_POINTER_EXCEPTION}
use Rattle.object_store.specs.HeapContents.{HasItem}
use Rattle.heap_ops.specs.HeapValues.{IsOwnPlace}
use Rattle.heap_ops.proofs.DoingHere.{Doing, answered, doing}
use Rattle.heap_ops.proofs.FieldGets.{field_there, item, names_one, null_raises, object_below, one_there, small, value_pushed}
use Rattle.heap_ops.proofs.fields.get_field.Goals as goal

pub object_at-requires : goal.object_at-requires
object_at-requires g c =
    let heaps = g.H.ObjectStore.content c.args.heap.now in
    let frames = g.F.SegmentFrames.content c.args.frames.now in
    object_below heaps frames c.args.here.now (doing heaps frames c.args.here.now c.requires.may) c.requires.op

pub returns-in_err-a : goal.returns-in_err-a
returns-in_err-a g c = λ own shared x may setting.
    let heaps = g.H.ObjectStore.content c.args.heap.now in
    let frames = g.F.SegmentFrames.content c.args.frames.now in
    let k : Doing heaps frames c.args.here.now =
    record { own = own; shared = shared; may = may; kind = c.requires.may.kind; setting = x; is_setting = setting } in
    let p = err_from_is_err_and c.from_residual.result c.from_residual.ensures.1 in
    let e = c.in_err-a.ensures in
    answered heaps frames c.args.here.now k heaps frames own c.from_residual.result p.0 (Raised.Fresh NULL_POINTER_EXCEPTION) p.1 (p.2 ∙ e.1)
    (null_raises heaps frames c.args.here.now k c.requires.op e.0)

pub field_of-field-requires : goal.field_of-field-requires
field_of-field-requires g c =
    let heaps = g.H.ObjectStore.content c.args.heap.now in
    let frames = g.F.SegmentFrames.content c.args.frames.now in
    names_one heaps frames c.args.here.now (doing heaps frames c.args.here.now c.requires.may) c.requires.op

pub place_of-place-requires-clause-field : goal.place_of-place-requires-clause-field
place_of-place-requires-clause-field g c =
    let heaps = g.H.ObjectStore.content c.args.heap.now in
    let frames = g.F.SegmentFrames.content c.args.frames.now in
    let there = field_there heaps frames c.args.here.now (doing heaps frames c.args.here.now c.requires.may) c.requires.op c.field_of-field.result
    c.field_of-field.ensures in
    (there.0, subst (λ (classes : List ClassRecord). FieldIs classes c.field_of-field.result there.0) (sym c.classes-t.ensures) there.1, there.2)

pub place_of-place-requires-clause-small : goal.place_of-place-requires-clause-small
place_of-place-requires-clause-small g c = λ place tells.
    let heaps = g.H.ObjectStore.content c.args.heap.now in
    let frames = g.F.SegmentFrames.content c.args.frames.now in
    small heaps frames c.args.here.now (doing heaps frames c.args.here.now c.requires.may) c.requires.op c.field_of-field.result
    c.field_of-field.ensures c.in_ok-a.a c.in_ok-a.ensures (g.met.H.ObjectStore.holds c.args.heap.now) place
    (subst (λ (classes : List ClassRecord). IsOwnPlace classes c.field_of-field.result place) c.classes-t.ensures tells)

pub read-v-requires : goal.read-v-requires
read-v-requires g c =
    let heaps = g.H.ObjectStore.content c.args.heap.now in
    let frames = g.F.SegmentFrames.content c.args.frames.now in
    subst (λ (classes : List ClassRecord). HasItem heaps classes c.args.here.now.domain c.in_ok-a.a c.place_of-place.result) (sym c.classes-t.ensures)
    (item heaps frames c.args.here.now (doing heaps frames c.args.here.now c.requires.may) c.requires.op c.field_of-field.result
    c.field_of-field.ensures c.in_ok-a.a c.in_ok-a.ensures c.place_of-place.result
    (subst (λ (classes : List ClassRecord). IsOwnPlace classes c.field_of-field.result c.place_of-place.result) c.classes-t.ensures c.place_of-place.ensures))

pub replace-requires-clause-many : goal.replace-requires-clause-many
replace-requires-clause-many g c =
    let heaps = g.H.ObjectStore.content c.args.heap.now in
    let frames = g.F.SegmentFrames.content c.args.frames.now in
    one_there heaps frames c.args.here.now (doing heaps frames c.args.here.now c.requires.may) c.requires.op

pub returns : goal.returns
returns g c = λ own shared x may setting.
    let heaps = g.H.ObjectStore.content c.args.heap.now in
    let frames = g.F.SegmentFrames.content c.args.frames.now in
    let k : Doing heaps frames c.args.here.now =
    record { own = own; shared = shared; may = may; kind = c.requires.may.kind; setting = x; is_setting = setting } in
    value_pushed heaps frames c.args.here.now k c.requires.op c.field_of-field.result c.field_of-field.ensures c.in_ok-a.a c.in_ok-a.ensures
    c.place_of-place.result c.read-v.result (g.F.SegmentFrames.content c.replace.new.frames)
    (subst (λ (classes : List ClassRecord). IsOwnPlace classes c.field_of-field.result c.place_of-place.result) c.classes-t.ensures c.place_of-place.ensures)
    c.read-v.ensures c.replace.ensures
