-- Null is met first; else what a store leaves of the value is put in the field's place.
use Rattle.std.proofs.Common.{List, sym, subst, ◌∙◌}
use Rattle.std.proofs.lemmas.Result.{err_from_is_err_and}
use Rattle.jk_model.specs.declared.steps.Raise.TheVariants as Raised
use Rattle.jk_model_classes.specs.declared.records.ClassRecord.{ClassRecord}
use Rattle.jk_model_classes.specs.Lookups.{FieldIs}
use Rattle.jk_model_heaps.specs.SystemClasses.{NULL_POINTER_EXCEPTION}
use Rattle.object_store.specs.HeapContents.{TakesItem}
use Rattle.heap_ops.specs.HeapValues.{IsOwnPlace}
use Rattle.heap_ops.proofs.DoingHere.{Doing, answered, doing}
use Rattle.heap_ops.proofs.FieldPuts.{field_there, here_found, names_one, null_raises, object_below, small, takes, two_there, value_below, value_put}
use Rattle.heap_ops.proofs.fields.put_field.Goals as goal

pub object_at-requires : goal.object_at-requires
object_at-requires g c =
    let heaps = g.H.ObjectStore.content c.args.heap.now in
    let frames = g.F.SegmentFrames.content c.args.frames.now in
    object_below heaps frames c.args.here.now (doing heaps frames c.args.here.now c.requires.may) c.requires.op

pub returns-in_err-a : goal.returns-in_err-a
returns-in_err-a g c = λ own shared x may setting.
    let heaps = g.H.ObjectStore.content c.args.heap.now in
    let frames = g.F.SegmentFrames.content c.args.frames.now in
    let k : Doing heaps frames c.args.here.now =
    record { own = own; shared = shared; may = may; kind = c.requires.may.kind; setting = x; is_setting = setting } in
    let p = err_from_is_err_and c.from_residual.result c.from_residual.ensures.1 in
    let e = c.in_err-a.ensures in
    answered heaps frames c.args.here.now k heaps frames own c.from_residual.result p.0 (Raised.Fresh NULL_POINTER_EXCEPTION) p.1 (p.2 ∙ e.1)
    (null_raises heaps frames c.args.here.now k c.requires.op e.0)

pub field_of-field-requires : goal.field_of-field-requires
field_of-field-requires g c =
    let heaps = g.H.ObjectStore.content c.args.heap.now in
    let frames = g.F.SegmentFrames.content c.args.frames.now in
    names_one heaps frames c.args.here.now (doing heaps frames c.args.here.now c.requires.may) c.requires.op

pub place_of-place-requires-clause-field : goal.place_of-place-requires-clause-field
place_of-place-requires-clause-field g c =
    let heaps = g.H.ObjectStore.content c.args.heap.now in
    let frames = g.F.SegmentFrames.content c.args.frames.now in
    let k = doing heaps frames c.args.here.now c.requires.may in
    let there = field_there heaps frames c.args.here.now k c.requires.op c.field_of-field.result c.field_of-field.ensures in
    let f = here_found heaps frames c.args.here.now k c.requires.op in
    (f.field, subst (λ (classes : List ClassRecord). FieldIs classes c.field_of-field.result f.field) (sym c.classes-t.ensures) there.0, there.1)

pub place_of-place-requires-clause-small : goal.place_of-place-requires-clause-small
place_of-place-requires-clause-small g c = λ place tells.
    let heaps = g.H.ObjectStore.content c.args.heap.now in
    let frames = g.F.SegmentFrames.content c.args.frames.now in
    small heaps frames c.args.here.now (doing heaps frames c.args.here.now c.requires.may) c.requires.op c.field_of-field.result
    c.field_of-field.ensures c.in_ok-a.a c.in_ok-a.ensures (g.met.H.ObjectStore.holds c.args.heap.now) place
    (subst (λ (classes : List ClassRecord). IsOwnPlace classes c.field_of-field.result place) c.classes-t.ensures tells)

pub value_at-top-requires : goal.value_at-top-requires
value_at-top-requires g c =
    let heaps = g.H.ObjectStore.content c.args.heap.now in
    let frames = g.F.SegmentFrames.content c.args.frames.now in
    value_below heaps frames c.args.here.now (doing heaps frames c.args.here.now c.requires.may) c.requires.op

pub field_kind-requires : goal.field_kind-requires
field_kind-requires g c =
    let heaps = g.H.ObjectStore.content c.args.heap.now in
    let frames = g.F.SegmentFrames.content c.args.frames.now in
    let k = doing heaps frames c.args.here.now c.requires.may in
    let there = field_there heaps frames c.args.here.now k c.requires.op c.field_of-field.result c.field_of-field.ensures in
    let f = here_found heaps frames c.args.here.now k c.requires.op in
    (f.field, subst (λ (classes : List ClassRecord). FieldIs classes c.field_of-field.result f.field) (sym c.classes-t.ensures) there.0)

pub write-requires : goal.write-requires
write-requires g c =
    let heaps = g.H.ObjectStore.content c.args.heap.now in
    let frames = g.F.SegmentFrames.content c.args.frames.now in
    let k = doing heaps frames c.args.here.now c.requires.may in
    let there = field_there heaps frames c.args.here.now k c.requires.op c.field_of-field.result c.field_of-field.ensures in
    let f = here_found heaps frames c.args.here.now k c.requires.op in
    let kind = c.field_kind.ensures f.field
    (subst (λ (classes : List ClassRecord). FieldIs classes c.field_of-field.result f.field) (sym c.classes-t.ensures) there.0) in
    subst (λ (classes : List ClassRecord). TakesItem heaps classes c.args.here.now.domain c.in_ok-a.a c.place_of-place.result c.stored-v.result)
    (sym c.classes-t.ensures)
    (takes heaps frames c.args.here.now k c.requires.op c.field_of-field.result c.field_of-field.ensures c.in_ok-a.a c.in_ok-a.ensures
    c.heap_rows_keep.ensures (g.met.H.ObjectStore.holds c.args.heap.now) c.place_of-place.result
    (subst (λ (classes : List ClassRecord). IsOwnPlace classes c.field_of-field.result c.place_of-place.result) c.classes-t.ensures
    c.place_of-place.ensures) c.field_kind.result.now c.value_at-top.result c.stored-v.result kind c.value_at-top.ensures c.stored-v.ensures)

pub drop_entries-requires : goal.drop_entries-requires
drop_entries-requires g c =
    let heaps = g.H.ObjectStore.content c.args.heap.now in
    let frames = g.F.SegmentFrames.content c.args.frames.now in
    two_there heaps frames c.args.here.now (doing heaps frames c.args.here.now c.requires.may) c.requires.op

pub returns : goal.returns
returns g c = λ own shared x may setting.
    let heaps = g.H.ObjectStore.content c.args.heap.now in
    let frames = g.F.SegmentFrames.content c.args.frames.now in
    let k : Doing heaps frames c.args.here.now =
    record { own = own; shared = shared; may = may; kind = c.requires.may.kind; setting = x; is_setting = setting } in
    let there = field_there heaps frames c.args.here.now k c.requires.op c.field_of-field.result c.field_of-field.ensures in
    let f = here_found heaps frames c.args.here.now k c.requires.op in
    let kind = c.field_kind.ensures f.field
    (subst (λ (classes : List ClassRecord). FieldIs classes c.field_of-field.result f.field) (sym c.classes-t.ensures) there.0) in
    value_put heaps frames c.args.here.now k c.requires.op c.field_of-field.result c.field_of-field.ensures c.in_ok-a.a c.in_ok-a.ensures
    c.heap_rows_keep.ensures (g.met.H.ObjectStore.holds c.args.heap.now) c.place_of-place.result
    (subst (λ (classes : List ClassRecord). IsOwnPlace classes c.field_of-field.result c.place_of-place.result) c.classes-t.ensures
    c.place_of-place.ensures) c.field_kind.result.now c.value_at-top.result c.stored-v.result kind c.value_at-top.ensures c.stored-v.ensures
    (g.H.ObjectStore.content c.write.new.self) (g.F.SegmentFrames.content c.drop_entries.new.frames) c.write.ensures c.drop_entries.ensures
