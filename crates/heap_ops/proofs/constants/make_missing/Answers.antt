-- The constant text of one field after the other gets its object.
use Rattle.std.proofs.Common.{◌+◌, List, drop, subst, sym, take}
use Rattle.list_lemmas.proofs.ItemsOfLists.{Contains-at}
use Rattle.jk_model_classes.specs.declared.records.FieldRecord.{FieldRecord}
use Rattle.jk_model_heap_rows.specs.Constants.{new_texts}
use Rattle.heap_ops.proofs.FieldsInTurn.{next_at, next_passed, others_after, passed_all}
use Rattle.heap_ops.proofs.MissingTextsMade.{Made, has_room, known_still, none_made, with_object, without_text}
use Rattle.heap_ops.proofs.TextsInTurn.{of_fields}
use Rattle.heap_ops.proofs.constants.make_missing.Goals as goal
use Rattle.heap_ops.proofs.constants.make_missing.Goals.{in-Some+in-Ok, in_default}

pub loop-field-init : goal.loop-field-init
loop-field-init g c = none_made c.args.t.now c.args.d (g.H.ObjectStore.content c.args.heap.now) c.args.own.now

pub literal_object-requires-clause-known : goal.literal_object-requires-clause-known
literal_object-requires-clause-known g c =
    let r = c.args.class.now in
    let i = c.loop-field.field-index in
    let field = c.field-item.result in
    let at = next_at r.fields c.as_slice-fields.result.now c.as_slice-fields.ensures i c.loop-field-test.true field c.field-item.is in
    known_still c.args.t.now c.args.d (g.H.ObjectStore.content c.args.heap.now) c.args.own.now (g.H.ObjectStore.content c.loop-field.heap)
    c.loop-field.own (new_texts c.args.own.now.state (of_fields r (take i r.fields))) c.loop-field.invariant c.in-Some.text.now
    (c.requires.known field c.in-Some.text.now (Contains-at r.fields i field at) c.in-Some.ensures)

pub unreachable-requires : goal.unreachable-requires
unreachable-requires g c =
    let r = c.args.class.now in
    let i = c.loop-field.field-index in
    let field = c.field-item.result in
    has_room c.args.t.now c.args.d (g.H.ObjectStore.content c.args.heap.now) c.args.own.now r (take i r.fields) field
    (g.H.ObjectStore.content c.loop-field.heap) c.loop-field.own c.loop-field.invariant c.in-Some.text.now c.in-Some.ensures
    (g.H.ObjectStore.content c.literal_object.new.heap) c.literal_object.new.own (drop (i + 1) r.fields)
    (others_after r.fields c.as_slice-fields.result.now c.as_slice-fields.ensures i c.loop-field-test.true field c.field-item.is) c.requires.fits
    c.in_default-literal_object.ensures.err

pub loop-field-preserved : goal.loop-field-preserved
loop-field-preserved g c =
    let r = c.args.class.now in
    let own = c.args.own.now in
    let i = c.loop-field.field-index in
    let field = c.field-item.result in
    let next = next_passed r.fields c.as_slice-fields.result.now c.as_slice-fields.ensures i c.loop-field-test.true field c.field-item.is in
    subst (λ (fs : List FieldRecord). Made c.args.t.now c.args.d (g.H.ObjectStore.content c.args.heap.now) own
    (g.H.ObjectStore.content c.match-text_constant.heap) c.match-text_constant.own (new_texts own.state (of_fields r fs))) (sym next)
    (elim c.match-text_constant.branch [
      | in-Some+in-Ok w ↦
          rw (w.heap-is, w.own-is)
          (with_object c.args.t.now c.args.d (g.H.ObjectStore.content c.args.heap.now) own r (take i r.fields) field
          (g.H.ObjectStore.content c.loop-field.heap) c.loop-field.own c.loop-field.invariant w.in-Some.text.now w.in-Some.ensures
          (g.H.ObjectStore.content w.literal_object.new.heap) w.literal_object.new.own w.in-Ok.field-0 w.in-Ok.ensures.ok)
      | in_default w ↦
          rw (w.heap-is, w.own-is)
          (without_text c.args.t.now c.args.d (g.H.ObjectStore.content c.args.heap.now) own r (take i r.fields) field
          (g.H.ObjectStore.content c.loop-field.heap) c.loop-field.own c.loop-field.invariant w.in_default.ensures)
    ])

pub returns : goal.returns
returns g c =
    let r = c.args.class.now in
    let own = c.args.own.now in
    subst (λ (fs : List FieldRecord). Made c.args.t.now c.args.d (g.H.ObjectStore.content c.args.heap.now) own
    (g.H.ObjectStore.content c.loop-field.heap) c.loop-field.own (new_texts own.state (of_fields r fs)))
    (passed_all r.fields c.as_slice-fields.result.now c.as_slice-fields.ensures c.loop-field.field-index c.loop-field-test.false)
    c.loop-field.invariant
