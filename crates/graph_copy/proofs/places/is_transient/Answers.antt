-- The field at the place has a member, and that one record.
use Rattle.std.proofs.Common.{◌≡◌, slice_get, sym, ap, ◌∙◌, subst}
use Rattle.std.specs.Prelude.{option_map}
use Rattle.std.proofs.lemmas.Option.{same_Some}
use Rattle.jk_model.specs.declared.identifiers.MemberId.{MemberId}
use Rattle.jk_model_classes.specs.declared.records.FieldRecord.{FieldRecord}
use Rattle.jk_model_classes.specs.Layouts.{InstanceField, Layout}
use Rattle.jk_model_classes.specs.Lookups.{FieldIs}
use Rattle.jk_model_graphs.specs.Followed.{is_left_empty}
use Rattle.graph_copy.proofs.FieldsByPlace.{field_at, member_at, one_field}
use Rattle.graph_copy.proofs.places.is_transient.Goals as goal

pub unreachable-requires : goal.unreachable-requires
unreachable-requires c =
    let f = field_at c.args.t.now c.args.c c.args.i c.requires.place in
    let m = member_at c.args.t.now c.args.c (c.fields_stand_in_one_order.ensures c.args.t.now c.args.c) c.args.i f.0 f.1 in
    c.in_default.not-Some m.0
    (c.field.ensures ∙ ap (λ (l : Layout). option_map (λ (e : InstanceField). e.member) (slice_get l.fields c.args.i)) c.layout_of.ensures ∙ m.1)

pub unreachable-requires-in-None : goal.unreachable-requires-in-None
unreachable-requires-in-None c =
    let f = field_at c.args.t.now c.args.c c.args.i c.requires.place in
    let m = member_at c.args.t.now c.args.c (c.fields_stand_in_one_order.ensures c.args.t.now c.args.c) c.args.i f.0 f.1 in
    let same : c.in-Some.member ≡ m.0 =
    same_Some c.in-Some.member m.0 (sym c.in-Some.is ∙ c.field.ensures
    ∙ ap (λ (l : Layout). option_map (λ (e : InstanceField). e.member) (slice_get l.fields c.args.i)) c.layout_of.ensures ∙ m.1) in
    c.in-None.ensures.none f.0 (subst (λ (k : MemberId). FieldIs c.args.t.now k f.0) (sym same) m.2)

pub returns : goal.returns
returns c = λ field at.
    let m = member_at c.args.t.now c.args.c (c.fields_stand_in_one_order.ensures c.args.t.now c.args.c) c.args.i field at in
    let same : c.in-Some.member ≡ m.0 =
    same_Some c.in-Some.member m.0 (sym c.in-Some.is ∙ c.field.ensures
    ∙ ap (λ (l : Layout). option_map (λ (e : InstanceField). e.member) (slice_get l.fields c.args.i)) c.layout_of.ensures ∙ m.1) in
    let one : c.in-Some-field_record.field.now ≡ field =
    one_field c.args.t.now m.0 c.in-Some-field_record.field.now field
    (subst (λ (k : MemberId). FieldIs c.args.t.now k c.in-Some-field_record.field.now) same c.in-Some-field_record.ensures.some) m.2 in
    c.has.ensures ∙ ap (λ (f : FieldRecord). is_left_empty f) one
