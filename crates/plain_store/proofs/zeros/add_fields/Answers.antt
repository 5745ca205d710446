-- One field more has its zero.
use Rattle.std.proofs.Common.{◌≡◌, ◌++◌, List, length, take, option_map, slice_get, ap, ◌∙◌, arith}
use Rattle.std.proofs.lemmas.List.{length-append, take_all}
use Rattle.list_lemmas.proofs.FoundItems.{no_entry}
use Rattle.list_lemmas.proofs.ItemsByPlace.{length_take}
use Rattle.jk_model.specs.declared.values.Value.{Value}
use Rattle.jk_model_classes.specs.Layouts.{InstanceField, Layout, instance_fields}
use Rattle.jk_model_heaps.specs.Heaps.{zero_fields}
use Rattle.plain_store.proofs.FieldZeros.{as_many_zeros, field_at, one_more_zero}
use Rattle.plain_store.proofs.zeros.add_fields.Goals as goal

pub field_zero-requires : goal.field_zero-requires
field_zero-requires c =
    let t = c.args.t.now in
    let fields = ap (λ (l : Layout). option_map (λ (f : InstanceField). f.member) (slice_get l.fields c.loop-i.i)) c.in-Some.ensures.some.1 in
    let at = field_at t c.args.c (c.fields_stand_in_one_order.ensures t c.args.c) c.loop-i.i c.in-Some-field.m (c.in-Some-field.ensures ∙ fields) in
    (at.field, at.is)

pub push_reserved-requires : goal.push_reserved-requires
push_reserved-requires c =
    let t = c.args.t.now in
    let begun = c.args.values.now.items in
    let zeros = zero_fields t c.args.c in
    let many = as_many_zeros t c.args.c (c.fields_stand_in_one_order.ensures t c.args.c) in
    let fields : length c.in-Some.layout.fields ≡ length (instance_fields t c.args.c) = ap (λ (l : Layout). length l.fields) c.in-Some.ensures.some.1 in
    let long : length c.loop-i.values.items ≡ length (begun ++ take c.loop-i.i zeros) = ap (λ (vs : List Value). length vs) c.loop-i.invariant.so_far in
    omega (
      arith,
      many,
      fields,
      long,
      length-append begun (take c.loop-i.i zeros),
      length_take zeros c.loop-i.i,
      c.loop-i.invariant.capacity,
      c.loop-i.values.ok.0,
      c.requires.room,
      c.len-i-end.ensures,
      c.loop-i-test.true,
    )

pub unreachable-requires-in-None : goal.unreachable-requires-in-None
unreachable-requires-in-None c =
    no_entry (λ (f : InstanceField). f.member) c.in-Some.layout.fields c.loop-i.i c.in-None.ensures (omega (arith, c.len-i-end.ensures, c.loop-i-test.true))

pub loop-i-preserved : goal.loop-i-preserved
loop-i-preserved c =
    let t = c.args.t.now in
    let fields = ap (λ (l : Layout). option_map (λ (f : InstanceField). f.member) (slice_get l.fields c.loop-i.i)) c.in-Some.ensures.some.1 in
    let at = field_at t c.args.c (c.fields_stand_in_one_order.ensures t c.args.c) c.loop-i.i c.in-Some-field.m (c.in-Some-field.ensures ∙ fields) in
    record {
      so_far =
          c.push_reserved.ensures.items
          ∙ one_more_zero c.loop-i.values.items c.args.values.now.items (zero_fields t c.args.c) c.loop-i.i c.field_zero.result _
          c.loop-i.invariant.so_far at.zero (c.field_zero.ensures at.field at.is);
      capacity = c.push_reserved.ensures.capacity ∙ c.loop-i.invariant.capacity;
    }

pub returns-clause-items : goal.returns-clause-items
returns-clause-items c =
    let t = c.args.t.now in
    let zeros = zero_fields t c.args.c in
    let many = as_many_zeros t c.args.c (c.fields_stand_in_one_order.ensures t c.args.c) in
    let fields : length c.in-Some.layout.fields ≡ length (instance_fields t c.args.c) = ap (λ (l : Layout). length l.fields) c.in-Some.ensures.some.1 in
    c.loop-i.invariant.so_far
    ∙ ap (λ (vs : List Value). c.args.values.now.items ++ vs)
    (take_all c.loop-i.i zeros (omega (arith, many, fields, c.len-i-end.ensures, c.loop-i-test.false)))
