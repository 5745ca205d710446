-- As many members as records.
use Rattle.std.proofs.Common.{◌≡◌, length, ap, ◌∙◌, arith}
use Rattle.jk_model_classes.specs.Layouts.{Layout}
use Rattle.jk_model_heaps.specs.Heaps.{field_records}
use Rattle.graph_copy.proofs.FieldsByPlace.{as_many_records}
use Rattle.graph_copy.proofs.places.field_count.Goals as goal

pub overflow_cast-result : goal.overflow_cast-result
overflow_cast-result c =
    let count : c.len.result ≡ length (field_records c.args.t.now c.args.c) =
    c.len.ensures ∙ ap (λ (l : Layout). length l.fields) c.layout_of.ensures
    ∙ as_many_records c.args.t.now c.args.c (c.fields_stand_in_one_order.ensures c.args.t.now c.args.c) in
    omega (arith, count, c.requires.few)

pub returns : goal.returns
returns c =
    c.len.ensures ∙ ap (λ (l : Layout). length l.fields) c.layout_of.ensures
    ∙ as_many_records c.args.t.now c.args.c (c.fields_stand_in_one_order.ensures c.args.t.now c.args.c)
