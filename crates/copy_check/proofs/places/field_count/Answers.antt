-- As many members as records.
use Rattle.std.proofs.Common.{length, ap, ◌∙◌}
use Rattle.jk_model_classes.specs.Layouts.{Layout}
use Rattle.graph_copy.proofs.FieldsByPlace.{as_many_records}
use Rattle.copy_check.proofs.places.field_count.Goals as goal

pub returns : goal.returns
returns c =
    c.len.ensures ∙ ap (λ (l : Layout). length l.fields) c.in-Some.ensures.some.1
    ∙ as_many_records c.args.t.now c.args.c (c.fields_stand_in_one_order.ensures c.args.t.now c.args.c)
