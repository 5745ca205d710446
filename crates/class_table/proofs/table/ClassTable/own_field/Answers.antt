-- The entries find the class's own field.
use Rattle.std.proofs.Common.{List, ap, subst, ◌∙◌}
use Rattle.jk_model_classes.specs.declared.records.ClassRecord.{ClassRecord}
use Rattle.jk_model_classes.specs.Lookups.{FindsFrom, IsFieldOf}
use Rattle.class_table.specs.Entries.{records}
use Rattle.class_table.proofs.table.ClassTable.own_field.Goals as goal

pub returns : goal.returns
returns c =
    let key = c.args.key.now in
    subst (λ (classes : List ClassRecord). FindsFrom (IsFieldOf classes key.name key.kind) c.args.c c.args.from c.own_field.result)
    (ap records c.as_slice.ensures.value ∙ c.self.view_is) c.own_field.ensures
