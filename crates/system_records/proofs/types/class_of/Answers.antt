-- The class of a name is that of its number.
use Rattle.std.proofs.Common.{Some, ap, sym, ◌∙◌}
use Rattle.system_records.proofs.ClassesByName.{has_number, class_of_number}
use Rattle.system_records.proofs.types.class_of.Goals as goal

pub unwrap-requires : goal.unwrap-requires
unwrap-requires c = has_number c.args.name.now c.class_named.result c.class_named.ensures c.requires

pub returns : goal.returns
returns c =
    class_of_number c.args.name.now c.class_named.result c.unwrap.result c.class_named.ensures c.unwrap.ensures
    ∙ ap (λ n. Some n) (sym c.class_id.ensures)
