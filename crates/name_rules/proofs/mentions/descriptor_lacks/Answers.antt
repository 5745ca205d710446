-- The class in a field's descriptor is that of its type.
use Rattle.name_rules.proofs.NamesLacking.{field_tells}
use Rattle.name_rules.proofs.mentions.descriptor_lacks.Goals as goal

pub returns-in-Ok : goal.returns-in-Ok
returns-in-Ok c =
    field_tells c.args.names.now c.args.units.now c.in-Ok.t c.base_lacks.result c.in-Ok.ensures.read c.base_lacks.ensures
