-- Where the base stops, the field does.
use Rattle.std.proofs.lemmas.Result.{err_from_is_err_and}
use Rattle.descriptors.proofs.OneTypeOrPlace.{field_stop}
use Rattle.descriptors.proofs.fields.next_field.Goals as goal

pub returns-in_err-base : goal.returns-in_err-base
returns-in_err-base c =
    let p = err_from_is_err_and c.from_residual.result c.from_residual.ensures.1 in
    rw (p.1, p.2) (field_stop c.dimensions-dims.result c.from.result c.args.units.now c.args.whole c.in_err-base.field-0.0 c.dimensions-dims.ensures
    c.from.ensures c.in_err-base.ensures)
