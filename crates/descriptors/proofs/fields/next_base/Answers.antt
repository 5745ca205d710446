-- Where the name of a class stops, the base does.
use Rattle.std.proofs.lemmas.Result.{err_from_is_err_and}
use Rattle.descriptors.proofs.OneTypeOrPlace.{class_stop}
use Rattle.descriptors.proofs.fields.next_base.Goals as goal

pub returns-in_err-name : goal.returns-in_err-name
returns-in_err-name c =
    let p = err_from_is_err_and c.from_residual.result c.from_residual.ensures.1 in
    rw (p.1, p.2) (class_stop c.in-Some.name_on.now c.args.units.now c.args.whole c.in_err-name.field-0.0.0 c.in-Some.ensures c.in_err-name.ensures)
