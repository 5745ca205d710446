-- Where the result's type stops, the result does.
use Rattle.std.proofs.lemmas.Result.{err_from_is_err_and}
use Rattle.descriptors.proofs.OneTypeOrPlace.{result_stop}
use Rattle.descriptors.proofs.methods.next_result.Goals as goal

pub returns-in_err-found : goal.returns-in_err-found
returns-in_err-found c =
    let p = err_from_is_err_and c.from_residual.result c.from_residual.ensures.1 in
    rw (p.1, p.2) (result_stop c.args.units.now c.args.whole c.in_err-found.field-0.0 c.in_default.ensures c.in_err-found.ensures)
