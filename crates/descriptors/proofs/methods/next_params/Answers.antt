-- Where a parameter stops, the parameters do.
use Rattle.std.proofs.lemmas.Result.{err_from_is_err_and}
use Rattle.descriptors.proofs.OneTypeOrPlace.{params_stop}
use Rattle.descriptors.proofs.methods.next_params.Goals as goal

pub returns-in_err-param : goal.returns-in_err-param
returns-in_err-param c =
    let p = err_from_is_err_and c.from_residual.result c.from_residual.ensures.1 in
    rw (p.1, p.2) (params_stop c.loop-closed.params c.loop-closed.rest.now c.args.units.now c.args.whole c.in_err-param.field-0.0 c.loop-closed.invariant.0
    c.loop-closed.invariant.1 c.in_default.ensures c.in_err-param.ensures)
