-- Where the parenthesis is missing, or the parameters or the result stop, the method does.
use Rattle.std.proofs.Common.{◌-◌, length, refl}
use Rattle.std.proofs.lemmas.Result.{err_from_is_err_and}
use Rattle.jk_model.specs.Descriptors.{IsMethodDescriptor}
use Rattle.descriptors.proofs.NoTextBeginsAnother.{stuck_unopened}
use Rattle.descriptors.proofs.OneTypeOrPlace.{stops_here, method_params_stop, method_result_stop}
use Rattle.descriptors.proofs.methods.next_method.Goals as goal

pub returns-in_default : goal.returns-in_default
returns-in_default c =
    let units = c.args.units.now in
    let whole = c.args.whole in
    rw c.bad_before.ensures
    (stops_here IsMethodDescriptor units whole (whole - length units) c.requires.within refl (stuck_unopened units c.in_default.ensures))

pub returns-in_err-params : goal.returns-in_err-params
returns-in_err-params c =
    let p = err_from_is_err_and c.from_residual.result c.from_residual.ensures.1 in
    rw (p.1, p.2) (method_params_stop c.in-Some.opened.now c.args.units.now c.args.whole c.in_err-params.field-0.0 c.in-Some.ensures c.in_err-params.ensures)

pub returns-in_err-result : goal.returns-in_err-result
returns-in_err-result c =
    let p = err_from_is_err_and c.from_residual-in_err-result.result c.from_residual-in_err-result.ensures.1 in
    rw (p.1, p.2) (method_result_stop c.in_ok-params.params c.in_ok-params.closed.now c.in-Some.opened.now c.args.units.now c.args.whole
    c.in_err-result.field-0.0 c.in-Some.ensures c.in_ok-params.ensures c.in_err-result.ensures)
