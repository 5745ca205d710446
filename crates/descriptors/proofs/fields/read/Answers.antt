-- A field stops where it is read no further, or where units follow it.
use Rattle.std.proofs.Common.{false, refl}
use Rattle.jk_model.proofs.EmptyByLength.{not_nil_from_test}
use Rattle.std.proofs.lemmas.Result.{err_from_is_err_and}
use Rattle.descriptors.proofs.OneTypeOrPlace.{field_stopped, field_trailing}
use Rattle.descriptors.proofs.fields.read.Goals as goal

pub returns-in_err-found : goal.returns-in_err-found
returns-in_err-found c =
    let p = err_from_is_err_and c.from_residual.result c.from_residual.ensures.1 in
    rw (p.1, p.2) (field_stopped c.args.units.now c.in_err-found.field-0.0 c.in_err-found.ensures)

pub returns-then-not-is_empty : goal.returns-then-not-is_empty
returns-then-not-is_empty c =
    rw c.bad_before.ensures (field_trailing c.args.units.now c.in_ok-found.rest.now c.in_ok-found.found c.in_ok-found.ensures
    (not_nil_from_test c.in_ok-found.rest.now false c.if-not-is_empty.ensures refl))
