-- The number becomes that of a class.
use Rattle.std.proofs.Common.{refl}
use Rattle.jk_model.specs.SystemTable.{number_named}
use Rattle.shared_interfaces.proofs.NumbersOfClasses.{found_as_class}
use Rattle.shared_interfaces.proofs.remote_numbers.class_called.Goals as goal

pub returns : goal.returns
returns c =
    λ k. found_as_class (number_named c.args.name.now) _ k (rw (← c.class_named.ensures, c.in_ok-number.was, c.from.ensures) refl)

pub returns-in_err-number : goal.returns-in_err-number
returns-in_err-number c =
    λ k. found_as_class (number_named c.args.name.now) _ k (rw (← c.class_named.ensures, c.in_err-number.was, c.from_residual.ensures) refl)
