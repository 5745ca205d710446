-- The operand leads to no method, or to a constructor.
use Rattle.std.proofs.Common.{refl}
use Rattle.type_rows.specs.CodeViews.{scope_of}
use Rattle.type_rows.proofs.OneShape.{constructor_called}
use Rattle.type_rows.proofs.instructions.calls_special.Goals as goal

pub returns-in_err-used : goal.returns-in_err-used
returns-in_err-used c = rw c.from_residual.ensures (λ shape (k, m, method, uses, _). c.in_err-used.ensures k m method uses)

pub returns-then-is_init : goal.returns-then-is_init
returns-then-is_init c =
    constructor_called (scope_of c.args.view.now) c.args.i.now c.in_ok-used.used _ c.in_ok-used.ensures (c.if-is_init.ensures.name.0 refl)
    (rw c.params_of-params.ensures refl)
