-- The operand leads to no method, or the method is called.
use Rattle.std.proofs.Common.{◌∷◌, refl}
use Rattle.jk_model_typing.specs.declared.frames.Demand.TheVariants.{Reference}
use Rattle.jk_model_typing.specs.Groups.{Takes}
use Rattle.jk_model_typing.specs.Rows.{arguments}
use Rattle.jk_model_typing.specs.Scopes.{result_values}
use Rattle.type_rows.specs.CodeViews.{scope_of}
use Rattle.type_rows.proofs.OneShape.{by_method}
use Rattle.type_rows.proofs.instructions.calls_interface.Goals as goal

pub returns-in_err-used : goal.returns-in_err-used
returns-in_err-used c = rw c.from_residual.ensures (λ shape (k, m, method, uses, _). c.in_err-used.ensures k m method uses)

pub returns : goal.returns
returns c =
    let s = scope_of c.args.view.now in
    let both =
    by_method s c.args.i.now (λ k m method. Takes (Reference ∷ arguments s method) (result_values s method)) c.in_ok-used.used _ c.in_ok-used.ensures
    (rw (c.params_of.ensures, c.result_of.ensures.list) refl) in
    record { has = both.0; only = both.1 }
