-- The operand leads to no field, or the value is pushed.
use Rattle.std.proofs.Common.{[], ◌∷◌, ap}
use Rattle.jk_model_typing.specs.declared.frames.VType.{VType}
use Rattle.jk_model_typing.specs.FrameTypes.{value_of}
use Rattle.jk_model_typing.specs.Groups.{Takes}
use Rattle.type_rows.specs.CodeViews.{scope_of}
use Rattle.type_rows.proofs.OneShape.{by_field}
use Rattle.type_rows.proofs.instructions.gets_static.Goals as goal

pub returns-in_err-used : goal.returns-in_err-used
returns-in_err-used c = rw c.from_residual.ensures (λ shape (k, m, field, uses, _). c.in_err-used.ensures k m field uses)

pub returns : goal.returns
returns c =
    let s = scope_of c.args.view.now in
    let both =
    by_field s c.args.i.now (λ k m field. Takes [] (value_of s.classes field.kind ∷ [])) c.in_ok-used.used _ c.in_ok-used.ensures
    (ap (λ (v : VType). Takes [] (v ∷ [])) c.value_of-value.ensures) in
    record { has = both.0; only = both.1 }
