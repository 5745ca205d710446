-- One value becomes another one.
use Rattle.std.proofs.Common.{ℤ, subst}
use Rattle.std.proofs.lemmas.Int.{to_z-of_z}
use Rattle.std.specs.Int.{w64}
use Rattle.jk_model.specs.declared.values.Value.TheVariants.{Long}
use Rattle.jk_model_domains.specs.NumberRows.{IsConversion}
use Rattle.number_ops.proofs.Calculations.{conversion}
use Rattle.number_ops.proofs.EntriesOnTop.{one_turned, room_of_one}
use Rattle.number_ops.proofs.FoundOperands.{roomless}
use Rattle.number_ops.proofs.arithmetic.convert_long.Goals as goal

pub pop_long-x-requires : goal.pop_long-x-requires
pop_long-x-requires g c = (c.requires.finds.0, roomless _ _ _ 1 c.requires.finds.1)

pub push-requires : goal.push-requires
push-requires g c = room_of_one _ _ _ (Long c.requires.finds.0) _ 1 c.requires.finds.1 c.pop_long-x.ensures

pub returns : goal.returns
returns g c =
    let r = subst (λ (z : ℤ). IsConversion c.args.op (Long z) c.converted_long.result) (to_z-of_z w64 c.pop_long-x.result
    (record { sfits = c.pop_long-x.type_inv })) c.converted_long.ensures in
    (_, _, conversion c.args.op _ _ r, one_turned _ _ _ _ _ _ c.pop_long-x.ensures c.push.ensures)
