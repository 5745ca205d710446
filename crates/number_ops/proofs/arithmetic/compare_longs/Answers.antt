-- Two longs are compared.
use Rattle.std.proofs.Common.{ℤ, ap, ◌∙◌}
use Rattle.std.proofs.lemmas.Int.{to_z-of_z}
use Rattle.std.specs.Int.{cast_signed, cast_unsigned, w32, w64}
use Rattle.jk_model.specs.declared.values.Value.TheVariants.{Long}
use Rattle.jk_model_domains.specs.NumberRows.{compared}
use Rattle.number_ops.proofs.Calculations.{comparison}
use Rattle.number_ops.proofs.EntriesOnTop.{first_of_two, room_of_two, second_of_two, two_turned}
use Rattle.number_ops.proofs.arithmetic.compare_longs.Goals as goal

pub pop_long-y-requires : goal.pop_long-y-requires
pop_long-y-requires g c = (c.requires.1, second_of_two _ _ (Long c.requires.0) (Long c.requires.1) 1 c.requires.2)

pub pop_long-x-requires : goal.pop_long-x-requires
pop_long-x-requires g c = (c.requires.0, first_of_two _ _ _ (Long c.requires.0) (Long c.requires.1) _ 1 c.requires.2 c.pop_long-y.ensures)

pub push-requires : goal.push-requires
push-requires g c = room_of_two _ _ _ _ (Long c.requires.0) (Long c.requires.1) _ _ 1 c.requires.2 c.pop_long-y.ensures c.pop_long-x.ensures

pub returns : goal.returns
returns g c =
    let r = (to_z-of_z w32 c.compared.result (record { sfits = c.compared.type_inv })) ∙ c.compared.ensures
    ∙ ap (λ (z : ℤ). compared z (cast_signed w64 (cast_unsigned w64 c.pop_long-y.result))) (to_z-of_z w64 c.pop_long-x.result
    (record { sfits = c.pop_long-x.type_inv }))
    ∙ ap (compared c.pop_long-x.result) (to_z-of_z w64 c.pop_long-y.result (record { sfits = c.pop_long-y.type_inv })) in
    (_, _, comparison c.pop_long-x.result c.pop_long-y.result _ r, two_turned _ _ _ _ _ _ _ _ c.pop_long-y.ensures c.pop_long-x.ensures c.push.ensures)
