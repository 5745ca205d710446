-- Two longs become one.
use Rattle.std.proofs.lemmas.Int.{to_z-of_z}
use Rattle.std.specs.Int.{w64}
use Rattle.jk_model.specs.declared.values.Value.TheVariants.{Long}
use Rattle.number_ops.proofs.Calculations.{longs, same_result}
use Rattle.number_ops.proofs.EntriesOnTop.{first_of_two, room_of_two, second_of_two, two_turned}
use Rattle.jk_model_domains.specs.NumberRows.{long_operations}
use Rattle.number_ops.proofs.arithmetic.calculate_longs.Goals as goal

pub pop_long-y-requires : goal.pop_long-y-requires
pop_long-y-requires g c = (c.requires.finds.1, second_of_two _ _ (Long c.requires.finds.0) (Long c.requires.finds.1) 1 c.requires.finds.2)

pub pop_long-x-requires : goal.pop_long-x-requires
pop_long-x-requires g c =
    (c.requires.finds.0, first_of_two _ _ _ (Long c.requires.finds.0) (Long c.requires.finds.1) _ 1 c.requires.finds.2 c.pop_long-y.ensures)

pub push-requires : goal.push-requires
push-requires g c =
    room_of_two _ _ _ _ (Long c.requires.finds.0) (Long c.requires.finds.1) _ _ 1 c.requires.finds.2 c.pop_long-y.ensures c.pop_long-x.ensures

pub returns : goal.returns
returns g c =
    let r = same_result long_operations c.args.op _ _ _ _ _ _ c.long_operation.ensures
    (to_z-of_z w64 c.pop_long-x.result (record { sfits = c.pop_long-x.type_inv }))
    (to_z-of_z w64 c.pop_long-y.result (record { sfits = c.pop_long-y.type_inv }))
    (to_z-of_z w64 c.long_operation.result (record { sfits = c.long_operation.type_inv })) in
    (_, _, longs c.args.op c.pop_long-x.result c.pop_long-y.result _ r, two_turned _ _ _ _ _ _ _ _ c.pop_long-y.ensures c.pop_long-x.ensures c.push.ensures)
