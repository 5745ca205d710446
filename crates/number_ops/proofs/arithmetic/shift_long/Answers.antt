-- A long and a distance become a long.
use Rattle.std.proofs.lemmas.Int.{to_z-of_z}
use Rattle.std.specs.Int.{w32, w64}
use Rattle.jk_model.specs.declared.values.Value.TheVariants.{Int, Long}
use Rattle.number_ops.proofs.Calculations.{shifts, same_result}
use Rattle.number_ops.proofs.EntriesOnTop.{first_of_two, room_of_two, second_of_two, two_turned}
use Rattle.jk_model_domains.specs.NumberRows.{long_shifts}
use Rattle.number_ops.proofs.arithmetic.shift_long.Goals as goal

pub pop_int-n-requires : goal.pop_int-n-requires
pop_int-n-requires g c = (c.requires.finds.1, second_of_two _ _ (Long c.requires.finds.0) (Int c.requires.finds.1) 1 c.requires.finds.2)

pub pop_long-x-requires : goal.pop_long-x-requires
pop_long-x-requires g c =
    (c.requires.finds.0, first_of_two _ _ _ (Long c.requires.finds.0) (Int c.requires.finds.1) _ 1 c.requires.finds.2 c.pop_int-n.ensures)

pub push-requires : goal.push-requires
push-requires g c =
    room_of_two _ _ _ _ (Long c.requires.finds.0) (Int c.requires.finds.1) _ _ 1 c.requires.finds.2 c.pop_int-n.ensures c.pop_long-x.ensures

pub returns : goal.returns
returns g c =
    let r = same_result long_shifts c.args.op _ _ _ _ _ _ c.long_shift.ensures
    (to_z-of_z w64 c.pop_long-x.result (record { sfits = c.pop_long-x.type_inv }))
    (to_z-of_z w32 c.pop_int-n.result (record { sfits = c.pop_int-n.type_inv }))
    (to_z-of_z w64 c.long_shift.result (record { sfits = c.long_shift.type_inv })) in
    (_, _, shifts c.args.op c.pop_long-x.result c.pop_int-n.result _ r, two_turned _ _ _ _ _ _ _ _ c.pop_int-n.ensures c.pop_long-x.ensures c.push.ensures)
