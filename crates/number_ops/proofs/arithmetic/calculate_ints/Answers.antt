-- Two ints become one.
use Rattle.std.proofs.lemmas.Int.{to_z-of_z}
use Rattle.std.specs.Int.{w32}
use Rattle.jk_model.specs.declared.values.Value.TheVariants.{Int}
use Rattle.jk_model_domains.specs.NumberRows.{int_operations}
use Rattle.number_ops.proofs.BothOnTop.{ints_on_top}
use Rattle.number_ops.proofs.Calculations.{ints, same_result}
use Rattle.number_ops.proofs.EntriesOnTop.{second_of_two}
use Rattle.number_ops.proofs.FoundOperands.{roomless}
use Rattle.number_ops.proofs.arithmetic.calculate_ints.Goals as goal

pub top_int-y-requires : goal.top_int-y-requires
top_int-y-requires g c = (c.requires.finds.1, second_of_two _ _ (Int c.requires.finds.0) (Int c.requires.finds.1) 1 c.requires.finds.2)

pub lower_int-x-requires : goal.lower_int-x-requires
lower_int-x-requires g c = (c.requires.finds.0, Int c.requires.finds.1, roomless _ _ _ 1 c.requires.finds.2)

pub replace_both-requires : goal.replace_both-requires
replace_both-requires g c = (Int c.requires.finds.0, Int c.requires.finds.1, roomless _ _ _ 1 c.requires.finds.2)

pub returns : goal.returns
returns g c =
    let on = ints_on_top _ _ c.requires.finds.0 c.requires.finds.1 c.lower_int-x.result c.top_int-y.result (roomless _ _ _ 1 c.requires.finds.2)
    c.lower_int-x.ensures c.top_int-y.ensures in
    let r = same_result int_operations c.args.op _ _ _ _ _ _ c.int_operation.ensures
    (to_z-of_z w32 c.lower_int-x.result (record { sfits = c.lower_int-x.type_inv }))
    (to_z-of_z w32 c.top_int-y.result (record { sfits = c.top_int-y.type_inv }))
    (to_z-of_z w32 c.int_operation.result (record { sfits = c.int_operation.type_inv })) in
    (_, _, ints c.args.op c.lower_int-x.result c.top_int-y.result _ r, c.replace_both.ensures (Int c.lower_int-x.result) (Int c.top_int-y.result) on)
