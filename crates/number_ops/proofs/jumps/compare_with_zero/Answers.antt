-- The comparison is that of the opcode.
use Rattle.std.proofs.Common.{◌≡◌, ◌+◌, ◌-◌, ℤ, pos, [], ◌∷◌, refl, ap, ◌∙◌, inl, arith}
use Rattle.std.proofs.lemmas.Int.{to_z-of_z}
use Rattle.std.specs.Int.{w32}
use Rattle.jk_model.specs.declared.values.Value.TheVariants.{Int}
use Rattle.number_ops.proofs.jumps.compare_with_zero.Goals as goal

pub pop_int-x-requires : goal.pop_int-x-requires
pop_int-x-requires g c = c.requires.finds

pub overflow_sub-op : goal.overflow_sub-op
overflow_sub-op g c = omega arith

pub compares-requires : goal.compares-requires
compares-requires g c = omega arith

pub returns : goal.returns
returns g c =
    let test = c.compares.ensures in
    let place : c.args.op ≡ 0x99 + (c.args.op - 0x99) = omega arith in
    let holds = test.2 ∙ ap (λ (z : ℤ). test.0 z (pos 0)) (to_z-of_z w32 c.pop_int-x.result (record { sfits = c.pop_int-x.type_inv })) in
    (Int c.pop_int-x.result ∷ [], inl (c.args.op - 0x99, test.0, c.pop_int-x.result, test.1, place, refl, holds), c.pop_int-x.ensures)
