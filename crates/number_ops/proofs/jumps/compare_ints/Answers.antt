-- The comparison is that of the opcode.
use Rattle.std.proofs.Common.{◌≡◌, ◌+◌, ◌-◌, ℤ, [], ◌∷◌, refl, ap, ◌∙◌, inl, inr, arith}
use Rattle.std.proofs.lemmas.Int.{to_z-of_z}
use Rattle.std.specs.Int.{cast_signed, cast_unsigned, w32}
use Rattle.jk_model.specs.declared.values.Value.TheVariants.{Int}
use Rattle.number_ops.proofs.BothOnTop.{ints_on_top}
use Rattle.number_ops.proofs.EntriesOnTop.{less_on_top}
use Rattle.number_ops.proofs.jumps.compare_ints.Goals as goal

pub top_int-y-requires : goal.top_int-y-requires
top_int-y-requires g c = (c.requires.finds.1, less_on_top _ _ (Int c.requires.finds.0 ∷ []) (Int c.requires.finds.1 ∷ []) c.requires.finds.2)

pub lower_int-x-requires : goal.lower_int-x-requires
lower_int-x-requires g c = (c.requires.finds.0, Int c.requires.finds.1, c.requires.finds.2)

pub take_both-requires : goal.take_both-requires
take_both-requires g c = (Int c.requires.finds.0, Int c.requires.finds.1, c.requires.finds.2)

pub overflow_sub-op : goal.overflow_sub-op
overflow_sub-op g c = omega arith

pub compares-requires : goal.compares-requires
compares-requires g c = omega arith

pub returns : goal.returns
returns g c =
    let on = ints_on_top _ _ c.requires.finds.0 c.requires.finds.1 c.lower_int-x.result c.top_int-y.result c.requires.finds.2 c.lower_int-x.ensures
    c.top_int-y.ensures in
    let test = c.compares.ensures in
    let place : c.args.op ≡ 0x9f + (c.args.op - 0x9f) = omega arith in
    let holds = test.2 ∙ ap (λ (z : ℤ). test.0 z (cast_signed w32 (cast_unsigned w32 c.top_int-y.result)))
    (to_z-of_z w32 c.lower_int-x.result (record { sfits = c.lower_int-x.type_inv }))
    ∙ ap (test.0 c.lower_int-x.result) (to_z-of_z w32 c.top_int-y.result (record { sfits = c.top_int-y.type_inv })) in (
      Int c.lower_int-x.result ∷ Int c.top_int-y.result ∷ [],
      inr (inl (c.args.op - 0x9f, test.0, c.lower_int-x.result, c.top_int-y.result, test.1, place, refl, holds)),
      c.take_both.ensures (Int c.lower_int-x.result) (Int c.top_int-y.result) on,
    )
