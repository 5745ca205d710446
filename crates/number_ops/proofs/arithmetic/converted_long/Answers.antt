-- The lowest bits are those that l2i keeps.
use Rattle.std.proofs.Common.{ℤ, inr, ap, ◌∙◌, unsigned_abs, pos}
use Rattle.std.proofs.lemmas.Int.{to_z-of_z}
use Rattle.std.specs.Int.{w32, w64, cast_signed, int_rem_euclid, int_wrap}
use Rattle.jk_model.specs.declared.values.Value.TheVariants.{Int}
use Rattle.number_ops.proofs.arithmetic.converted_long.Goals as goal

pub returns-in-136 : goal.returns-in-136
unfolding int_wrap
returns-in-136 c =
    let low = to_z-of_z w64 c.rem_euclid.result (record { sfits = c.rem_euclid.type_inv }) ∙ c.rem_euclid.ensures.value
    ∙ ap (λ (z : ℤ). int_rem_euclid z (pos 4294967296)) (to_z-of_z w64 c.args.x c.ranges.x) in
    inr (
      c.in-136.is,
      ap Int (to_z-of_z w32 c.cast_signed.result (record { sfits = c.cast_signed.type_inv }) ∙ c.cast_signed.ensures
          ∙ ap (λ (z : ℤ). cast_signed w32 (unsigned_abs z)) low),
    )
