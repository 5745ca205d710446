-- The lowest bits are those that i2b and i2s keep.
use Rattle.std.proofs.Common.{ℤ, inl, inr, ap, ◌∙◌, unsigned_abs, pos}
use Rattle.std.proofs.lemmas.Int.{to_z-of_z}
use Rattle.std.specs.Int.{w8, w16, w32, cast_signed, int_rem_euclid, int_wrap}
use Rattle.jk_model.specs.declared.values.Value.TheVariants.{Int}
use Rattle.number_ops.proofs.arithmetic.converted_int.Goals as goal

pub returns-in-145 : goal.returns-in-145
unfolding int_wrap
returns-in-145 c =
    let rem = c.rem_euclid in
    let low = to_z-of_z w32 rem.result (record { sfits = rem.type_inv }) ∙ rem.ensures.value
    ∙ ap (λ (z : ℤ). int_rem_euclid z (pos 256)) (to_z-of_z w32 c.args.x c.ranges.x) in
    let bits = c.cast_signed.ensures ∙ ap (λ (z : ℤ). cast_signed w8 (unsigned_abs z)) low in
    let wide = to_z-of_z w32 c.from-in-145.result (record { sfits = c.from-in-145.type_inv }) ∙ c.from-in-145.ensures
    ∙ to_z-of_z w8 c.cast_signed.result (record { sfits = c.cast_signed.type_inv }) in
    inr (inr (inl (c.in-145.is, ap Int (wide ∙ bits))))

pub returns-in-147 : goal.returns-in-147
unfolding int_wrap
returns-in-147 c =
    let rem = c.rem_euclid-in-147 in
    let low = to_z-of_z w32 rem.result (record { sfits = rem.type_inv }) ∙ rem.ensures.value
    ∙ ap (λ (z : ℤ). int_rem_euclid z (pos 65536)) (to_z-of_z w32 c.args.x c.ranges.x) in
    let bits = c.cast_signed-in-147.ensures ∙ ap (λ (z : ℤ). cast_signed w16 (unsigned_abs z)) low in
    let wide = to_z-of_z w32 c.from-in-147.result (record { sfits = c.from-in-147.type_inv }) ∙ c.from-in-147.ensures
    ∙ to_z-of_z w16 c.cast_signed-in-147.result (record { sfits = c.cast_signed-in-147.type_inv }) in
    inr (inr (inr (inr (c.in-147.is, ap Int (wide ∙ bits)))))
