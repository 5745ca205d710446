-- Each operation is that of its row.
use Rattle.std.proofs.Common.{ℤ, ℕ, int_rem, lit<, ap, sym, ◌∙◌}
use Rattle.std.proofs.lemmas.Int.{to_z-of_z}
use Rattle.std.specs.Int.{w32, int_wrapping_div, cast_signed, cast_unsigned}
use Rattle.number_ops.proofs.arithmetic.int_division.Goals as goal

pub returns-in-108 : goal.returns-in-108
returns-in-108 c =
    let f : ℤ → ℤ → ℤ = int_wrapping_div w32 in (
      f,
      (0, lit< tt, ap (λ (n : ℕ). (n, f)) (sym c.in-108.is)),
      to_z-of_z w32 c.wrapping_div.result (record { sfits = c.wrapping_div.type_inv }) ∙ c.wrapping_div.ensures
          ∙ ap (λ (z : ℤ). f z (cast_signed w32 (cast_unsigned w32 c.args.y))) (to_z-of_z w32 c.args.x c.ranges.x) ∙ ap (f c.args.x)
          (to_z-of_z w32 c.args.y c.ranges.y),
    )

pub returns-in-112 : goal.returns-in-112
returns-in-112 c =
    let f : ℤ → ℤ → ℤ = int_rem in (
      f,
      (1, lit< tt, ap (λ (n : ℕ). (n, f)) (sym c.in-112.is)),
      to_z-of_z w32 c.wrapping_rem.result (record { sfits = c.wrapping_rem.type_inv }) ∙ c.wrapping_rem.ensures
          ∙ ap (λ (z : ℤ). f z (cast_signed w32 (cast_unsigned w32 c.args.y))) (to_z-of_z w32 c.args.x c.ranges.x) ∙ ap (f c.args.x)
          (to_z-of_z w32 c.args.y c.ranges.y),
    )
