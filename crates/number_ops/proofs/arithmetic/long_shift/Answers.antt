-- Each operation is that of its row.
use Rattle.std.proofs.Common.{◌≡◌, ℤ, ℕ, ◌<◌, ◌%◌, ◌/◌, ◌^◌, lit<, ap, sym, ◌∙◌, arith}
use Rattle.std.proofs.lemmas.Int.{to_z-of_z}
use Rattle.std.specs.Int.{w32, w64, cast_signed, cast_unsigned, int_shl, int_shr}
use Rattle.jk_model_domains.specs.NumberRows.{distance, shift_zeros_long}
use Rattle.number_ops.proofs.arithmetic.long_shift.Goals as goal

shifted : (r x given : ℤ) (k d : ℕ) → r ≡ int_shr given (k % 64) → given ≡ x → k < 64 → k ≡ d → r ≡ int_shr x d
shifted r x given k d is same few far =
    let low : k % 64 ≡ k = omega arith in
    is ∙ ap (λ (z : ℤ). int_shr z (k % 64)) same ∙ ap (int_shr x) (low ∙ far)

pub returns-in-121 : goal.returns-in-121
returns-in-121 c =
    let f : ℤ → ℤ → ℤ = λ x n. int_shl w64 x (distance 64 n) in (
      f,
      (0, lit< tt, ap (λ (n : ℕ). (n, f)) (sym c.in-121.is)),
      ap (int_shl w64 c.args.x) (c.long_distance.ensures.distance ∙ ap (distance 64) (to_z-of_z w32 c.args.n c.ranges.n)),
    )

pub returns-in-123 : goal.returns-in-123
returns-in-123 c =
    let f : ℤ → ℤ → ℤ = λ x n. int_shr x (distance 64 n) in
    let far = c.long_distance-in-123.ensures.distance ∙ ap (distance 64) (to_z-of_z w32 c.args.n c.ranges.n) in (
      f,
      (1, lit< tt, ap (λ (n : ℕ). (n, f)) (sym c.in-123.is)),
      to_z-of_z w64 c.wrapping_shr.result (record { sfits = c.wrapping_shr.type_inv })
          ∙ shifted _ _ _ _ _ c.wrapping_shr.ensures (to_z-of_z w64 c.args.x c.ranges.x) c.long_distance-in-123.ensures.few far,
    )

pub returns-in-125 : goal.returns-in-125
returns-in-125 c =
    let f : ℤ → ℤ → ℤ = λ x n. shift_zeros_long x (distance 64 n) in
    let far = c.long_distance-in-125.ensures.distance ∙ ap (distance 64) (to_z-of_z w32 c.args.n c.ranges.n) in
    let bits : c.cast_unsigned.result ≡ cast_unsigned w64 c.args.x =
    c.cast_unsigned.ensures ∙ ap (cast_unsigned w64) (to_z-of_z w64 c.args.x c.ranges.x) in (
      f,
      (2, lit< tt, ap (λ (n : ℕ). (n, f)) (sym c.in-125.is)),
      to_z-of_z w64 c.cast_signed.result (record { sfits = c.cast_signed.type_inv }) ∙ c.cast_signed.ensures
          ∙ ap (λ (b : ℕ). cast_signed w64 (b / 2 ^ c.long_distance-in-125.result)) bits
          ∙ ap (λ (k : ℕ). cast_signed w64 (cast_unsigned w64 c.args.x / 2 ^ k)) far,
    )
