-- Each operation is that of its row.
use Rattle.std.proofs.Common.{◌≡◌, ℤ, ℕ, ◌<◌, ◌%◌, ◌/◌, ◌^◌, lit<, refl, ap, sym, ◌∙◌, arith}
use Rattle.std.proofs.lemmas.Int.{to_z-of_z}
use Rattle.std.specs.Int.{w32, cast_signed, cast_unsigned, int_bit_and, int_bit_or, int_bit_xor, int_shl, int_shr, int_wrapping_add, int_wrapping_mul, int_wrapping_sub}
use Rattle.jk_model_domains.specs.NumberRows.{distance, shift_zeros}
use Rattle.number_ops.proofs.arithmetic.int_operation.Goals as goal

shifted : (r x given : ℤ) (k d : ℕ) → r ≡ int_shr given (k % 32) → given ≡ x → k < 32 → k ≡ d → r ≡ int_shr x d
shifted r x given k d is same few far =
    let low : k % 32 ≡ k = omega arith in
    is ∙ ap (λ (z : ℤ). int_shr z (k % 32)) same ∙ ap (int_shr x) (low ∙ far)

pub returns-in-96 : goal.returns-in-96
returns-in-96 c = (int_wrapping_add w32, (0, lit< tt, ap (λ (n : ℕ). (n, int_wrapping_add w32)) (sym c.in-96.is)), refl)

pub returns-in-100 : goal.returns-in-100
returns-in-100 c = (int_wrapping_sub w32, (1, lit< tt, ap (λ (n : ℕ). (n, int_wrapping_sub w32)) (sym c.in-100.is)), refl)

pub returns-in-104 : goal.returns-in-104
returns-in-104 c = (int_wrapping_mul w32, (2, lit< tt, ap (λ (n : ℕ). (n, int_wrapping_mul w32)) (sym c.in-104.is)), refl)

pub returns-in-120 : goal.returns-in-120
returns-in-120 c =
    let f : ℤ → ℤ → ℤ = λ x n. int_shl w32 x (distance 32 n) in (
      f,
      (6, lit< tt, ap (λ (n : ℕ). (n, f)) (sym c.in-120.is)),
      ap (int_shl w32 c.args.x) (c.distance.ensures.distance ∙ ap (distance 32) (to_z-of_z w32 c.args.y c.ranges.y)),
    )

pub returns-in-122 : goal.returns-in-122
returns-in-122 c =
    let f : ℤ → ℤ → ℤ = λ x n. int_shr x (distance 32 n) in
    let far = c.distance-in-122.ensures.distance ∙ ap (distance 32) (to_z-of_z w32 c.args.y c.ranges.y) in (
      f,
      (7, lit< tt, ap (λ (n : ℕ). (n, f)) (sym c.in-122.is)),
      to_z-of_z w32 c.wrapping_shr.result (record { sfits = c.wrapping_shr.type_inv })
          ∙ shifted _ _ _ _ _ c.wrapping_shr.ensures (to_z-of_z w32 c.args.x c.ranges.x) c.distance-in-122.ensures.few far,
    )

pub returns-in-124 : goal.returns-in-124
returns-in-124 c =
    let f : ℤ → ℤ → ℤ = λ x n. shift_zeros x (distance 32 n) in
    let far = c.distance-in-124.ensures.distance ∙ ap (distance 32) (to_z-of_z w32 c.args.y c.ranges.y) in
    let bits : c.cast_unsigned.result ≡ cast_unsigned w32 c.args.x =
    c.cast_unsigned.ensures ∙ ap (cast_unsigned w32) (to_z-of_z w32 c.args.x c.ranges.x) in (
      f,
      (8, lit< tt, ap (λ (n : ℕ). (n, f)) (sym c.in-124.is)),
      to_z-of_z w32 c.cast_signed.result (record { sfits = c.cast_signed.type_inv }) ∙ c.cast_signed.ensures
          ∙ ap (λ (b : ℕ). cast_signed w32 (b / 2 ^ c.distance-in-124.result)) bits
          ∙ ap (λ (k : ℕ). cast_signed w32 (cast_unsigned w32 c.args.x / 2 ^ k)) far,
    )

pub returns-in-126 : goal.returns-in-126
returns-in-126 c = (int_bit_and w32, (3, lit< tt, ap (λ (n : ℕ). (n, int_bit_and w32)) (sym c.in-126.is)), refl)

pub returns-in-128 : goal.returns-in-128
returns-in-128 c = (int_bit_or w32, (4, lit< tt, ap (λ (n : ℕ). (n, int_bit_or w32)) (sym c.in-128.is)), refl)

pub returns-in-130 : goal.returns-in-130
returns-in-130 c = (int_bit_xor w32, (5, lit< tt, ap (λ (n : ℕ). (n, int_bit_xor w32)) (sym c.in-130.is)), refl)
