-- Each operation is that of its row.
use Rattle.std.proofs.Common.{ℕ, lit<, refl, ap, sym}
use Rattle.std.specs.Int.{w64, int_bit_and, int_bit_or, int_bit_xor, int_wrapping_add, int_wrapping_mul, int_wrapping_sub}
use Rattle.number_ops.proofs.arithmetic.long_operation.Goals as goal

pub returns-in-97 : goal.returns-in-97
returns-in-97 c = (int_wrapping_add w64, (0, lit< tt, ap (λ (n : ℕ). (n, int_wrapping_add w64)) (sym c.in-97.is)), refl)

pub returns-in-101 : goal.returns-in-101
returns-in-101 c = (int_wrapping_sub w64, (1, lit< tt, ap (λ (n : ℕ). (n, int_wrapping_sub w64)) (sym c.in-101.is)), refl)

pub returns-in-105 : goal.returns-in-105
returns-in-105 c = (int_wrapping_mul w64, (2, lit< tt, ap (λ (n : ℕ). (n, int_wrapping_mul w64)) (sym c.in-105.is)), refl)

pub returns-in-127 : goal.returns-in-127
returns-in-127 c = (int_bit_and w64, (3, lit< tt, ap (λ (n : ℕ). (n, int_bit_and w64)) (sym c.in-127.is)), refl)

pub returns-in-129 : goal.returns-in-129
returns-in-129 c = (int_bit_or w64, (4, lit< tt, ap (λ (n : ℕ). (n, int_bit_or w64)) (sym c.in-129.is)), refl)

pub returns-in-131 : goal.returns-in-131
returns-in-131 c = (int_bit_xor w64, (5, lit< tt, ap (λ (n : ℕ). (n, int_bit_xor w64)) (sym c.in-131.is)), refl)
