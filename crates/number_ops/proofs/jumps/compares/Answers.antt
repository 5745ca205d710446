-- Each comparison is that of its place.
use Rattle.std.proofs.Common.{◌≡◌, ℕ, ℤ, Bool, not, ◌&&◌, ◌||◌, lit<, sym, ap, ◌∙◌, arith}
use Rattle.std.specs.Prelude.{int_lt}
use Rattle.std.specs.Int.Signed.{le_z}
use Rattle.std.proofs.lemmas.Int.{to_z-of_z}
use Rattle.std.specs.Int.{cast_signed, cast_unsigned, w32}
use Rattle.number_ops.proofs.Comparisons.{not_less, other_tests, same_tests}
use Rattle.number_ops.proofs.jumps.compares.Goals as goal

pub returns-in-0 : goal.returns-in-0
returns-in-0 c =
    let test : ℤ → ℤ → Bool = λ x y. not (int_lt x y) && not (int_lt y x) in (
      test,
      (0, lit< tt, ap (λ (n : ℕ). (n, test)) (sym c.in-0.is)),
      same_tests c.args.x c.args.y (to_z-of_z w32 c.args.x c.ranges.x)
          (to_z-of_z w32 c.args.y c.ranges.y),
    )

pub returns-in-1 : goal.returns-in-1
returns-in-1 c =
    let test : ℤ → ℤ → Bool = λ x y. int_lt x y || int_lt y x in (
      test,
      (1, lit< tt, ap (λ (n : ℕ). (n, test)) (sym c.in-1.is)),
      other_tests c.args.x c.args.y (to_z-of_z w32 c.args.x c.ranges.x)
          (to_z-of_z w32 c.args.y c.ranges.y),
    )

pub returns-in-2 : goal.returns-in-2
returns-in-2 c =
    let test : ℤ → ℤ → Bool = λ x y. int_lt x y in (
      test,
      (2, lit< tt, ap (λ (n : ℕ). (n, test)) (sym c.in-2.is)),
      ap (λ (z : ℤ). int_lt z (cast_signed w32 (cast_unsigned w32 c.args.y)))
          (to_z-of_z w32 c.args.x c.ranges.x) ∙ ap (int_lt c.args.x) (to_z-of_z w32 c.args.y c.ranges.y),
    )

pub returns-in-3 : goal.returns-in-3
returns-in-3 c =
    let test : ℤ → ℤ → Bool = λ x y. not (int_lt x y) in (
      test,
      (3, lit< tt, ap (λ (n : ℕ). (n, test)) (sym c.in-3.is)),
      ap (λ (z : ℤ). le_z z (cast_signed w32 (cast_unsigned w32 c.args.x)))
          (to_z-of_z w32 c.args.y c.ranges.y) ∙ ap (le_z c.args.y) (to_z-of_z w32 c.args.x c.ranges.x) ∙ not_less c.args.x c.args.y,
    )

pub returns-in-4 : goal.returns-in-4
returns-in-4 c =
    let test : ℤ → ℤ → Bool = λ x y. int_lt y x in (
      test,
      (4, lit< tt, ap (λ (n : ℕ). (n, test)) (sym c.in-4.is)),
      ap (λ (z : ℤ). int_lt z (cast_signed w32 (cast_unsigned w32 c.args.x)))
          (to_z-of_z w32 c.args.y c.ranges.y) ∙ ap (int_lt c.args.y) (to_z-of_z w32 c.args.x c.ranges.x),
    )

pub returns-in_default : goal.returns-in_default
returns-in_default c =
    let five : c.args.place ≡ 5 = omega arith in
    let test : ℤ → ℤ → Bool = λ x y. not (int_lt y x) in (
      test,
      (5, lit< tt, ap (λ (n : ℕ). (n, test)) (sym five)),
      ap (λ (z : ℤ). le_z z (cast_signed w32 (cast_unsigned w32 c.args.y)))
          (to_z-of_z w32 c.args.x c.ranges.x) ∙ ap (le_z c.args.x) (to_z-of_z w32 c.args.y c.ranges.y) ∙ not_less c.args.y c.args.x,
    )
