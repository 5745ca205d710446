-- The tests of two ints by one order.
use Rattle.std.proofs.Common.{◌≡◌, ℕ, ℤ, pos, negsuc, Bool, true, false, not, ◌&&◌, ◌||◌, refl, sym, ap, subst, ◌∙◌, arith}
use Rattle.std.specs.Prelude.{int_lt}
use Rattle.std.specs.Int.Signed.{le_z}
use Rattle.std.proofs.lemmas.Bool.Decides.{nat_tests}
use Rattle.std.proofs.Math.Dec.{eqb}
use Rattle.std.specs.Int.{cast_signed, cast_unsigned, w32}

pub not_less : (x y : ℤ) → le_z y x ≡ not (int_lt x y)
not_less (pos a) (pos b) = grind (arith, nat_tests)
not_less (pos a) (negsuc b) = refl
not_less (negsuc a) (pos b) = refl
not_less (negsuc a) (negsuc b) = grind (arith, nat_tests)

equal_tests : (x : ℤ) → (not (int_lt x x) && not (int_lt x x)) ≡ true
equal_tests (pos a) = grind (arith, nat_tests)
equal_tests (negsuc a) = grind (arith, nat_tests)

differ_tests : (x y : ℤ) → (x ≡ y → ⊥) → (not (int_lt x y) && not (int_lt y x)) ≡ false
differ_tests (pos a) (pos b) h = let n : a ≡ b → ⊥ = λ e. h (ap pos e) in grind (arith, nat_tests)
differ_tests (pos a) (negsuc b) h = refl
differ_tests (negsuc a) (pos b) h = refl
differ_tests (negsuc a) (negsuc b) h = let n : a ≡ b → ⊥ = λ e. h (ap negsuc e) in grind (arith, nat_tests)

by_bits : (m n : ℕ) (x y : ℤ) (b : Bool) → cast_signed w32 m ≡ x → cast_signed w32 n ≡ y → (x ≡ y → m ≡ n) → eqb m n ≡ b
    → b ≡ (not (int_lt x y) && not (int_lt y x))
by_bits m n x y true em en one e =
    let same : m ≡ n = grind (arith, nat_tests) in
    let is : x ≡ y = sym em ∙ ap (cast_signed w32) same ∙ en in
    sym (subst (λ (z : ℤ). (not (int_lt x z) && not (int_lt z x)) ≡ true) is (equal_tests x))
by_bits m n x y false em en one e =
    let other : x ≡ y → ⊥ = λ is. (let same : m ≡ n = one is in absurd (grind (arith, nat_tests))) in
    sym (differ_tests x y other)

pub same_tests : (x y : ℤ) → cast_signed w32 (cast_unsigned w32 x) ≡ x → cast_signed w32 (cast_unsigned w32 y) ≡ y
    → eqb (cast_unsigned w32 x) (cast_unsigned w32 y) ≡ (not (int_lt x y) && not (int_lt y x))
same_tests x y ex ey = by_bits _ _ x y _ ex ey (λ e. ap (cast_unsigned w32) e) refl

negated : (a b : Bool) → not (not a && not b) ≡ (a || b)
negated true true = refl
negated true false = refl
negated false true = refl
negated false false = refl

pub other_tests : (x y : ℤ) → cast_signed w32 (cast_unsigned w32 x) ≡ x → cast_signed w32 (cast_unsigned w32 y) ≡ y
    → not (eqb (cast_unsigned w32 x) (cast_unsigned w32 y)) ≡ (int_lt x y || int_lt y x)
other_tests x y ex ey = ap not (same_tests x y ex ey) ∙ negated (int_lt x y) (int_lt y x)
