-- The digits of a number, written from the last one on in front of those that stand there already.
use Rattle.std.proofs.Common.{◌≡◌, ℕ, zero, suc, ◌+◌, ◌-◌, ◌*◌, ◌/◌, ◌%◌, ◌^◌, ◌<◌, ◌≤◌, false, List, [], ◌∷◌, length, drop, set, decimal, refl, sym, ap, subst, ◌∙◌, arith}
use Rattle.std.specs.Fmt.{digit_glyph, digits, digits_onto}
use Rattle.std.proofs.lemmas.Bool.{eq-eqb, ne_eqb}
use Rattle.std.proofs.lemmas.Grind.{drop-set_at}
use Rattle.std.proofs.lemmas.List.{length-set}

abbrev digits_before : ℕ → ℕ → List ℕ → List ℕ
digits_before k rest written = digits_onto k 10 false rest written

-- What is left of a number, and what is written of it from a place on.
pub record IsPartlyWritten (n from rest : ℕ) (units : List ℕ) : Type 0 where
  pub many : length units ≡ 20
  pub low : 2 ≤ from
  pub high : from ≤ 20
  pub few : rest < 10 ^ (from - 1)
  pub whole : digits_before (44 + from) rest (drop from units) ≡ decimal n

pub nothing_written : (n : ℕ) (units : List ℕ) → n ≤ 2 ^ 63 → length units ≡ 20 → drop 20 units ≡ [] → IsPartlyWritten n 20 n units
unfolding digits
nothing_written n units few many none = record {
  many = many;
  low = omega arith;
  high = omega arith;
  few = omega (arith, few);
  whole = ap (digits_before 64 n) none;
}

glyph_is : (d : ℕ) → d < 10 → digit_glyph false d ≡ 48 + d
glyph_is d lt = grind (arith, lt)

last_digit : (k rest : ℕ) (written : List ℕ) → rest / 10 ≡ 0 → digits_before (suc k) rest written ≡ digit_glyph false (rest % 10) ∷ written
last_digit k rest written e = rw (eq-eqb (rest / 10) 0 e) refl

more_digits : (k rest : ℕ) (written : List ℕ) → (rest / 10 ≡ 0 → ⊥)
    → digits_before (suc k) rest written ≡ digits_before k (rest / 10) (digit_glyph false (rest % 10) ∷ written)
more_digits k rest written ne = rw (ne_eqb (rest / 10) 0 ne) refl

written_at : (units : List ℕ) (from f d : ℕ) → from ≡ f + 1 → f < length units → d < 10
    → drop f (set units f (48 + d)) ≡ digit_glyph false d ∷ drop from units
written_at units from f d e lt small =
    drop-set_at units f f (48 + d) refl lt ∙ ap (λ (j : ℕ). (48 + d) ∷ drop j units) (sym e) ∙ ap (λ (g : ℕ). g ∷ drop from units) (sym (glyph_is d small))

pub all_written : (n from f rest : ℕ) (units : List ℕ) → IsPartlyWritten n from rest units → from ≡ f + 1 → f < length units → rest / 10 ≡ 0
    → drop f (set units f (48 + rest % 10)) ≡ decimal n
all_written n from f rest units h e lt none =
    let small : rest % 10 < 10 = omega arith in
    let k : 44 + from ≡ suc (44 + f) = omega (arith, e) in
    let whole = subst (λ (j : ℕ). digits_before j rest (drop from units) ≡ decimal n) k h.whole in
    written_at units from f (rest % 10) e lt small ∙ sym (last_digit (44 + f) rest (drop from units) none) ∙ whole

tenth : (f : ℕ) (rest : ℕ) → 1 ≤ f → rest < 10 ^ f → rest / 10 < 10 ^ (f - 1)
tenth zero rest low h = absurd (omega (arith, low))
tenth (suc f) rest low h =
    let same : 10 ^ (suc f) ≡ 10 * 10 ^ f = grind arith in
    let pred : suc f - 1 ≡ f = omega arith in
    let lt : rest / 10 < 10 ^ f = omega (arith, h, same) in
    subst (λ (j : ℕ). rest / 10 < 10 ^ j) (sym pred) lt

below_one : (f : ℕ) (rest : ℕ) → f ≡ 0 → rest < 10 ^ f → rest ≡ 0
below_one f rest e h = let lt : rest < 10 ^ 0 = subst (λ (j : ℕ). rest < 10 ^ j) e h in omega (arith, lt)

pub one_written : (n from f rest : ℕ) (units : List ℕ) → IsPartlyWritten n from rest units → from ≡ f + 1 → f < length units → (rest / 10 ≡ 0 → ⊥)
    → IsPartlyWritten n f (rest / 10) (set units f (48 + rest % 10))
one_written n from f rest units h e lt more =
    let small : rest % 10 < 10 = omega arith in
    let k : 44 + from ≡ suc (44 + f) = omega (arith, e) in
    let pred : from - 1 ≡ f = omega (arith, e) in
    let few : rest < 10 ^ f = subst (λ (j : ℕ). rest < 10 ^ j) pred h.few in
    let some : 1 ≤ f = omega (arith, h.low, e) in
    let next = tenth f rest some few in
    let whole = subst (λ (j : ℕ). digits_before j rest (drop from units) ≡ decimal n) k h.whole in
    record {
      many = omega (arith, h.many, length-set units f (48 + rest % 10));
      low = elim_one f rest next more some;
      high = omega (arith, h.high, e);
      few = next;
      whole = ap (digits_before (44 + f) (rest / 10)) (written_at units from f (rest % 10) e lt small)
          ∙ sym (more_digits (44 + f) rest (drop from units) more) ∙ whole;
    }
  where
    elim_one : (f rest : ℕ) → rest / 10 < 10 ^ (f - 1) → (rest / 10 ≡ 0 → ⊥) → 1 ≤ f → 2 ≤ f
    elim_one zero rest lt more low = absurd (omega (arith, low))
    elim_one (suc zero) rest lt more low = absurd (more (below_one (suc zero - 1) (rest / 10) (omega arith) lt))
    elim_one (suc (suc f)) rest lt more low = omega arith
