-- Digits are read from the left, as far as the number may be an int's magnitude.
use Rattle.std.proofs.Common.{◌≡◌, ℕ, suc, pos, neg_ℤ, ◌+◌, ◌-◌, ◌*◌, ◌<◌, ◌≤◌, ◌&&◌, Bool, true, false, cond, List, [], ◌∷◌, length, drop, fold, Option, Some, None, option_and_then, nat_le, slice_get, get_or, refl, sym, ap, ◌∙◌, inl, inr, arith}
use Rattle.std.specs.List.{list_all}
use Rattle.std.proofs.lemmas.Bool.{eq-eqb, leb-true, ne_eqb}
use Rattle.std.proofs.lemmas.Bool.Decides.{leb_tells}
use Rattle.std.proofs.lemmas.List.{drop_more}
use Rattle.std.proofs.lemmas.Option.{same_Some, slice_get-get_or, slice_get_within}
use Rattle.std.proofs.Math.ListN.{drop_of_length-le}
use Rattle.jk_model.specs.ScriptGrammar.{is_digit, numeral_value}
use Rattle.jk_model_system_rows.specs.ParsedNumbers.{digits_value, int_above, int_below, parsed}
use Rattle.system_calls.specs.Magnitudes.{capped_value, int_of_sign}

abbrev MOST : ℕ
MOST = 2147483648

-- a number with one more digit
abbrev pub digit_step : ℕ → ℕ → Option ℕ
digit_step n u = cond (is_digit u && nat_le (n * 10 + (u - 48)) 2147483648) (Some (n * 10 + (u - 48))) None

abbrev pub read_on : ℕ → List ℕ → Option ℕ
read_on n [] = Some n
read_on n (u ∷ us) = option_and_then (λ (m : ℕ). read_on m us) (digit_step n u)

abbrev value_on : ℕ → List ℕ → ℕ
value_on n us = fold (λ n b. n * 10 + (b - 48)) n us

grows : (n : ℕ) (us : List ℕ) → n ≤ value_on n us
grows n [] = omega arith
grows n (u ∷ us) = let rest = grows (n * 10 + (u - 48)) us in omega (arith, rest)

too_great : (t : Bool) (m : ℕ) (us : List ℕ) → 2147483648 < m → None ≡ cond (t && nat_le (value_on m us) 2147483648) (Some (value_on m us)) None
too_great t m us past =
    elim (leb_tells (value_on m us) 2147483648) [
      | inl h ↦ let low = grows m us in let high = h.1 in absurd (omega (arith, low, high))
      | inr h ↦ none t (nat_le (value_on m us) 2147483648) h.0
    ]
  where
    none : (t u : Bool) → u ≡ false → None ≡ cond (t && u) (Some (value_on m us)) None
    none true u is = sym (ap (λ (b : Bool). cond b (Some (value_on m us)) None) is)
    none false u is = refl

abbrev whole : ℕ → List ℕ → Option ℕ
whole n us = cond (list_all is_digit us && nat_le (value_on n us) 2147483648) (Some (value_on n us)) None

-- one digit more, or none
read_by : (t : Bool) (n u : ℕ) (us : List ℕ) → is_digit u ≡ t → ((m : ℕ) → m ≤ 2147483648 → read_on m us ≡ whole m us)
    → read_on n (u ∷ us) ≡ whole n (u ∷ us)
read_by true n u us is rest =
    let m : ℕ = n * 10 + (u - 48) in
    let digits : list_all is_digit (u ∷ us) ≡ list_all is_digit us = ap (λ (b : Bool). b && list_all is_digit us) is in
    let all : whole n (u ∷ us) ≡ cond (list_all is_digit us && nat_le (value_on m us) 2147483648) (Some (value_on m us)) None =
    ap (λ (b : Bool). cond (b && nat_le (value_on m us) 2147483648) (Some (value_on m us)) None) digits in
    elim (leb_tells m 2147483648) [
      | inl h ↦
          let both : (is_digit u && nat_le m 2147483648) ≡ true = ap (λ (b : Bool). b && nat_le m 2147483648) is ∙ h.0 in
          ap (λ (b : Bool). option_and_then (λ (k : ℕ). read_on k us) (cond b (Some m) None)) both ∙ rest m h.1 ∙ sym all
      | inr h ↦
          let both : (is_digit u && nat_le m 2147483648) ≡ false = ap (λ (b : Bool). b && nat_le m 2147483648) is ∙ h.0 in
          ap (λ (b : Bool). option_and_then (λ (k : ℕ). read_on k us) (cond b (Some m) None)) both
          ∙ too_great (list_all is_digit us) m us h.1 ∙ sym all
    ]
read_by false n u us is rest =
    let m : ℕ = n * 10 + (u - 48) in
    let digits : list_all is_digit (u ∷ us) ≡ false = ap (λ (b : Bool). b && list_all is_digit us) is in
    ap (λ (b : Bool). option_and_then (λ (k : ℕ). read_on k us) (cond (b && nat_le m 2147483648) (Some m) None)) is
    ∙ sym (ap (λ (b : Bool). cond (b && nat_le (value_on m us) 2147483648) (Some (value_on m us)) None) digits)

read_all : (n : ℕ) (us : List ℕ) → n ≤ 2147483648 → read_on n us ≡ whole n us
read_all n [] low =
    elim (leb_tells n 2147483648) [
      | inl h ↦ sym (ap (λ (b : Bool). cond b (Some n) None) h.0)
      | inr h ↦ let past = h.1 in absurd (omega arith)
    ]
read_all n (u ∷ us) low = read_by (is_digit u) n u us refl (λ m few. read_all m us few)

pub read_is_capped : (u : ℕ) (us : List ℕ) → read_on 0 (u ∷ us) ≡ capped_value (u ∷ us)
read_is_capped u us = read_all 0 (u ∷ us) (omega arith)

-- ---- Unit by unit.

left_with : (units : List ℕ) (i u : ℕ) → slice_get units i ≡ Some u → drop i units ≡ u ∷ drop (i + 1) units
left_with units i u is =
    let within : i < length units = slice_get_within units i u is in
    let same : get_or units i 0 ≡ u = same_Some (get_or units i 0) u (sym (slice_get-get_or units i 0 within) ∙ is) in
    drop_more units i 0 within ∙ ap (λ (x : ℕ). x ∷ drop (i + 1) units) same

pub one_read : (units : List ℕ) (n i u : ℕ) (next : Option ℕ) → slice_get units i ≡ Some u → next ≡ digit_step n u
    → read_on n (drop i units) ≡ option_and_then (λ (m : ℕ). read_on m (drop (i + 1) units)) next
one_read units n i u next is step =
    ap (read_on n) (left_with units i u is) ∙ ap (option_and_then (λ (m : ℕ). read_on m (drop (i + 1) units))) (sym step)

pub all_read : (units : List ℕ) (n i : ℕ) → i ≡ length units → read_on n (drop i units) ≡ Some n
all_read units n i end = let nothing : drop i units ≡ [] = drop_of_length-le units (omega (arith, end)) in ap (read_on n) nothing

pub capped_from : (units : List ℕ) (from : ℕ) → from < length units → read_on 0 (drop from units) ≡ capped_value (drop from units)
capped_from units from within =
    let left = left_with units from (get_or units from 0) (slice_get-get_or units from 0 within) in
    ap (read_on 0) left ∙ read_is_capped (get_or units from 0) (drop (from + 1) units) ∙ ap capped_value (sym left)

few_by : (t v : Bool) (n m : ℕ) → (v ≡ true → n ≤ 2147483648) → Some m ≡ cond (t && v) (Some n) None → m ≤ 2147483648
few_by true true n m few is = let same : m ≡ n = same_Some m n is in let low = few refl in omega (arith, same, low)
few_by true false n m few is = absurd cc
few_by false v n m few is = absurd cc

pub step_is_few : (n u m : ℕ) → Some m ≡ digit_step n u → m ≤ 2147483648
step_is_few n u m is =
    few_by (is_digit u) (nat_le (n * 10 + (u - 48)) 2147483648) (n * 10 + (u - 48)) m (leb-true (n * 10 + (u - 48)) 2147483648) is

pub nothing_left : (units : List ℕ) (from : ℕ) → from ≡ length units → None ≡ capped_value (drop from units)
nothing_left units from end = let nothing : drop from units ≡ [] = drop_of_length-le units (omega (arith, end)) in sym (ap capped_value nothing)

-- ---- A sign and a magnitude.

past_int : (negative : Bool) (n : ℕ) → 2147483648 < n → int_of_sign negative n ≡ None
past_int true n past =
    elim (leb_tells n 2147483648) [
      | inl h ↦ let low = h.1 in absurd (omega arith)
      | inr h ↦ ap (λ (b : Bool). cond b (Some (neg_ℤ (pos n))) None) h.0
    ]
past_int false n past =
    elim (leb_tells (suc n) 2147483648) [
      | inl h ↦ let low = h.1 in absurd (omega arith)
      | inr h ↦ ap (λ (b : Bool). cond b (Some (pos n)) None) h.0
    ]

same_by : (digits : Bool) (negative : Bool) (n : ℕ)
    → option_and_then (int_of_sign negative) (cond digits (Some n) None)
    ≡ option_and_then (int_of_sign negative) (cond (digits && nat_le n 2147483648) (Some n) None)
same_by false negative n = refl
same_by true negative n =
    elim (leb_tells n 2147483648) [
      | inl h ↦ sym (ap (λ (b : Bool). option_and_then (int_of_sign negative) (cond b (Some n) None)) h.0)
      | inr h ↦ past_int negative n h.1 ∙ sym (ap (λ (b : Bool). option_and_then (int_of_sign negative) (cond b (Some n) None)) h.0)
    ]

capped_is_same : (negative : Bool) (us : List ℕ)
    → option_and_then (int_of_sign negative) (capped_value us) ≡ option_and_then (int_of_sign negative) (digits_value us)
capped_is_same negative [] = refl
capped_is_same negative (u ∷ us) = sym (same_by (list_all is_digit (u ∷ us)) negative (numeral_value (u ∷ us)))

pub parsed_below : (units : List ℕ) (u : ℕ) → slice_get units 0 ≡ Some u → u ≡ 45
    → option_and_then (int_of_sign true) (capped_value (drop 1 units)) ≡ parsed units
parsed_below [] u is minus = absurd cc
parsed_below (x ∷ us) u is minus =
    let same : x ≡ 45 = same_Some x u is ∙ minus in
    capped_is_same true us
    ∙ sym (ap (λ (b : Bool). cond b (option_and_then int_below (digits_value us)) (option_and_then int_above (digits_value (x ∷ us)))) (eq-eqb x 45 same))

pub parsed_above : (units : List ℕ) (u : ℕ) → slice_get units 0 ≡ Some u → (u ≡ 45 → ⊥)
    → option_and_then (int_of_sign false) (capped_value (drop 0 units)) ≡ parsed units
parsed_above [] u is other = absurd cc
parsed_above (x ∷ us) u is other =
    let differ : x ≡ 45 → ⊥ = λ same. other (sym (same_Some x u is) ∙ same) in
    capped_is_same false (x ∷ us)
    ∙ sym (ap (λ (b : Bool). cond b (option_and_then int_below (digits_value us)) (option_and_then int_above (digits_value (x ∷ us)))) (ne_eqb x 45 differ))
