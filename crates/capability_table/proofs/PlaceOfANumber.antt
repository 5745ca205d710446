-- The place that a table keeps for a number is the place of its range, the only one that has it.
use Rattle.std.proofs.Common.{◌≡◌, ℕ, zero, suc, ◌+◌, ◌-◌, ◌<◌, ◌≤◌, inl, inr, true, false, List, [], ◌∷◌, ◌++◌, length, find, replicate, Option, Some, None, refl, sym, ◌∙◌, ap, arith, slice_get, length-append}
use Rattle.std.proofs.lemmas.Bool.Decides.{nat_tests}
use Rattle.std.proofs.lemmas.List.Sums.{sum_by-cons}
use Rattle.std.proofs.lemmas.List.{length-replicate}
use Rattle.std.proofs.lemmas.Bool.{cases_lt}
use Rattle.jk_model.specs.Capabilities.{Range, numbers, has_number}
use Rattle.capability_table.specs.Places.{IsOnlyAt, AreChained, places_from}
use Rattle.capability_table.proofs.OneRangePasses.{IsPlaceOf}

below_range : (k : ℕ) (r : Range) → k < r.first → has_number k r ≡ false
below_range k r lt = grind (arith, nat_tests)

above_range : (k : ℕ) (r : Range) → r.first + r.count ≤ k → has_number k r ≡ false
above_range k r le = grind (arith, nat_tests)

within_range : (k : ℕ) (r : Range) → r.first ≤ k → k < r.first + r.count → has_number k r ≡ true
within_range k r le lt = grind (arith, nat_tests)

pub number_from : (k : ℕ) (r : Range) → has_number k r ≡ true → r.first ≤ k
number_from k r e = grind (arith, nat_tests)

pub number_below : (first k : ℕ) (xs : List Range) → AreChained first xs → k < first → find (has_number k) xs ≡ None
number_below first k [] h lt = refl
number_below first k (x ∷ xs) h lt =
    rw (below_range k x (rw (h.0) lt)) (number_below (first + x.count) k xs h.1 (omega (arith, lt)))

pub number_above : (first k : ℕ) (xs : List Range) → AreChained first xs → first + numbers xs ≤ k → find (has_number k) xs ≡ None
number_above first k [] h le = refl
number_above first k (x ∷ xs) h le =
    let all : numbers (x ∷ xs) ≡ x.count + numbers xs = sum_by-cons (λ r. r.count) x xs in
    rw (above_range k x (omega (arith, all, le, h.0))) (number_above (first + x.count) k xs h.1 (omega (arith, all, le)))

pub length-places_from : (place : ℕ) (xs : List Range) → length (places_from place xs) ≡ numbers xs
length-places_from place [] = refl
length-places_from place (x ∷ xs) =
    omega (
      arith,
      length-append (replicate x.count place) (places_from (place + 1) xs),
      length-replicate x.count place,
      length-places_from (place + 1) xs,
      sum_by-cons (λ r. r.count) x xs,
    )

slice_get_none : (ns : List ℕ) (i : ℕ) → slice_get ns i ≡ None → length ns ≤ i
slice_get_none [] i e = omega arith
slice_get_none (n ∷ ns) zero e = let whole : Some n ≡ None = e in absurd cc
slice_get_none (n ∷ ns) (suc i) e = omega (arith, slice_get_none ns i e)

-- an item of a number so many times over, and one of what follows
get_repeated : (n p i k : ℕ) (ys : List ℕ) → k < n → slice_get (replicate n p ++ ys) k ≡ Some i → i ≡ p
get_repeated zero p i k ys lt e = absurd (omega (arith, lt))
get_repeated (suc n) p i zero ys lt e = let whole : Some p ≡ Some i = e in cc
get_repeated (suc n) p i (suc k) ys lt e = get_repeated n p i k ys (omega (arith, lt)) e

get_after : (n p k : ℕ) (ys : List ℕ) → n ≤ k → slice_get (replicate n p ++ ys) k ≡ slice_get ys (k - n)
get_after zero p k ys le = let e : k - 0 ≡ k = omega arith in rw e refl
get_after (suc n) p zero ys le = absurd (omega (arith, le))
get_after (suc n) p (suc k) ys le =
    let e : suc k - suc n ≡ k - n = omega arith in
    rw e (get_after n p k ys (omega (arith, le)))

-- the range that has a number
record Holds (k p i : ℕ) (xs : List Range) : Type 0 where
  pub place : ℕ
  pub range : Range
  pub place_is : i ≡ p + place
  pub only : IsOnlyAt (has_number k) xs place range

in_first : (first p k i : ℕ) (x : Range) (xs : List Range) → AreChained first (x ∷ xs) → first ≤ k → k < first + x.count → i ≡ p → Holds k p i (x ∷ xs)
in_first first p k i x xs h le lt e =
    record {
      place = 0;
      range = x;
      place_is = omega (arith, e);
      only = (refl, within_range k x (omega (arith, h.0, le)) (omega (arith, h.0, lt)), number_below (first + x.count) k xs h.1 lt);
    }

in_rest : (first p k i : ℕ) (x : Range) (xs : List Range) → AreChained first (x ∷ xs) → first + x.count ≤ k → Holds k (p + 1) i xs → Holds k p i (x ∷ xs)
in_rest first p k i x xs h le held =
    record {
      place = suc held.place;
      range = held.range;
      place_is = omega (arith, held.place_is);
      only = (above_range k x (omega (arith, h.0, le)), held.only);
    }

held_or : (first p k n i : ℕ) (xs : List Range) → AreChained first xs → k ≡ first + n → slice_get (places_from p xs) n ≡ Some i → Holds k p i xs
held_or first p k n i [] h e at = let whole : None ≡ Some i = at in absurd cc
held_or first p k n i (x ∷ xs) h e at =
    elim (cases_lt n x.count) [
      | inl lt ↦ in_first first p k i x xs h (omega (arith, e)) (omega (arith, e, lt)) (get_repeated x.count p i n (places_from (p + 1) xs) lt at)
      | inr le ↦
          in_rest first p k i x xs h (omega (arith, e, le))
          (held_or (first + x.count) (p + 1) k (n - x.count) i xs h.1 (omega (arith, e, le))
          (sym (get_after x.count p n (places_from (p + 1) xs) le) ∙ at))
    ]

pub number_place : (k i : ℕ) (xs : List Range) → AreChained 1 xs → 0 < k → slice_get (places_from 0 xs) (k - 1) ≡ Some i
    → (r : Range) × IsOnlyAt (has_number k) xs i r
number_place k i xs h some at =
    let held = held_or 1 0 k (k - 1) i xs h (omega (arith, some)) at in
    let e : i ≡ held.place = omega (arith, held.place_is) in
    rw e (held.range, held.only)

pub no_number_place : (k : ℕ) (xs : List Range) → AreChained 1 xs → 0 < k → slice_get (places_from 0 xs) (k - 1) ≡ None → find (has_number k) xs ≡ None
no_number_place k xs h some none =
    let past : length (places_from 0 xs) ≤ k - 1 = slice_get_none (places_from 0 xs) (k - 1) none in
    number_above 1 k xs h (omega (arith, past, some, length-places_from 0 xs))

pub number_answer : (k : ℕ) (xs : List Range) (places : List ℕ) → AreChained 1 xs → places ≡ places_from 0 xs → 0 < k
    → (answer : Option ℕ) → answer ≡ slice_get places (k - 1) → IsPlaceOf (has_number k) xs answer
number_answer k xs places h e some None at = no_number_place k xs h some (ap (λ ns. slice_get ns (k - 1)) (sym e) ∙ sym at)
number_answer k xs places h e some (Some i) at = number_place k i xs h some (ap (λ ns. slice_get ns (k - 1)) (sym e) ∙ sym at)
