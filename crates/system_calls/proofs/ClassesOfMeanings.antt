-- Which methods the classes after jk/Task have in the table of meanings, and that no others have any.
use Rattle.std.proofs.Common.{◌≡◌, ◌≢◌, ℕ, zero, suc, ◌+◌, ◌-◌, ◌<◌, ◌≤◌, List, [], ◌∷◌, ◌++◌, replicate, Option, Some, None, slice_get, refl, sym, ap, subst, ◌∙◌, inl, inr, arith}
use Rattle.std.specs.Option.{option_and_then}
use Rattle.std.proofs.lemmas.Option.{slice_get_past}
use Rattle.std.proofs.lemmas.Bool.Decides.{leb_tells}
use Rattle.jk_model.specs.declared.identifiers.MemberId.{MemberId}
use Rattle.jk_model_system_rows.specs.declared.meanings.SystemMeaning.{SystemMeaning}
use Rattle.jk_model_system_rows.specs.Meanings.{MethodMeaning, meaning_of, of_thread_death, of_throwable, system_meanings}
use Rattle.system_calls.specs.MeaningsByPlace.{meaning_in}

-- ---- From java/lang/Exception on.

abbrev throwables : List (List MethodMeaning)
throwables = replicate 19 of_throwable ++ of_thread_death ∷ replicate 10 of_throwable

in_a_row : {X : Type 0} (x : X) (n : ℕ) (more : List X) (k : ℕ) → k < n → slice_get (replicate n x ++ more) k ≡ Some x
in_a_row x zero more k low = absurd (omega (arith, low))
in_a_row x (suc n) more zero low = refl
in_a_row x (suc n) more (suc k) low = in_a_row x n more k (omega (arith, low))

after_them : {X : Type 0} (x : X) (n : ℕ) (more : List X) (k j : ℕ) → k ≡ n + j → slice_get (replicate n x ++ more) k ≡ slice_get more j
after_them x zero more k j is = let same : k ≡ j = omega (arith, is) in ap (slice_get more) same
after_them x (suc n) more zero j is = absurd (omega (arith, is))
after_them x (suc n) more (suc k) j is = after_them x n more k j (omega (arith, is))

last_ones : (j : ℕ) → j < 11 → j ≢ 0 → slice_get (of_thread_death ∷ replicate 10 of_throwable) j ≡ Some of_throwable
last_ones zero within other = absurd (other refl)
last_ones (suc j) within other = in_a_row of_throwable 10 [] j (omega (arith, within))

each_throwable : (k : ℕ) → k < 30 → k ≢ 19 → slice_get throwables k ≡ Some of_throwable
each_throwable k within other =
    elim (leb_tells 19 k) [
      | inl h ↦
          let low : 19 ≤ k = h.1 in
          after_them of_throwable 19 (of_thread_death ∷ replicate 10 of_throwable) k (k - 19) (omega arith)
          ∙ last_ones (k - 19) (omega arith) (omega arith)
      | inr h ↦ let low : k < 19 = h.1 in in_a_row of_throwable 19 (of_thread_death ∷ replicate 10 of_throwable) k low
    ]

-- the methods that a class has
abbrev methods_at : ℕ → Option (List MethodMeaning)
methods_at n = slice_get system_meanings n

abbrev meant : Option (List MethodMeaning) → ℕ → Option SystemMeaning
meant methods index = option_and_then (λ (ms : List MethodMeaning). meaning_in ms index) methods

from_fifteen : (n : ℕ) (found : Option (List MethodMeaning)) → 15 ≤ n → slice_get throwables (n - 15) ≡ found → methods_at n ≡ found
from_fifteen n found low is =
    let place : n ≡ 15 + (n - 15) = omega arith in
    subst (λ (k : ℕ). methods_at k ≡ found) (sym place) (there (n - 15) found is)
  where
    there : (j : ℕ) (found : Option (List MethodMeaning)) → slice_get throwables j ≡ found → methods_at (15 + j) ≡ found
    there j found is = let same : 15 + j ≡ suc (suc (suc (suc (suc (suc (suc (suc (suc (suc (suc (suc (suc (suc (suc j)))))))))))))) = omega arith in
        ap methods_at same ∙ is

pub of_exceptions : (m : MemberId) → 15 ≤ m.class.0 → m.class.0 ≤ 44 → m.class.0 ≢ 34 → meaning_in of_throwable m.index ≡ meaning_of m
of_exceptions m low high other =
    let here = from_fifteen m.class.0 (Some of_throwable) low (each_throwable (m.class.0 - 15) (omega arith) (omega arith)) in
    sym (ap (λ (methods : Option (List MethodMeaning)). meant methods m.index) here)

pub of_no_others : (n index : ℕ) → n ≢ 0 → n ≢ 3 → n ≢ 4 → n ≢ 5 → n ≢ 6 → n ≢ 7 → n ≢ 8 → n ≢ 9 → n ≢ 11 → n ≢ 12 → n ≢ 13 → n ≢ 14
    → (15 ≤ n → 44 < n) → None ≡ meaning_of (record { class = record { 0 = n }; index = index })
of_no_others zero index a b c d e f g h i j k l rest = absurd (a refl)
of_no_others (suc zero) index a b c d e f g h i j k l rest = refl
of_no_others (suc (suc zero)) index a b c d e f g h i j k l rest = refl
of_no_others (suc (suc (suc n))) index a b c d e f g h i j k l rest =
    elim (leb_tells 15 (suc (suc (suc n)))) [
      | inl low ↦
          let past : 44 < suc (suc (suc n)) = rest low.1 in
          sym (ap (λ (methods : Option (List MethodMeaning)). meant methods index)
          (from_fifteen (suc (suc (suc n))) None low.1 (slice_get_past throwables (suc (suc (suc n)) - 15) (omega arith))))
      | inr high ↦
          let below : suc (suc (suc n)) < 15 = high.1 in
          let ten : suc (suc (suc n)) ≡ 10 = omega arith in
          ap (λ (k : ℕ). meaning_of (record { class = record { 0 = k }; index = index })) (sym ten)
    ]
