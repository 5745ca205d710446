-- What a place holds after a store or a clearing, and that it stays readable. For callers: each lemma is on the list of a clause.
--     stored_here, stored_elsewhere, stored_length      of `slice_set words at c`
--     cleared_inside, cleared_before, cleared_after, cleared_length      of `take from words ++ replicate n c ++ drop to words`, where `to` is `from + n`
--     store_keeps, clear_keeps, clear_reads      what can be read stays readable, and what is cleared can be read
use Rattle.std.proofs.Common.{◌≡◌, ℕ, zero, suc, ◌+◌, ◌<◌, ◌≤◌, ◌++◌, List, [], ◌∷◌, Some, length, take, drop, replicate, slice_get, slice_set, refl, arith, Option, ap, ◌∙◌, inl, inr, length-set}
use Rattle.std.proofs.lemmas.Bool.{cases_lt}
use Rattle.word_pool.specs.Readable.{IsReadable}

module _ {X : Type 0} (c : X) where
  pub stored_here : (xs : List X) (at : ℕ) → at < length xs → slice_get (slice_set xs at c) at ≡ Some c
  stored_here [] at lt = absurd (omega (arith, lt))
  stored_here (x ∷ xs) zero lt = refl
  stored_here (x ∷ xs) (suc at) lt = stored_here xs at (omega (arith, lt))

  pub stored_elsewhere : (xs : List X) (at i : ℕ) → (i ≡ at → ⊥) → slice_get (slice_set xs at c) i ≡ slice_get xs i
  stored_elsewhere [] at i other = refl
  stored_elsewhere (x ∷ xs) zero zero other = absurd (other refl)
  stored_elsewhere (x ∷ xs) zero (suc i) other = refl
  stored_elsewhere (x ∷ xs) (suc at) zero other = refl
  stored_elsewhere (x ∷ xs) (suc at) (suc i) other = stored_elsewhere xs at i (λ e. other (omega (arith, e)))

  pub stored_length : (xs : List X) (at : ℕ) → length (slice_set xs at c) ≡ length xs
  stored_length xs at = length-set xs at c

  pub cleared_inside : (xs : List X) (from n to i : ℕ) → to ≡ from + n → to ≤ length xs → from ≤ i → i < to
      → slice_get (take from xs ++ replicate n c ++ drop to xs) i ≡ Some c
  cleared_inside [] from n to i e le ge lt = absurd (omega (arith, le, lt))
  cleared_inside (x ∷ xs) zero zero to i e le ge lt = absurd (omega (arith, e, lt))
  cleared_inside (x ∷ xs) zero (suc n) zero i e le ge lt = absurd (omega (arith, lt))
  cleared_inside (x ∷ xs) zero (suc n) (suc to) zero e le ge lt = refl
  cleared_inside (x ∷ xs) zero (suc n) (suc to) (suc i) e le ge lt =
      cleared_inside xs zero n to i (omega (arith, e)) (omega (arith, le)) (omega arith) (omega (arith, lt))
  cleared_inside (x ∷ xs) (suc from) n zero i e le ge lt = absurd (omega (arith, lt))
  cleared_inside (x ∷ xs) (suc from) n (suc to) zero e le ge lt = absurd (omega (arith, ge))
  cleared_inside (x ∷ xs) (suc from) n (suc to) (suc i) e le ge lt =
      cleared_inside xs from n to i (omega (arith, e)) (omega (arith, le)) (omega (arith, ge)) (omega (arith, lt))

  pub cleared_before : (xs : List X) (from n to i : ℕ) → to ≡ from + n → to ≤ length xs → i < from
      → slice_get (take from xs ++ replicate n c ++ drop to xs) i ≡ slice_get xs i
  cleared_before [] from n to i e le lt = absurd (omega (arith, e, le, lt))
  cleared_before (x ∷ xs) zero n to i e le lt = absurd (omega (arith, lt))
  cleared_before (x ∷ xs) (suc from) n zero i e le lt = absurd (omega (arith, e))
  cleared_before (x ∷ xs) (suc from) n (suc to) zero e le lt = refl
  cleared_before (x ∷ xs) (suc from) n (suc to) (suc i) e le lt = cleared_before xs from n to i (omega (arith, e)) (omega (arith, le)) (omega (arith, lt))

  pub cleared_after : (xs : List X) (from n to i : ℕ) → to ≡ from + n → to ≤ length xs → to ≤ i
      → slice_get (take from xs ++ replicate n c ++ drop to xs) i ≡ slice_get xs i
  cleared_after xs zero zero zero i e le ge = refl
  cleared_after xs zero zero (suc to) i e le ge = absurd (omega (arith, e))
  cleared_after [] zero (suc n) to i e le ge = absurd (omega (arith, e, le))
  cleared_after (x ∷ xs) zero (suc n) zero i e le ge = absurd (omega (arith, e))
  cleared_after (x ∷ xs) zero (suc n) (suc to) zero e le ge = absurd (omega (arith, ge))
  cleared_after (x ∷ xs) zero (suc n) (suc to) (suc i) e le ge = cleared_after xs zero n to i (omega (arith, e)) (omega (arith, le)) (omega (arith, ge))
  cleared_after [] (suc from) n to i e le ge = absurd (omega (arith, e, le))
  cleared_after (x ∷ xs) (suc from) n zero i e le ge = absurd (omega (arith, e))
  cleared_after (x ∷ xs) (suc from) n (suc to) zero e le ge = absurd (omega (arith, ge))
  cleared_after (x ∷ xs) (suc from) n (suc to) (suc i) e le ge = cleared_after xs from n to i (omega (arith, e)) (omega (arith, le)) (omega (arith, ge))

  pub cleared_length : (xs : List X) (from n to : ℕ) → to ≡ from + n → to ≤ length xs → length (take from xs ++ replicate n c ++ drop to xs) ≡ length xs
  cleared_length xs zero zero zero e le = refl
  cleared_length xs zero zero (suc to) e le = absurd (omega (arith, e))
  cleared_length [] zero (suc n) to e le = absurd (omega (arith, e, le))
  cleared_length [] (suc from) n to e le = absurd (omega (arith, e, le))
  cleared_length (x ∷ xs) zero (suc n) zero e le = absurd (omega (arith, e))
  cleared_length (x ∷ xs) zero (suc n) (suc to) e le = ap suc (cleared_length xs zero n to (omega (arith, e)) (omega (arith, le)))
  cleared_length (x ∷ xs) (suc from) n zero e le = absurd (omega (arith, e))
  cleared_length (x ∷ xs) (suc from) n (suc to) e le = ap suc (cleared_length xs from n to (omega (arith, e)) (omega (arith, le)))

pub store_keeps : (words new : List (Option ℕ)) (at i word : ℕ) → new ≡ slice_set words at (Some word) → IsReadable words i → IsReadable new i
store_keeps [] new at i word e (x, there) = cc
store_keeps (c ∷ cs) new zero zero word e r = (word, ap (λ l. slice_get l 0) e)
store_keeps (c ∷ cs) new zero (suc i) word e (x, there) = (x, ap (λ l. slice_get l (suc i)) e ∙ there)
store_keeps (c ∷ cs) new (suc at) zero word e (x, there) = (x, ap (λ l. slice_get l 0) e ∙ there)
store_keeps (c ∷ cs) new (suc at) (suc i) word e (x, there) =
    let more = store_keeps cs (slice_set cs at (Some word)) at i word refl (x, there) in (more.0, ap (λ l. slice_get l (suc i)) e ∙ more.1)

pub clear_reads : (words new : List (Option ℕ)) (from n to i : ℕ) → new ≡ take from words ++ replicate n (Some 0) ++ drop to words
    → to ≡ from + n → to ≤ length words → from ≤ i → i < to
    → IsReadable new i
clear_reads words new from n to i is_new e le ge lt = (0, ap (λ l. slice_get l i) is_new ∙ cleared_inside (Some 0) words from n to i e le ge lt)

pub clear_keeps : (words new : List (Option ℕ)) (from n to i : ℕ) → new ≡ take from words ++ replicate n (Some 0) ++ drop to words
    → to ≡ from + n → to ≤ length words → IsReadable words i
    → IsReadable new i
clear_keeps words new from n to i is_new e le (x, there) =
    elim (cases_lt i from) [
      | inl before ↦ (x, ap (λ l. slice_get l i) is_new ∙ cleared_before (Some 0) words from n to i e le before ∙ there)
      | inr ge ↦ elim (cases_lt i to) [
        | inl inside ↦ clear_reads words new from n to i is_new e le ge inside
        | inr after ↦ (x, ap (λ l. slice_get l i) is_new ∙ cleared_after (Some 0) words from n to i e le after ∙ there)
      ]
    ]
