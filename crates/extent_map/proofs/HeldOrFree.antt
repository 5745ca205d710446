-- A page is held by an extent that is out, or is free, and extents with other pages are apart.
use Rattle.std.proofs.Common.{◌≡◌, ℕ, ◌+◌, ◌<◌, ◌⊎◌, inl, inr, List, [], ◌∷◌, ◌++◌, length, take, drop, suc, refl, subst, arith}
use Rattle.std.specs.List.{AllByRecursion, AllPairs, remove}
use Rattle.std.proofs.lemmas.Bool.{cases_lt}
use Rattle.std.proofs.lemmas.List.{take_at}
use Rattle.std.proofs.lemmas.List.Elements.{All-from_recursion, recursion_from_All}
use Rattle.std.proofs.lemmas.List.Quantifiers.{all_pairs_push, all_pairs_remove}
use Rattle.jk_model.specs.declared.extents.Extent.{Extent}
use Rattle.jk_model.specs.Extents.{HasPage, IsFreePage, AreApart, LiesBelow}
use Rattle.jk_model.proofs.EachItem.{all_front, all_back, all_append}
use Rattle.extent_map.specs.Runs.{InRun}

pub has_or_not : (e : Extent) (p : ℕ) → HasPage e p ⊎ (HasPage e p → ⊥)
has_or_not e p =
    elim (cases_lt p e.first) [
      | inl under ↦ inr (λ h. omega (arith, h.0))
      | inr from ↦
          elim (cases_lt p (e.first + e.pages)) [
            | inl to ↦ inl (from, to)
            | inr past ↦ inr (λ h. omega (arith, h.1))
          ]
    ]

pub held_or_free : (out : List Extent) (p : ℕ) → InRun out p ⊎ IsFreePage out p
held_or_free [] p = inr tt
held_or_free (d ∷ ds) p =
    elim (has_or_not d p) [
      | inl has ↦ inl (inl has)
      | inr lacks ↦ elim (held_or_free ds p) [ inl held ↦ inl (inr held) | inr free ↦ inr (lacks, free) ]
    ]

-- ---- A list without one of its extents.

pub all_without : (P : Extent → Type 0) (front back : List Extent) (e : Extent) → AllByRecursion P (front ++ e ∷ back) → AllByRecursion P (front ++ back)
all_without P front back e h =
    let rest : AllByRecursion P (e ∷ back) = all_back P front (e ∷ back) h in
    all_append P front back (all_front P front (e ∷ back) h) rest.1

pub all_middle : (P : Extent → Type 0) (front back : List Extent) (e : Extent) → AllByRecursion P (front ++ e ∷ back) → P e
all_middle P front back e h =
    let rest : AllByRecursion P (e ∷ back) = all_back P front (e ∷ back) h in
    rest.0

-- ---- Extents in pairs.

one_apart : (limit : ℕ) (d e : Extent) → LiesBelow limit d → 0 < e.pages → ((p : ℕ) → HasPage e p → HasPage d p → ⊥) → AreApart d e
one_apart limit d e h some free =
    elim (cases_lt e.first (d.first + d.pages)) [
      | inr past ↦ inl past
      | inl under ↦
          elim (cases_lt d.first (e.first + e.pages)) [
            | inr past ↦ inr past
            | inl within ↦
                elim (cases_lt d.first e.first) [
                  | inl lower ↦ absurd (free e.first (omega arith, omega arith) (omega arith, under))
                  | inr higher ↦ absurd (free d.first (higher, within) (omega arith, omega (arith, h.0)))
                ]
          ]
    ]

-- an extent whose pages are free is apart from each that is out
pub apart_from : (limit : ℕ) (out : List Extent) (e : Extent) → AllByRecursion (LiesBelow limit) out → 0 < e.pages
    → ((p : ℕ) → HasPage e p → IsFreePage out p) → AllByRecursion (λ d. AreApart d e) out
apart_from limit [] e h some free = tt
apart_from limit (d ∷ ds) e h some free =
    (one_apart limit d e h.0 some (λ p has. (free p has).0), apart_from limit ds e h.1 some (λ p has. (free p has).1))

pub pairs_push : (out : List Extent) (e : Extent) → AllPairs AreApart out → AllByRecursion (λ d. AreApart d e) out → AllPairs AreApart (out ++ e ∷ [])
pairs_push out e pairs apart =
    let each = All-from_recursion (λ d. AreApart d e) out apart in
    all_pairs_push AreApart out e pairs (λ k d under. each k d under)

drop_past : (front back : List Extent) (e : Extent) → drop (suc (length front)) (front ++ e ∷ back) ≡ back
drop_past [] back e = refl
drop_past (x ∷ front) back e = drop_past front back e

within : (front back : List Extent) (e : Extent) → length front < length (front ++ e ∷ back)
within [] back e = omega arith
within (x ∷ front) back e = omega (arith, within front back e)

pub pairs_without : (front back : List Extent) (e : Extent) → AllPairs AreApart (front ++ e ∷ back) → AllPairs AreApart (front ++ back)
pairs_without front back e pairs =
    let P : List Extent → Type 0 = λ xs. AllPairs AreApart xs in
    let e1 : take (length front) (front ++ e ∷ back) ≡ front = take_at front (e ∷ back) (length front) refl in
    let e2 : drop (suc (length front)) (front ++ e ∷ back) ≡ back = drop_past front back e in
    let same : remove (front ++ e ∷ back) (length front) ≡ front ++ back = rw (e1, e2) refl in
    subst P same (all_pairs_remove AreApart (front ++ e ∷ back) (length front) (within front back e) pairs)

pub pairs_tail : (x : Extent) (xs : List Extent) → AllPairs AreApart (x ∷ xs) → AllPairs AreApart xs
pairs_tail x xs pairs = λ i j d lt under. pairs (suc i) (suc j) d (omega arith) (omega arith)

pub pairs_head : (x : Extent) (xs : List Extent) → AllPairs AreApart (x ∷ xs) → AllByRecursion (AreApart x) xs
pairs_head x xs pairs = recursion_from_All (AreApart x) xs (λ k d under. pairs 0 (suc k) d (omega arith) (omega arith))

free_of_apart : (back : List Extent) (e : Extent) (p : ℕ) → HasPage e p → AllByRecursion (AreApart e) back → IsFreePage back p
free_of_apart [] e p has apart = tt
free_of_apart (d ∷ back) e p has apart = (
  (λ in_d. elim apart.0 [ inl a ↦ omega (arith, a, has.1, in_d.0) | inr b ↦ omega (arith, b, has.0, in_d.1) ]),
  free_of_apart back e p has apart.1,
)

-- a page of an extent is in no other that is out
pub free_of_others : (front back : List Extent) (e : Extent) (p : ℕ) → AllPairs AreApart (front ++ e ∷ back) → HasPage e p → IsFreePage (front ++ back) p
free_of_others [] back e p pairs has = free_of_apart back e p has (pairs_head e back pairs)
free_of_others (d ∷ front) back e p pairs has =
    let apart : AreApart d e = all_middle (AreApart d) front back e (pairs_head d (front ++ e ∷ back) pairs) in (
      (λ in_d. elim apart [ inl a ↦ omega (arith, a, has.0, in_d.1) | inr b ↦ omega (arith, b, has.1, in_d.0) ]),
      free_of_others front back e p (pairs_tail d (front ++ e ∷ back) pairs) has,
    )
