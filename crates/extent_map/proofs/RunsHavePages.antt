-- Runs one below the other: a part of them are runs, with their own pages, and no place between them is longer than they are.
use Rattle.std.proofs.Common.{◌≡◌, ℕ, ◌+◌, ◌<◌, ◌≤◌, ◌⊎◌, ◌↔◌, inl, inr, List, [], ◌∷◌, ◌++◌, length, get_or, take, drop, refl, sym, ◌∙◌, ap, arith}
use Rattle.std.specs.List.{AllByRecursion, HoldsAt}
use Rattle.std.proofs.lemmas.List.{take-append-drop, drop_more}
use Rattle.std.proofs.lemmas.List.Elements.{All-from_recursion}
use Rattle.jk_model.specs.declared.extents.Extent.{Extent}
use Rattle.jk_model.specs.Extents.{HasPage}
use Rattle.extent_map.specs.Runs.{InRun, AreRuns, AreShort}

-- the first page of the last of these runs, or the bound where there is none
abbrev pub edge : ℕ → List Extent → ℕ
edge bound [] = bound
edge bound (r ∷ rs) = edge r.first rs

-- the first of these runs ends by this page
abbrev pub EndBy : List Extent → ℕ → Type 0
EndBy [] p = Unit {0}
EndBy (r ∷ rs) p = r.first + r.pages ≤ p

-- the first of these runs ends before this page
abbrev pub EndBefore : List Extent → ℕ → Type 0
EndBefore [] p = Unit {0}
EndBefore (r ∷ rs) p = r.first + r.pages < p

-- These runs have the pages of those and of one more.
abbrev pub AddsPages : List Extent → Extent → List Extent → Type 0
AddsPages old e new = (p : ℕ) → InRun new p ↔ (InRun old p ⊎ HasPage e p)

-- These runs have the pages of those but of one.
abbrev pub TakesPages : List Extent → Extent → List Extent → Type 0
TakesPages old e new = (p : ℕ) → InRun new p ↔ (InRun old p × (HasPage e p → ⊥))

-- ---- Some of the runs.

pub split_at : (runs : List Extent) (at : ℕ) (d : Extent) → at < length runs → runs ≡ take at runs ++ get_or runs at d ∷ drop (at + 1) runs
split_at runs at d h = sym (take-append-drop at runs) ∙ ap (λ low. take at runs ++ low) (drop_more runs at d h)

pub in_cases : (xs ys : List Extent) (p : ℕ) → InRun (xs ++ ys) p → InRun xs p ⊎ InRun ys p
in_cases [] ys p h = inr h
in_cases (x ∷ xs) ys p h =
    elim h [ inl first ↦ inl (inl first) | inr others ↦ elim (in_cases xs ys p others) [ inl a ↦ inl (inr a) | inr b ↦ inr b ] ]

pub in_left : (xs ys : List Extent) (p : ℕ) → InRun xs p → InRun (xs ++ ys) p
in_left [] ys p h = absurd h
in_left (x ∷ xs) ys p h = elim h [ inl first ↦ inl first | inr others ↦ inr (in_left xs ys p others) ]

pub in_right : (xs ys : List Extent) (p : ℕ) → InRun ys p → InRun (xs ++ ys) p
in_right [] ys p h = h
in_right (x ∷ xs) ys p h = inr (in_right xs ys p h)

pub high_runs : (bound : ℕ) (high low : List Extent) → AreRuns bound (high ++ low) → AreRuns bound high
high_runs bound [] low h = tt
high_runs bound (r ∷ rs) low h = (h.0, h.1, high_runs r.first rs low h.2)

pub low_runs : (bound : ℕ) (high low : List Extent) → AreRuns bound (high ++ low) → AreRuns (edge bound high) low
low_runs bound [] low h = h
low_runs bound (r ∷ rs) low h = low_runs r.first rs low h.2

pub join_runs : (bound : ℕ) (high low : List Extent) → AreRuns bound high → AreRuns (edge bound high) low → AreRuns bound (high ++ low)
join_runs bound [] low h k = k
join_runs bound (r ∷ rs) low h k = (h.0, h.1, join_runs r.first rs low h.2 k)

pub looser : (bound more : ℕ) (runs : List Extent) → bound ≤ more → AreRuns bound runs → AreRuns more runs
looser bound more [] le h = tt
looser bound more (r ∷ rs) le h = (h.0, omega (arith, h.1), h.2)

pub tighter : (bound less : ℕ) (runs : List Extent) → AreRuns bound runs → EndBefore runs less → AreRuns less runs
tighter bound less [] h before = tt
tighter bound less (r ∷ rs) h before = (h.0, before, h.2)

pub edge_le : (bound : ℕ) (runs : List Extent) → AreRuns bound runs → edge bound runs ≤ bound
edge_le bound [] h = omega arith
edge_le bound (r ∷ rs) h = omega (arith, edge_le r.first rs h.2, h.1)

pub edge_last : (bound : ℕ) (high : List Extent) (s : Extent) → edge bound (high ++ s ∷ []) ≡ s.first
edge_last bound [] s = refl
edge_last bound (r ∷ rs) s = edge_last r.first rs s

all_below : (less bound : ℕ) (runs : List Extent) → less ≤ bound → AllByRecursion (λ r. r.first + r.pages < less) runs
    → AllByRecursion (λ r. r.first + r.pages < bound) runs
all_below less bound [] le h = tt
all_below less bound (r ∷ rs) le h = (omega (arith, h.0), all_below less bound rs le h.1)

pub ends_by : (bound : ℕ) (runs : List Extent) → AreRuns bound runs → AllByRecursion (λ r. r.first + r.pages < bound) runs
ends_by bound [] h = tt
ends_by bound (r ∷ rs) h = (h.1, all_below r.first bound rs (omega (arith, h.1)) (ends_by r.first rs h.2))

pub ends_at : (bound : ℕ) (runs : List Extent) (at : ℕ) → AreRuns bound runs → at < length runs → HoldsAt (λ r. r.first + r.pages < bound) runs at
ends_at bound runs at h under d = All-from_recursion (λ r. r.first + r.pages < bound) runs (ends_by bound runs h) at d under

-- ---- Pages.

pub below : (bound : ℕ) (runs : List Extent) (p : ℕ) → AreRuns bound runs → InRun runs p → p < bound
below bound [] p h i = absurd i
below bound (r ∷ rs) p h i =
    elim i [ inl here ↦ omega (arith, here.1, h.1) | inr others ↦ omega (arith, below r.first rs p h.2 others, h.1) ]

pub below_limit : (limit : ℕ) (runs : List Extent) (p : ℕ) → AreRuns (limit + 1) runs → InRun runs p → p < limit
below_limit limit [] p h i = absurd i
below_limit limit (r ∷ rs) p h i =
    elim i [ inl here ↦ omega (arith, here.1, h.1) | inr others ↦ omega (arith, below r.first rs p h.2 others, h.1) ]

pub from_edge : (bound : ℕ) (high : List Extent) (p : ℕ) → AreRuns bound high → InRun high p → edge bound high ≤ p
from_edge bound [] p h i = absurd i
from_edge bound (r ∷ rs) p h i =
    elim i [ inl here ↦ omega (arith, here.0, edge_le r.first rs h.2) | inr others ↦ from_edge r.first rs p h.2 others ]

-- No place is as long as that where each run is too short: the page at the end of a run is in none.
pub no_room : (bound : ℕ) (runs : List Extent) (pages lower : ℕ) → AreRuns bound runs → AreShort pages runs → 1 ≤ pages → lower < bound
    → ((p : ℕ) → lower ≤ p → p < lower + pages → p < bound → InRun runs p) → ⊥
no_room bound [] pages lower h short some under f = f lower (omega arith) (omega arith) under
no_room bound (r ∷ rs) pages lower h short some under f =
    elim (f lower (omega arith) (omega arith) under) [
      | inl here ↦
          elim (f (r.first + r.pages) (omega (arith, here.1)) (omega (arith, here.0, short.0)) h.1) [
            | inl again ↦ omega (arith, again.1)
            | inr others ↦ omega (arith, below r.first rs (r.first + r.pages) h.2 others)
          ]
      | inr others ↦
          let there : lower < r.first = below r.first rs lower h.2 others in
          no_room r.first rs pages lower h.2 short.1 some there
          (λ p from to under2.
          elim (f p from to (omega (arith, h.1))) [ inl here ↦ absurd (omega (arith, here.0)) | inr more ↦ more ])
    ]
