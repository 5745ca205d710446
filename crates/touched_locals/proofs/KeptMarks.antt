-- The marks of kept locals: each is marked, and its number among the marked ones is its place in the list.
use Rattle.std.proofs.Common.{◌≡◌, ℕ, zero, suc, ◌+◌, ◌-◌, ◌<◌, ◌≤◌, Bool, true, false, inl, inr, List, [], ◌∷◌, ◌++◌, length, replicate, Some, refl, sym, ap, ◌∙◌, subst, arith, length-append}
use Rattle.std.specs.List.{slice_get}
use Rattle.std.proofs.lemmas.Bool.{cases_lt}
use Rattle.std.proofs.lemmas.List.{length-replicate}
use Rattle.list_lemmas.proofs.ItemsByPlace.{slice_get-last, slice_get-longer}
use Rattle.touched_locals.specs.KeptLocals.{IsRising, marks_from}
use Rattle.touched_locals.specs.Narrowing.{IsKept, kept_count, rank}

-- ---- Behind locals that aren't kept.

get-behind : (gap : ℕ) (marks : List Bool) (d e : ℕ) → e ≡ gap + d → slice_get (replicate gap false ++ marks) e ≡ slice_get marks d
get-behind zero marks d e is = ap (slice_get marks) (omega (arith, is))
get-behind (suc gap) marks d zero is = absurd (omega (arith, is))
get-behind (suc gap) marks d (suc e) is = get-behind gap marks d e (omega (arith, is))

rank-behind : (gap : ℕ) (marks : List Bool) (d e : ℕ) → e ≡ gap + d → rank (replicate gap false ++ marks) e ≡ rank marks d
rank-behind zero marks d e is = ap (rank marks) (omega (arith, is))
rank-behind (suc gap) marks d zero is = absurd (omega (arith, is))
rank-behind (suc gap) marks d (suc e) is = rank-behind gap marks d e (omega (arith, is))

count-behind : (gap : ℕ) (marks : List Bool) → kept_count (replicate gap false ++ marks) ≡ kept_count marks
count-behind zero marks = refl
count-behind (suc gap) marks = count-behind gap marks

count-none : (gap : ℕ) → kept_count (replicate gap false) ≡ 0
count-none zero = refl
count-none (suc gap) = count-none gap

-- ---- Lists that rise.

pub rising-most : (from : ℕ) (kept : List ℕ) (to : ℕ) → IsRising from kept to → from ≤ to
rising-most from [] to h = h
rising-most from (n ∷ kept) to h = omega (arith, h.0, rising-most (suc n) kept to h.1)

pub rising-many : (from : ℕ) (kept : List ℕ) (to : ℕ) → IsRising from kept to → from + length kept ≤ to
rising-many from [] to h = omega (arith, h)
rising-many from (n ∷ kept) to h = omega (arith, h.0, rising-many (suc n) kept to h.1)

pub rising-push : (from : ℕ) (kept : List ℕ) (to n : ℕ) → IsRising from kept to → to ≤ n → IsRising from (kept ++ n ∷ []) (suc n)
rising-push from [] to n h past = (omega (arith, h), omega arith)
rising-push from (m ∷ kept) to n h past = (h.0, rising-push (suc m) kept to n h.1 past)

pub rising-below : (from : ℕ) (kept : List ℕ) (to more : ℕ) → IsRising from kept to → to ≤ more → IsRising from kept more
rising-below from [] to more h less = omega (arith, h)
rising-below from (m ∷ kept) to more h less = (h.0, rising-below (suc m) kept to more h.1 less)

rising-at : (from : ℕ) (kept : List ℕ) (to k m : ℕ) → IsRising from kept to → slice_get kept k ≡ Some m → from ≤ m
rising-at from [] to k m h at = cc
rising-at from (n ∷ kept) to zero m h at =
    let same : n ≡ m = cc in
    omega (arith, h.0)
rising-at from (n ∷ kept) to (suc k) m h at = omega (arith, h.0, rising-at (suc n) kept to k m h.1 at)

-- ---- Their marks.

pub length-marks : (from : ℕ) (kept : List ℕ) (to : ℕ) → IsRising from kept to → length (marks_from from kept to) ≡ to - from
length-marks from [] to h = length-replicate (to - from) false
length-marks from (n ∷ kept) to h =
    length-append (replicate (n - from) false) (true ∷ marks_from (suc n) kept to)
    ∙ omega (arith, h.0, rising-most (suc n) kept to h.1, length-replicate (n - from) false, length-marks (suc n) kept to h.1)

pub count-marks : (from : ℕ) (kept : List ℕ) (to : ℕ) → kept_count (marks_from from kept to) ≡ length kept
count-marks from [] to = count-none (to - from)
count-marks from (n ∷ kept) to =
    count-behind (n - from) (true ∷ marks_from (suc n) kept to) ∙ ap suc (count-marks (suc n) kept to)

pub mark-at : (from : ℕ) (kept : List ℕ) (to : ℕ) → IsRising from kept to → (k m d : ℕ) → slice_get kept k ≡ Some m → m ≡ from + d
    → IsKept (marks_from from kept to) d × (rank (marks_from from kept to) d ≡ k)
mark-at from [] to h k m d at is = cc
mark-at from (n ∷ kept) to h zero m d at is =
    let same : n ≡ m = cc in
    let gap : d ≡ (n - from) + 0 = omega (arith, h.0, is, same) in (
      get-behind (n - from) (true ∷ marks_from (suc n) kept to) 0 d gap,
      rank-behind (n - from) (true ∷ marks_from (suc n) kept to) 0 d gap,
    )
mark-at from (n ∷ kept) to h (suc k) m d at is =
    let after : ℕ = m - suc n in
    let past = rising-at (suc n) kept to k m h.1 at in
    let later = mark-at (suc n) kept to h.1 k m after at (omega (arith, past)) in
    let gap : d ≡ (n - from) + suc after = omega (arith, h.0, is, past) in (
      get-behind (n - from) (true ∷ marks_from (suc n) kept to) (suc after) d gap ∙ later.0,
      rank-behind (n - from) (true ∷ marks_from (suc n) kept to) (suc after) d gap ∙ ap suc later.1,
    )

-- ---- One local more.

pub rising-pushed : (kept new : List ℕ) (to n next : ℕ) → IsRising 0 kept to → to ≤ n → new ≡ kept ++ n ∷ [] → next ≡ n + 1 → IsRising 0 new next
rising-pushed kept new to n next h past is after =
    subst (λ (xs : List ℕ). IsRising 0 xs next) (sym is)
    (subst (λ (m : ℕ). IsRising 0 (kept ++ n ∷ []) m) (omega (arith, after)) (rising-push 0 kept to n h past))

pub stays-pushed : (kept new : List ℕ) (n : ℕ) → new ≡ kept ++ n ∷ [] → (k m : ℕ) → slice_get kept k ≡ Some m → slice_get new k ≡ Some m
stays-pushed kept new n is k m at = ap (λ (xs : List ℕ). slice_get xs k) is ∙ slice_get-longer kept (n ∷ []) k m at

-- each of the first ones stands at its own place
abbrev pub StandFirst : List ℕ → ℕ → Type 0
StandFirst kept many = (k : ℕ) → k < many → slice_get kept k ≡ Some k

pub next-pushed : (kept new : List ℕ) (n next : ℕ) → length kept ≡ n → StandFirst kept n → new ≡ kept ++ n ∷ [] → next ≡ n + 1 → StandFirst new next
next-pushed kept new n next many first is after = λ k less. elim (cases_lt k n) [
  | inl before ↦ stays-pushed kept new n is k k (first k before)
  | inr last ↦
      let here : n ≡ k = omega (arith, after, less) in
      ap (λ (xs : List ℕ). slice_get xs k) is
      ∙ subst (λ (m : ℕ). slice_get (kept ++ n ∷ []) m ≡ Some n) (many ∙ here) (slice_get-last kept n) ∙ ap (λ (m : ℕ). Some m) here
]

pub long-pushed : (kept new : List ℕ) (n next : ℕ) → length kept ≡ n → new ≡ kept ++ n ∷ [] → next ≡ n + 1 → length new ≡ next
long-pushed kept new n next many is after = ap (λ (xs : List ℕ). length xs) is ∙ length-append kept (n ∷ []) ∙ omega (arith, many, after)
