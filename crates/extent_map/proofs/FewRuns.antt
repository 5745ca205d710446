-- There is at most one free run more than there are extents out.
use Rattle.std.proofs.Common.{◌≡◌, ℕ, ◌+◌, ◌<◌, ◌≤◌, ◌⊎◌, inl, inr, List, [], ◌∷◌, ◌++◌, length, refl, ap, subst, arith, length-append}
use Rattle.std.specs.List.{AllByRecursion}
use Rattle.jk_model.specs.declared.extents.Extent.{Extent}
use Rattle.jk_model.specs.Extents.{HasPage, IsFreePage}
use Rattle.extent_map.specs.Runs.{InRun, AreRuns}
use Rattle.extent_map.proofs.RunsHavePages.{below, in_cases, in_left, in_right, ends_by}
use Rattle.extent_map.proofs.HeldOrFree.{all_without, all_middle}

-- the extent that holds a page, and the others
record Holder (out : List Extent) (p : ℕ) : Type 0 where
  pub front : List Extent
  pub back : List Extent
  pub holder : Extent
  pub whole : out ≡ front ++ holder ∷ back
  pub has : HasPage holder p

holder_of : (out : List Extent) (p : ℕ) → InRun out p → Holder out p
holder_of [] p h = absurd h
holder_of (d ∷ ds) p h =
    elim h [
      | inl here ↦ record { front = []; back = ds; holder = d; whole = refl; has = here }
      | inr others ↦
          let found = holder_of ds p others in
          record { front = d ∷ found.front; back = found.back; holder = found.holder; whole = ap (λ xs. d ∷ xs) found.whole; has = found.has }
    ]

-- each run ends at a page that an extent holds
abbrev AreEnded : List Extent → List Extent → Type 0
AreEnded out runs = AllByRecursion (λ r. InRun out (r.first + r.pages)) runs

-- The extent that holds the page at the end of a run holds that of no lower run, since it would hold the run.
others_held : (front back : List Extent) (d r : Extent) (runs : List Extent) → HasPage d (r.first + r.pages) → 0 < r.pages
    → IsFreePage (front ++ d ∷ back) r.first
    → AllByRecursion (λ s. s.first + s.pages < r.first) runs → AreEnded (front ++ d ∷ back) runs → AreEnded (front ++ back) runs
others_held front back d r [] has some free ends held = tt
others_held front back d r (s ∷ runs) has some free ends held =
    let not_d = all_middle (λ x. HasPage x r.first → ⊥) front back d free in
    let rest = others_held front back d r runs has some free ends.1 held.1 in
    let e = ends.0 in
    elim (in_cases front (d ∷ back) (s.first + s.pages) held.0) [
      | inl a ↦ (in_left front back (s.first + s.pages) a, rest)
      | inr b ↦
          elim b [
            | inl in_d ↦ absurd (not_d (omega (arith, in_d.0, e), omega (arith, has.1, some)))
            | inr c ↦ (in_right front back (s.first + s.pages) c, rest)
          ]
    ]

few : (bound : ℕ) (runs out : List Extent) → AreRuns bound runs → ((p : ℕ) → InRun runs p → IsFreePage out p) → AreEnded out runs → length runs ≤ length out
few bound [] out h free held = omega arith
few bound (r ∷ rs) out h free held =
    let found = holder_of out (r.first + r.pages) held.0 in
    let Free : ℕ → List Extent → Type 0 = λ p xs. IsFreePage xs p in
    let Ended : List Extent → Type 0 = λ xs. AreEnded xs rs in
    let first_free : IsFreePage (found.front ++ found.holder ∷ found.back) r.first =
    subst (Free r.first) found.whole (free r.first (inl (omega arith, omega (arith, h.0)))) in
    let lower : AreEnded (found.front ++ found.back) rs =
    others_held found.front found.back found.holder r rs found.has h.0 first_free (ends_by r.first rs h.2) (subst Ended found.whole held.1) in
    let less : length rs ≤ length (found.front ++ found.back) =
    few r.first rs (found.front ++ found.back) h.2
    (λ p i. all_without (λ x. HasPage x p → ⊥) found.front found.back found.holder (subst (Free p) found.whole (free p (inr i))))
    lower in
    let long : length out ≡ length (found.front ++ found.holder ∷ found.back) = ap length found.whole in
    omega (arith, less, long, length-append found.front (found.holder ∷ found.back), length-append found.front found.back)

-- the page at the end of a run below the bound is in no run
ended : (bound : ℕ) (runs out : List Extent) → AreRuns bound runs → ((p : ℕ) → p < bound → InRun runs p ⊎ InRun out p) → AreEnded out runs
ended bound [] out h cover = tt
ended bound (r ∷ rs) out h cover =
    let rest : AreEnded out rs =
    ended r.first rs out h.2
    (λ p under.
    elim (cover p (omega (arith, h.1))) [
      | inl i ↦ elim i [ inl here ↦ absurd (omega (arith, here.0)) | inr more ↦ inl more ]
      | inr o ↦ inr o
    ]) in
    elim (cover (r.first + r.pages) h.1) [
      | inl i ↦
          elim i [
            | inl here ↦ absurd (omega (arith, here.1))
            | inr more ↦ absurd (omega (arith, below r.first rs (r.first + r.pages) h.2 more))
          ]
      | inr o ↦ (o, rest)
    ]

pub few_runs : (limit : ℕ) (runs out : List Extent) → AreRuns (limit + 1) runs → ((p : ℕ) → p < limit → InRun runs p ⊎ InRun out p)
    → ((p : ℕ) → InRun runs p → IsFreePage out p)
    → length runs ≤ length out + 1
few_runs limit [] out h cover free = omega arith
few_runs limit (r ∷ rs) out h cover free =
    let lower : AreEnded out rs =
    ended r.first rs out h.2
    (λ p under.
    elim (cover p (omega (arith, h.1, h.0))) [
      | inl i ↦ elim i [ inl here ↦ absurd (omega (arith, here.0)) | inr more ↦ inl more ]
      | inr o ↦ inr o
    ]) in
    omega (arith, few r.first rs out h.2 (λ p i. free p (inr i)) lower)
