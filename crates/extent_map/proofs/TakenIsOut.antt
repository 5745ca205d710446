-- Pages that are taken from the front of the first run that is long enough are an extent that is out, at the first place.
use Rattle.std.proofs.Common.{◌≡◌, ℕ, ◌+◌, ◌-◌, ◌<◌, ◌≤◌, ◌⊎◌, inl, inr, List, [], ◌∷◌, ◌++◌, length, get_or, take, drop, suc, refl, sym, ◌∙◌, ap, subst, arith, add-one, length-append}
use Rattle.std.specs.List.{AllByRecursion, HoldsAt}
use Rattle.std.proofs.lemmas.Bool.{cases_lt}
use Rattle.std.proofs.lemmas.List.{set_split}
use Rattle.jk_model.specs.declared.extents.Extent.{Extent}
use Rattle.jk_model.specs.Extents.{HasPage, IsFreePage, LiesBelow, AreOut, IsFirstFit, HasNoFit}
use Rattle.extent_map.specs.RunState.{RunState, IsOut}
use Rattle.extent_map.specs.Runs.{InRun, AreRuns, AreShort}
use Rattle.extent_map.specs.Steps.{IsAt, IsCut}
use Rattle.extent_map.proofs.RunsHavePages.{edge, TakesPages, split_at, in_cases, in_left, in_right, high_runs, low_runs, join_runs, looser, edge_le, below, from_edge, no_room, ends_by}
use Rattle.jk_model.proofs.EachItem.{all_front, all_back, all_append}
use Rattle.extent_map.proofs.HeldOrFree.{apart_from, pairs_push}

pub split_run : (runs : List Extent) (at : ℕ) (run : Extent) → IsAt runs at run → runs ≡ take at runs ++ run ∷ drop (suc at) runs
split_run runs at run is =
    split_at runs at run is.0 ∙ (rw (is.1 run, add-one) refl)

-- ---- The runs that are left.

whole_runs : (bound : ℕ) (high low : List Extent) (run : Extent) → AreRuns bound (high ++ run ∷ low) → AreRuns bound (high ++ low)
whole_runs bound high low run h =
    let there : AreRuns (edge bound high) (run ∷ low) = low_runs bound high (run ∷ low) h in
    join_runs bound high low (high_runs bound high (run ∷ low) h) (looser run.first (edge bound high) low (omega (arith, there.1)) there.2)

part_runs : (bound : ℕ) (high low : List Extent) (run : Extent) (n : ℕ) → AreRuns bound (high ++ run ∷ low) → n < run.pages
    → AreRuns bound (high ++ record { first = run.first + n; pages = run.pages - n } ∷ low)
part_runs bound high low run n h less =
    let there : AreRuns (edge bound high) (run ∷ low) = low_runs bound high (run ∷ low) h in
    join_runs bound high (record { first = run.first + n; pages = run.pages - n } ∷ low) (high_runs bound high (run ∷ low) h)
    (omega arith, omega (arith, there.1), looser run.first (run.first + n) low (omega arith) there.2)

pub taken_runs : (bound n at first : ℕ) (runs new : List Extent) → AreRuns bound runs → IsCut runs at n first new → AreRuns bound new
taken_runs bound n at first runs new h (run, is, e, cases) =
    let Runs : List Extent → Type 0 = λ xs. AreRuns bound xs in
    let there : AreRuns bound (take at runs ++ run ∷ drop (suc at) runs) = subst Runs (split_run runs at run is) h in
    elim cases [
      | inl whole ↦ subst Runs (sym whole.1) (whole_runs bound (take at runs) (drop (suc at) runs) run there)
      | inr part ↦ subst Runs (sym (part.1 ∙ set_split runs at _ is.0)) (part_runs bound (take at runs) (drop (suc at) runs) run n there part.0)
    ]

-- ---- Their pages.

in_rest : (bound : ℕ) (high low : List Extent) (run : Extent) (n p : ℕ) → AreRuns bound (high ++ run ∷ low) → n ≤ run.pages → InRun high p ⊎ InRun low p
    → InRun (high ++ run ∷ low) p × (HasPage (record { first = run.first; pages = n }) p → ⊥)
in_rest bound high low run n p h le cases =
    let there : AreRuns (edge bound high) (run ∷ low) = low_runs bound high (run ∷ low) h in
    elim cases [
      | inl a ↦ (in_left high (run ∷ low) p a, λ has. omega (arith, has.1, there.1, from_edge bound high p (high_runs bound high (run ∷ low) h) a))
      | inr b ↦ (in_right high (run ∷ low) p (inr b), λ has. omega (arith, has.0, below run.first low p there.2 b))
    ]

whole_pages : (bound : ℕ) (high low : List Extent) (run : Extent) (n : ℕ) → AreRuns bound (high ++ run ∷ low) → run.pages ≡ n
    → TakesPages (high ++ run ∷ low) (record { first = run.first; pages = n }) (high ++ low)
whole_pages bound high low run n h e p = (
  λ i. in_rest bound high low run n p h (omega arith) (in_cases high low p i),
  λ i.
      elim (in_cases high (run ∷ low) p i.0) [
        | inl a ↦ in_left high low p a
        | inr b ↦
            elim b [
              | inl here ↦ absurd (i.1 (here.0, omega (arith, here.1, e)))
              | inr c ↦ in_right high low p c
            ]
      ],
)

past : (run : Extent) (n p : ℕ) → HasPage run p → (HasPage (record { first = run.first; pages = n }) p → ⊥) → run.first + n ≤ p
past run n p here lacks =
    elim (cases_lt p (run.first + n)) [ inl under ↦ absurd (lacks (here.0, under)) | inr from ↦ from ]

part_pages : (bound : ℕ) (high low : List Extent) (run : Extent) (n : ℕ) → AreRuns bound (high ++ run ∷ low) → n < run.pages
    → TakesPages (high ++ run ∷ low) (record { first = run.first; pages = n }) (high ++ record { first = run.first + n; pages = run.pages - n } ∷ low)
part_pages bound high low run n h less p =
    let left : Extent = record { first = run.first + n; pages = run.pages - n } in (
      λ i.
          elim (in_cases high (left ∷ low) p i) [
            | inl a ↦ in_rest bound high low run n p h (omega arith) (inl a)
            | inr b ↦
                elim b [
                  | inl here ↦ (in_right high (run ∷ low) p (inl (omega (arith, here.0), omega (arith, here.1))), λ has. omega (arith, has.1, here.0))
                  | inr c ↦ in_rest bound high low run n p h (omega arith) (inr c)
                ]
          ],
      λ i.
          elim (in_cases high (run ∷ low) p i.0) [
            | inl a ↦ in_left high (left ∷ low) p a
            | inr b ↦
                elim b [
                  | inl here ↦ in_right high (left ∷ low) p (inl (past run n p here i.1, omega (arith, here.1)))
                  | inr c ↦ in_right high (left ∷ low) p (inr c)
                ]
          ],
    )

pub taken_pages : (bound n at first : ℕ) (runs new : List Extent) → AreRuns bound runs → IsCut runs at n first new
    → TakesPages runs (record { first = first; pages = n }) new
taken_pages bound n at first runs new h (run, is, e, cases) =
    let high : List Extent = take at runs in
    let low : List Extent = drop (suc at) runs in
    let Runs : List Extent → Type 0 = λ xs. AreRuns bound xs in
    let there : AreRuns bound (high ++ run ∷ low) = subst Runs (split_run runs at run is) h in
    let Old : List Extent → Type 0 = λ xs. TakesPages xs (record { first = first; pages = n }) new in
    let At : ℕ → Type 0 = λ x. TakesPages (high ++ run ∷ low) (record { first = x; pages = n }) new in
    let New : List Extent → Type 0 = λ xs. TakesPages (high ++ run ∷ low) (record { first = run.first; pages = n }) xs in
    subst Old (sym (split_run runs at run is)) (subst At (sym e)
    (elim cases [
      | inl whole ↦ subst New (sym whole.1) (whole_pages bound high low run n there whole.0)
      | inr part ↦ subst New (sym (part.1 ∙ set_split runs at _ is.0)) (part_pages bound high low run n there part.0)
    ]))

-- ---- First fit.

in_low : (bound : ℕ) (high low : List Extent) (run : Extent) (p : ℕ) → AreRuns bound (high ++ run ∷ low) → p < run.first
    → InRun (high ++ run ∷ low) p → InRun low p
in_low bound high low run p h under i =
    let there : AreRuns (edge bound high) (run ∷ low) = low_runs bound high (run ∷ low) h in
    elim (in_cases high (run ∷ low) p i) [
      | inl a ↦ absurd (omega (arith, there.1, from_edge bound high p (high_runs bound high (run ∷ low) h) a))
      | inr b ↦ elim b [ inl here ↦ absurd (omega (arith, here.0)) | inr c ↦ c ]
    ]

fits_first : (limit : ℕ) (high low out : List Extent) (run : Extent) (n : ℕ) → AreRuns (limit + 1) (high ++ run ∷ low)
    → ((p : ℕ) → p < limit → InRun (high ++ run ∷ low) p → IsFreePage out p) → ((p : ℕ) → p < limit → IsFreePage out p → InRun (high ++ run ∷ low) p)
    → 1 ≤ n → n ≤ run.pages → AreShort n low → IsFirstFit limit out n run.first
fits_first limit high low out run n h free back some le short =
    let there : AreRuns (edge (limit + 1) high) (run ∷ low) = low_runs (limit + 1) high (run ∷ low) h in
    let under : edge (limit + 1) high ≤ limit + 1 = edge_le (limit + 1) high (high_runs (limit + 1) high (run ∷ low) h) in (
      (omega (arith, there.1), λ p from to. free p (omega (arith, there.1)) (in_right high (run ∷ low) p (inl (from, omega arith)))),
      λ lower less fits.
          no_room run.first low n lower there.2 short some less
          (λ p from to before. in_low (limit + 1) high low run p h before (back p (omega (arith, fits.0)) (fits.1 p from to))),
    )

pub first_fit : (map : RunState) (out : List Extent) (run : Extent) (at n : ℕ) → IsOut map out → AreRuns (map.pages + 1) map.free
    → IsAt map.free at run → 1 ≤ n → n ≤ run.pages
    → AreShort n (drop (suc at) map.free) → IsFirstFit map.pages out n run.first
first_fit map out run at n is h here some le short =
    let Runs : List Extent → Type 0 = λ xs. AreRuns (map.pages + 1) xs in
    let To : List Extent → Type 0 = λ xs. (p : ℕ) → p < map.pages → InRun xs p → IsFreePage out p in
    let From : List Extent → Type 0 = λ xs. (p : ℕ) → p < map.pages → IsFreePage out p → InRun xs p in
    let e = split_run map.free at run here in
    fits_first map.pages (take at map.free) (drop (suc at) map.free) out run n (subst Runs e h)
    (subst To e (λ p under. (is.free p under).0)) (subst From e (λ p under. (is.free p under).1)) some le short

pub no_fit : (map : RunState) (out : List Extent) (n : ℕ) → IsOut map out → AreRuns (map.pages + 1) map.free → 1 ≤ n
    → AreShort n map.free → HasNoFit map.pages out n
no_fit map out n is h some short first fits =
    no_room (map.pages + 1) map.free n first h short some (omega (arith, fits.0))
    (λ p from to under. (is.free p (omega (arith, fits.0))).1 (fits.1 p from to))

-- ---- The extents that are out then.

all_less : (limit : ℕ) (runs : List Extent) → AllByRecursion (λ run. run.first + run.pages < limit + 1) runs
    → AllByRecursion (λ run. run.first + run.pages ≤ limit) runs
all_less limit [] h = tt
all_less limit (r ∷ rs) h = (omega (arith, h.0), all_less limit rs h.1)

pub below_pages : (limit : ℕ) (runs : List Extent) → AreRuns (limit + 1) runs → AllByRecursion (λ run. run.first + run.pages ≤ limit) runs
below_pages limit runs h = all_less limit runs (ends_by (limit + 1) runs h)

pub taken_out : (map new : RunState) (out : List Extent) (e : Extent) → IsOut map out → 0 < e.pages → e.first + e.pages ≤ map.pages
    → ((p : ℕ) → HasPage e p → InRun map.free p)
    → AreRuns (map.pages + 1) new.free → TakesPages map.free e new.free → new.pages ≡ map.pages → new.extents ≡ map.extents → new.spare + 1 ≡ map.spare
    → IsOut new (out ++ e ∷ [])
taken_out map new out e is some ends inside runs takes same same_extents spare =
    let free : (p : ℕ) → HasPage e p → IsFreePage out p = λ p has. (is.free p (omega (arith, has.1))).0 (inside p has) in
    let apart = apart_from map.pages out e is.placed.0 some free in
    let Placed : ℕ → Type 0 = λ n. AreOut n (out ++ e ∷ []) in
    let Below : ℕ → Type 0 = λ n. AllByRecursion (λ run. run.first + run.pages ≤ n) new.free in
    record {
      placed = subst Placed (sym same) (all_append (LiesBelow map.pages) out (e ∷ []) is.placed.0 ((some, ends), tt), pairs_push out e is.placed.1 apart);
      free = λ p under.
          let here : p < map.pages = omega (arith, same) in (
            λ i.
                let was = (takes p).0 i in
                all_append (λ x. HasPage x p → ⊥) out (e ∷ []) ((is.free p here).0 was.0) (was.1, tt),
            λ f.
                let last : IsFreePage (e ∷ []) p = all_back (λ x. HasPage x p → ⊥) out (e ∷ []) f in
                (takes p).1 ((is.free p here).1 (all_front (λ x. HasPage x p → ⊥) out (e ∷ []) f), last.0),
          );
      below = subst Below (sym same) (below_pages map.pages new.free runs);
      count = omega (arith, is.count, same_extents, spare, length-append out (e ∷ []));
    }

-- ---- What a search and a cut say.

-- the run of a search has so many pages, and those after it in the list are too short
abbrev pub IsFitting : List Extent → ℕ → ℕ → Type 0
IsFitting runs n at = (at < length runs) × HoldsAt (λ run. n ≤ run.pages) runs at × AreShort n (drop (at + 1) runs)

long_enough : (runs : List Extent) (n at : ℕ) (run : Extent) → IsFitting runs n at → IsAt runs at run → n ≤ run.pages
long_enough runs n at run found is =
    let long : n ≤ (get_or runs at run).pages = found.1 run in
    omega (arith, long, ap (λ x. x.pages) (is.1 run))

short_after : (runs : List Extent) (n at : ℕ) → AreShort n (drop (at + 1) runs) → AreShort n (drop (suc at) runs)
short_after runs n at h =
    let P : ℕ → Type 0 = λ k. AreShort n (drop k runs) in
    let e : at + 1 ≡ suc at = omega arith in
    subst P e h

pub cut_place : (map : RunState) (out : List Extent) (at n first : ℕ) (new : List Extent) → IsOut map out
    → AreRuns (map.pages + 1) map.free → 1 ≤ n → IsFitting map.free n at → IsCut map.free at n first new
    → IsFirstFit map.pages out n first
cut_place map out at n first new is h some found (run, here, e, cases) =
    let P : ℕ → Type 0 = λ x. IsFirstFit map.pages out n x in
    subst P (sym e) (first_fit map out run at n is h here some (long_enough map.free n at run found here) (short_after map.free n at found.2))

in_cut : (runs : List Extent) (n at p : ℕ) (run : Extent) → IsAt runs at run → n ≤ run.pages → run.first ≤ p → p < run.first + n → InRun runs p
in_cut runs n at p run is le from to =
    let P : List Extent → Type 0 = λ xs. InRun xs p in
    subst P (sym (split_run runs at run is)) (in_right (take at runs) (run ∷ drop (suc at) runs) p (inl (from, omega arith)))

pub cut_out : (map new : RunState) (out : List Extent) (at n first : ℕ) → IsOut map out → AreRuns (map.pages + 1) map.free → 1 ≤ n
    → IsFitting map.free n at → IsCut map.free at n first new.free
    → new.pages ≡ map.pages → new.extents ≡ map.extents → new.spare + 1 ≡ map.spare → IsOut new (out ++ record { first = first; pages = n } ∷ [])
cut_out map new out at n first is h some found cut same same_extents spare =
    let fit = cut_place map out at n first new.free is h some found cut in
    let run : Extent = cut.0 in
    let here : IsAt map.free at run = cut.1 in
    let e : first ≡ run.first = cut.2 in
    let le = long_enough map.free n at run found here in
    taken_out map new out (record { first = first; pages = n }) is some fit.0.0
    (λ p has. in_cut map.free n at p run here le (omega (arith, has.0, e)) (omega (arith, has.1, e)))
    (taken_runs (map.pages + 1) n at first map.free new.free h cut)
    (taken_pages (map.pages + 1) n at first map.free new.free h cut) same same_extents spare
