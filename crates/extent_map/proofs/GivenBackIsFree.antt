-- The pages of an extent that is given back are free: it is joined with the runs beside it, or put between them.
use Rattle.std.proofs.Common.{◌≡◌, ℕ, ◌+◌, ◌-◌, ◌<◌, ◌≤◌, ◌⊎◌, ◌↔◌, inl, inr, List, [], ◌∷◌, ◌++◌, length, get_or, set, take, drop, suc, refl, sym, ◌∙◌, ap, subst, arith, length-append}
use Rattle.std.specs.List.{AllByRecursion, HoldsAt, insert}
use Rattle.std.proofs.lemmas.Bool.{cases_lt, cases_eq}
use Rattle.std.proofs.lemmas.List.{set_split, take-append-drop, drop_more, take_more, take_at, drop_at, length-take-le, drop_all}
use Rattle.std.proofs.lemmas.List.Edits.{length-insert}
use Rattle.jk_model.specs.declared.extents.Extent.{Extent}
use Rattle.jk_model.specs.Extents.{HasPage, IsFreePage, LiesBelow, AreOut}
use Rattle.extent_map.specs.RunState.{RunState, IsOut}
use Rattle.extent_map.specs.Runs.{InRun, AreRuns, BeginBefore}
use Rattle.extent_map.specs.Steps.{IsAt, IsJoined, IsPut, HasGapBelow, HasGapAbove}
use Rattle.extent_map.proofs.RunsHavePages.{edge, EndBy, EndBefore, AddsPages, in_cases, in_left, in_right, high_runs, low_runs, join_runs, looser, tighter, edge_le, edge_last, below_limit}
use Rattle.extent_map.proofs.HeldOrFree.{all_without, all_middle, has_or_not, pairs_without, free_of_others, held_or_free}
use Rattle.extent_map.proofs.FewRuns.{few_runs}
use Rattle.extent_map.proofs.TakenIsOut.{split_run, below_pages}

-- An extent lies between the runs in front of a place and those from there on.
pub record IsBetween (bound : ℕ) (high low : List Extent) (e : Extent) : Type 0 where
  pub high_runs : AreRuns bound high
  pub low_runs : AreRuns (edge bound high) low
  pub some : 0 < e.pages
  pub within : e.first + e.pages < bound
  pub above : e.first + e.pages ≤ edge bound high
  pub below : EndBy low e.first

-- ---- The place of an extent that is out.

above_place : (bound : ℕ) (high : List Extent) (e : Extent) → AreRuns bound high → 0 < e.pages → e.first + e.pages ≤ bound
    → e.first ≤ edge bound high → ((p : ℕ) → HasPage e p → InRun high p → ⊥)
    → e.first + e.pages ≤ edge bound high
above_place bound [] e h some within from apart = within
above_place bound (r ∷ rs) e h some within from apart =
    let under : e.first ≤ r.first = omega (arith, from, edge_le r.first rs h.2) in
    elim (cases_lt r.first (e.first + e.pages)) [
      | inl over ↦ absurd (apart r.first (under, over) (inl (omega arith, omega (arith, h.0))))
      | inr clear ↦ above_place r.first rs e h.2 some clear from (λ p has i. apart p has (inr i))
    ]

below_place : (bound : ℕ) (low : List Extent) (e : Extent) → AreRuns bound low → 0 < e.pages → BeginBefore e.first low
    → ((p : ℕ) → HasPage e p → InRun low p → ⊥) → EndBy low e.first
below_place bound [] e h some before apart = tt
below_place bound (r ∷ rs) e h some before apart =
    elim (cases_lt e.first (r.first + r.pages)) [
      | inl over ↦ absurd (apart e.first (omega arith, omega (arith, some)) (inl (omega (arith, before.0), over)))
      | inr clear ↦ clear
    ]

-- the run in front of a place
take_last : (runs : List Extent) (at : ℕ) (d : Extent) → 0 < at → at ≤ length runs → take at runs ≡ take (at - 1) runs ++ get_or runs (at - 1) d ∷ []
take_last runs at d some within =
    let Q : ℕ → Type 0 = λ n. take n runs ≡ take (at - 1) runs ++ get_or runs (at - 1) d ∷ [] in
    let e : at - 1 + 1 ≡ at = omega arith in
    subst Q e (take_more runs (at - 1) d (omega arith))

edge_from : (bound at : ℕ) (runs : List Extent) (first : ℕ) → at ≤ length runs → first ≤ bound
    → (0 < at → HoldsAt (λ run. first ≤ run.first) runs (at - 1)) → first ≤ edge bound (take at runs)
edge_from bound at runs first within under high = elim (cases_eq at 0) [
  | inl none ↦
      let e : take at runs ≡ [] = rw none refl in
      rw e under
  | inr some ↦
      let d : Extent = record { first = 0; pages = 0 } in
      let e : take at runs ≡ take (at - 1) runs ++ get_or runs (at - 1) d ∷ [] = take_last runs at d (omega arith) within in
      rw (e, edge_last bound (take (at - 1) runs) (get_or runs (at - 1) d)) (high (omega arith) d)
]

pub between_at : (bound at : ℕ) (runs : List Extent) (e : Extent) → AreRuns bound runs → at ≤ length runs → 0 < e.pages → e.first + e.pages < bound
    → ((p : ℕ) → HasPage e p → InRun runs p → ⊥) → BeginBefore e.first (drop at runs) → (0 < at → HoldsAt (λ run. e.first ≤ run.first) runs (at - 1))
    → IsBetween bound (take at runs) (drop at runs) e
between_at bound at runs e h within some under apart low high =
    let Runs : List Extent → Type 0 = λ xs. AreRuns bound xs in
    let Apart : List Extent → Type 0 = λ xs. (p : ℕ) → HasPage e p → InRun xs p → ⊥ in
    let whole : runs ≡ take at runs ++ drop at runs = sym (take-append-drop at runs) in
    let parts : AreRuns bound (take at runs ++ drop at runs) = subst Runs whole h in
    let clear : (p : ℕ) → HasPage e p → InRun (take at runs ++ drop at runs) p → ⊥ = subst Apart whole apart in
    let front = high_runs bound (take at runs) (drop at runs) parts in
    let back = low_runs bound (take at runs) (drop at runs) parts in
    record {
      high_runs = front;
      low_runs = back;
      some = some;
      within = under;
      above =
          above_place bound (take at runs) e front some (omega arith)
          (edge_from bound at runs e.first within (omega (arith, under)) high) (λ p has i. clear p has (in_left (take at runs) (drop at runs) p i));
      below = below_place (edge bound (take at runs)) (drop at runs) e back some low (λ p has i. clear p has (in_right (take at runs) (drop at runs) p i));
    }

-- ---- Joined with the run below.

-- how an extent that is joined lies, and that it has the pages
pub record IsJoinedRight (bound at : ℕ) (runs : List Extent) (e : Extent) (new : List Extent) (joined : Extent) : Type 0 where
  pub within : at ≤ length new
  pub between : IsBetween bound (take at new) (drop at new) joined
  pub gap : EndBefore (drop at new) joined.first
  pub pages : (p : ℕ) → (InRun new p ⊎ HasPage joined p) ↔ (InRun runs p ⊎ HasPage e p)

gap_below : (at : ℕ) (runs : List Extent) (e : Extent) → EndBy (drop at runs) e.first → HasGapBelow runs at e → EndBefore (drop at runs) e.first
gap_below at runs e by gap =
    let By : List Extent → Type 0 = λ xs. EndBy xs e.first in
    let Before : List Extent → Type 0 = λ xs. EndBefore xs e.first in
    let d : Extent = record { first = 0; pages = 0 } in
    elim (cases_lt at (length runs)) [
      | inl under ↦
          let is : drop at runs ≡ get_or runs at d ∷ drop (at + 1) runs = drop_more runs at d under in
          let ends : EndBy (get_or runs at d ∷ drop (at + 1) runs) e.first = subst By is by in
          let not : (get_or runs at d).first + (get_or runs at d).pages ≡ e.first → ⊥ = gap under d in
          subst Before (sym is) (omega (arith, ends, not))
      | inr over ↦ subst Before (sym (drop_all at runs over)) tt
    ]

end_by : (bound : ℕ) (low : List Extent) → AreRuns bound low → EndBy low bound
end_by bound [] h = tt
end_by bound (r ∷ rs) h = omega (arith, h.1)

end_before : (bound : ℕ) (low : List Extent) → AreRuns bound low → EndBefore low bound
end_before bound [] h = tt
end_before bound (r ∷ rs) h = h.1

-- the run below is taken out and its pages are the extent's
joined_between : (bound : ℕ) (high low : List Extent) (run e : Extent) → IsBetween bound high (run ∷ low) e → run.first + run.pages ≡ e.first
    → IsBetween bound high low (record { first = run.first; pages = run.pages + e.pages })
joined_between bound high low run e h same = record {
  high_runs = h.high_runs;
  low_runs = looser run.first (edge bound high) low (omega (arith, h.low_runs.1)) h.low_runs.2;
  some = omega (arith, h.some);
  within = omega (arith, h.within, same);
  above = omega (arith, h.above, same);
  below = end_by run.first low h.low_runs.2;
}

joined_pages : (high low : List Extent) (run e : Extent) (p : ℕ) → run.first + run.pages ≡ e.first → 0 < e.pages → 0 < run.pages
    → (InRun (high ++ low) p ⊎ HasPage (record { first = run.first; pages = run.pages + e.pages }) p) ↔ (InRun (high ++ run ∷ low) p ⊎ HasPage e p)
joined_pages high low run e p same some some2 = (
  (λ x.
      elim x [
        | inl i ↦ elim (in_cases high low p i) [ inl a ↦ inl (in_left high (run ∷ low) p a) | inr b ↦ inl (in_right high (run ∷ low) p (inr b)) ]
        | inr has ↦
            elim (cases_lt p e.first) [
              | inl under ↦ inl (in_right high (run ∷ low) p (inl (has.0, omega (arith, same))))
              | inr from ↦ inr (from, omega (arith, has.1, same))
            ]
      ]),
  (λ x.
      elim x [
        | inl i ↦
            elim (in_cases high (run ∷ low) p i) [
              | inl a ↦ inl (in_left high low p a)
              | inr b ↦ elim b [ inl here ↦ inr (here.0, omega (arith, here.1)) | inr c ↦ inl (in_right high low p c) ]
            ]
        | inr has ↦ inr (omega (arith, has.0, same), omega (arith, has.1, same))
      ]),
)

removed_right : (bound at : ℕ) (runs : List Extent) (low e : Extent) → at ≤ length runs
    → IsBetween bound (take at runs) (drop at runs) e → IsAt runs at low → low.first + low.pages ≡ e.first
    → IsJoinedRight bound at runs e (take at runs ++ drop (suc at) runs) (record { first = low.first; pages = low.pages + e.pages })
removed_right bound at runs low e within h is same =
    let high : List Extent = take at runs in
    let lower : List Extent = drop (suc at) runs in
    let joined : Extent = record { first = low.first; pages = low.pages + e.pages } in
    let split : runs ≡ high ++ low ∷ lower = split_run runs at low is in
    let long : length high ≡ at = length-take-le at runs within in
    let front : take at (high ++ lower) ≡ high = take_at high lower at long in
    let back : drop at (high ++ lower) ≡ lower = drop_at high lower at long in
    let rest : drop at runs ≡ low ∷ lower = ap (λ xs. drop at xs) split ∙ drop_at high (low ∷ lower) at long in
    let Between : List Extent → Type 0 = λ xs. IsBetween bound high xs e in
    let was : IsBetween bound high (low ∷ lower) e = subst Between rest h in
    let Low : List Extent → Type 0 = λ xs. IsBetween bound high xs joined in
    let High : List Extent → Type 0 = λ xs. IsBetween bound xs (drop at (high ++ lower)) joined in
    let Gap : List Extent → Type 0 = λ xs. EndBefore xs low.first in
    let Pages : List Extent → Type 0 = λ xs. (p : ℕ) → (InRun (high ++ lower) p ⊎ HasPage joined p) ↔ (InRun xs p ⊎ HasPage e p) in
    record {
      within = omega (arith, length-append high lower, long);
      between = subst High (sym front) (subst Low (sym back) (joined_between bound high lower low e was same));
      gap = subst Gap (sym back) (end_before low.first lower was.low_runs.2);
      pages = subst Pages (sym split) (λ p. joined_pages high lower low e p same h.some was.low_runs.0);
    }

pub joined_right : (bound at : ℕ) (runs : List Extent) (e : Extent) (new : List Extent) (joined : Extent) → at ≤ length runs
    → IsBetween bound (take at runs) (drop at runs) e → IsJoined runs at e new joined
    → IsJoinedRight bound at runs e new joined
joined_right bound at runs e new joined within h cases =
    elim cases [
      | inl stays ↦
          let New : List Extent → Type 0 = λ xs. IsJoinedRight bound at runs e xs joined in
          let Joined : Extent → Type 0 = λ x. IsJoinedRight bound at runs e runs x in
          subst New (sym stays.1) (subst Joined (sym stays.2)
          (record { within = within; between = h; gap = gap_below at runs e h.below stays.0; pages = λ p. (λ x. x, λ x. x) }))
      | inr taken ↦
          let New : List Extent → Type 0 = λ xs. IsJoinedRight bound at runs e xs joined in
          let Joined : Extent → Type 0 = λ x. IsJoinedRight bound at runs e (take at runs ++ drop (suc at) runs) x in
          subst New (sym taken.3) (subst Joined (sym taken.4) (removed_right bound at runs taken.0 e within h taken.1 taken.2))
    ]

-- ---- Put in its place.

edge_over : (bound at : ℕ) (runs : List Extent) (e : Extent) → at ≤ length runs → IsBetween bound (take at runs) (drop at runs) e
    → HasGapAbove runs at e → e.first + e.pages < edge bound (take at runs)
edge_over bound at runs e within h gap = elim (cases_eq at 0) [
  | inl none ↦
      let is : take at runs ≡ [] = rw none refl in
      rw is h.within
  | inr some ↦
      let d : Extent = record { first = 0; pages = 0 } in
      let is : take at runs ≡ take (at - 1) runs ++ get_or runs (at - 1) d ∷ [] = take_last runs at d (omega arith) within in
      let at_edge : edge bound (take at runs) ≡ (get_or runs (at - 1) d).first = rw is (edge_last bound (take (at - 1) runs) (get_or runs (at - 1) d)) in
      let not : e.first + e.pages ≡ (get_or runs (at - 1) d).first → ⊥ = gap (omega arith) d in
      omega (arith, at_edge, not, h.above)
]

-- the runs with the extent in them
pub record IsPutRight (bound : ℕ) (runs : List Extent) (e : Extent) (new : List Extent) : Type 0 where
  pub sound : AreRuns bound new
  pub pages : AddsPages runs e new

inserted_right : (bound at : ℕ) (runs : List Extent) (e : Extent) → at ≤ length runs
    → IsBetween bound (take at runs) (drop at runs) e → EndBefore (drop at runs) e.first → HasGapAbove runs at e
    → IsPutRight bound runs e (take at runs ++ e ∷ drop at runs)
inserted_right bound at runs e within h gap over =
    let high : List Extent = take at runs in
    let low : List Extent = drop at runs in
    let Pages : List Extent → Type 0 = λ xs. AddsPages xs e (high ++ e ∷ low) in
    record {
      sound =
          join_runs bound high (e ∷ low) h.high_runs (
            h.some,
            edge_over bound at runs e within h over,
            tighter (edge bound high) e.first low h.low_runs gap,
          );
      pages = subst Pages (take-append-drop at runs) (λ p. (
        λ i.
            elim (in_cases high (e ∷ low) p i) [
              | inl a ↦ inl (in_left high low p a)
              | inr b ↦ elim b [ inl here ↦ inr here | inr c ↦ inl (in_right high low p c) ]
            ],
        λ x.
            elim x [
              | inl i ↦ elim (in_cases high low p i) [ inl a ↦ in_left high (e ∷ low) p a | inr b ↦ in_right high (e ∷ low) p (inr b) ]
              | inr has ↦ in_right high (e ∷ low) p (inl has)
            ],
      ));
    }

joined_above : (bound : ℕ) (high low : List Extent) (s e : Extent) → IsBetween bound (high ++ s ∷ []) low e → EndBefore low e.first
    → e.first + e.pages ≡ s.first
    → IsPutRight bound ((high ++ s ∷ []) ++ low) e (high ++ record { first = e.first; pages = e.pages + s.pages } ∷ low)
joined_above bound high low s e h gap same =
    let joined : Extent = record { first = e.first; pages = e.pages + s.pages } in
    let there : AreRuns (edge bound high) (s ∷ []) = low_runs bound high (s ∷ []) h.high_runs in
    let front : AreRuns bound high = high_runs bound high (s ∷ []) h.high_runs in
    record {
      sound =
          join_runs bound high (joined ∷ low) front (
            omega (arith, h.some),
            omega (arith, there.1, same),
            tighter (edge bound (high ++ s ∷ [])) e.first low h.low_runs gap,
          );
      pages = λ p. (
        λ i.
            elim (in_cases high (joined ∷ low) p i) [
              | inl a ↦ inl (in_left (high ++ s ∷ []) low p (in_left high (s ∷ []) p a))
              | inr b ↦
                  elim b [
                    | inl here ↦
                        elim (cases_lt p s.first) [
                          | inl under ↦ inr (here.0, omega (arith, same))
                          | inr from ↦ inl (in_left (high ++ s ∷ []) low p (in_right high (s ∷ []) p (inl (from, omega (arith, here.1, same)))))
                        ]
                    | inr c ↦ inl (in_right (high ++ s ∷ []) low p c)
                  ]
            ],
        λ x.
            elim x [
              | inl i ↦
                  elim (in_cases (high ++ s ∷ []) low p i) [
                    | inl a ↦
                        elim (in_cases high (s ∷ []) p a) [
                          | inl a2 ↦ in_left high (joined ∷ low) p a2
                          | inr b ↦
                              elim b [
                                | inl here ↦ in_right high (joined ∷ low) p (inl (omega (arith, here.0, same), omega (arith, here.1, same)))
                                | inr nothing ↦ absurd nothing
                              ]
                        ]
                    | inr c ↦ in_right high (joined ∷ low) p (inr c)
                  ]
              | inr has ↦ in_right high (joined ∷ low) p (inl (has.0, omega (arith, has.1)))
            ],
      );
    }

put_joined : (bound at : ℕ) (runs : List Extent) (e : Extent) (new : List Extent) → at ≤ length runs
    → IsBetween bound (take at runs) (drop at runs) e → EndBefore (drop at runs) e.first
    → (high : Extent) × (0 < at) × IsAt runs (at - 1) high × (e.first + e.pages ≡ high.first)
    × (new ≡ set runs (at - 1) (record { first = e.first; pages = e.pages + high.pages }))
    → IsPutRight bound runs e new
put_joined bound at runs e new within h gap (s, some, is, same, to) =
    let joined : Extent = record { first = e.first; pages = e.pages + s.pages } in
    let high : List Extent = take (at - 1) runs in
    let low : List Extent = drop at runs in
    let next : suc (at - 1) ≡ at = omega (arith, some) in
    let last : take at runs ≡ high ++ s ∷ [] = take_last runs at s some within ∙ ap (λ x. high ++ x ∷ []) (is.1 s) in
    let Between : List Extent → Type 0 = λ xs. IsBetween bound xs low e in
    let right = joined_above bound high low s e (subst Between last h) gap same in
    let whole : (high ++ s ∷ []) ++ low ≡ runs = ap (λ xs. xs ++ low) (sym last) ∙ take-append-drop at runs in
    let Old : List Extent → Type 0 = λ xs. IsPutRight bound xs e (high ++ joined ∷ low) in
    let New : List Extent → Type 0 = λ xs. IsPutRight bound runs e xs in
    let new_is : new ≡ high ++ joined ∷ low = to ∙ set_split runs (at - 1) joined is.0 ∙ ap (λ n. high ++ joined ∷ drop n runs) next in
    subst New (sym new_is) (subst Old whole right)

pub put_right : (bound at : ℕ) (runs : List Extent) (e : Extent) (new : List Extent) → at ≤ length runs
    → IsBetween bound (take at runs) (drop at runs) e → EndBefore (drop at runs) e.first → IsPut runs at e new
    → IsPutRight bound runs e new
put_right bound at runs e new within h gap cases =
    let New : List Extent → Type 0 = λ xs. IsPutRight bound runs e xs in
    elim cases [
      | inl put ↦ subst New (sym put.1) (inserted_right bound at runs e within h gap put.0)
      | inr joined ↦ put_joined bound at runs e new within h gap joined
    ]

-- ---- The whole.

-- the runs once the extent is back
pub back_right : (bound at : ℕ) (runs : List Extent) (e : Extent) (runs1 : List Extent) (joined : Extent) (new : List Extent)
    → at ≤ length runs → IsBetween bound (take at runs) (drop at runs) e → IsJoined runs at e runs1 joined
    → IsPut runs1 at joined new → IsPutRight bound runs e new
back_right bound at runs e runs1 joined new within h join put =
    let a = joined_right bound at runs e runs1 joined within h join in
    let b = put_right bound at runs1 joined new a.within a.between a.gap put in
    record { sound = b.sound; pages = λ p. (λ i. (a.pages p).0 ((b.pages p).0 i), λ x. (b.pages p).1 ((a.pages p).1 x)) }

free_back : (front back : List Extent) (e : Extent) (p : ℕ) → IsFreePage (front ++ back) p → (HasPage e p → ⊥) → IsFreePage (front ++ e ∷ back) p
free_back [] back e p free lacks = (lacks, free)
free_back (d ∷ front) back e p free lacks = (free.0, free_back front back e p free.1 lacks)

-- the pages that are free once the extent is back
pub free_then : (map : RunState) (front back : List Extent) (e : Extent) (new : List Extent) → IsOut map (front ++ e ∷ back)
    → AddsPages map.free e new → (p : ℕ) → p < map.pages → InRun new p ↔ IsFreePage (front ++ back) p
free_then map front back e new is adds p under = (
  λ i.
      elim ((adds p).0 i) [
        | inl was ↦ all_without (λ x. HasPage x p → ⊥) front back e ((is.free p under).0 was)
        | inr has ↦ free_of_others front back e p is.placed.1 has
      ],
  λ free.
      elim (has_or_not e p) [
        | inl has ↦ (adds p).1 (inr has)
        | inr lacks ↦ (adds p).1 (inl ((is.free p under).1 (free_back front back e p free lacks)))
      ],
)

pub back_out : (map new : RunState) (front back : List Extent) (e : Extent) → IsOut map (front ++ e ∷ back)
    → IsPutRight (map.pages + 1) map.free e new.free → new.pages ≡ map.pages → new.extents ≡ map.extents → new.spare ≡ map.spare + 1
    → IsOut new (front ++ back)
back_out map new front back e is right same same_extents spare =
    let Placed : ℕ → Type 0 = λ n. AreOut n (front ++ back) in
    let Below : ℕ → Type 0 = λ n. AllByRecursion (λ run. run.first + run.pages ≤ n) new.free in
    record {
      placed = subst Placed (sym same) (all_without (LiesBelow map.pages) front back e is.placed.0, pairs_without front back e is.placed.1);
      free = λ p under. free_then map front back e new.free is right.pages p (omega (arith, same));
      below = subst Below (sym same) (below_pages map.pages new.free right.sound);
      count = omega (arith, is.count, same_extents, spare, length-append front (e ∷ back), length-append front back);
    }

pub lies : (map : RunState) (front back : List Extent) (e : Extent) → IsOut map (front ++ e ∷ back) → LiesBelow map.pages e
lies map front back e is = all_middle (LiesBelow map.pages) front back e is.placed.0

pub apart_of_free : (map : RunState) (front back : List Extent) (e : Extent) → AreRuns (map.pages + 1) map.free
    → IsOut map (front ++ e ∷ back) → (p : ℕ) → HasPage e p → InRun map.free p → ⊥
apart_of_free map front back e h is p has i =
    let at = lies map front back e is in
    all_middle (λ x. HasPage x p → ⊥) front back e ((is.free p (omega (arith, at.1, has.1))).0 i) has

-- there is room for the runs of then
pub room_then : (map : RunState) (front back : List Extent) (e : Extent) (new : List Extent) → IsOut map (front ++ e ∷ back)
    → IsPutRight (map.pages + 1) map.free e new → length new ≤ map.extents
room_then map front back e new is right =
    let free = free_then map front back e new is right.pages in
    let few = few_runs map.pages new (front ++ back) right.sound
    (λ p under. elim (held_or_free (front ++ back) p) [ inl held ↦ inr held | inr f ↦ inl ((free p under).1 f) ])
    (λ p i. (free p (below_limit map.pages new p right.sound i)).0 i) in
    omega (arith, few, is.count, length-append front (e ∷ back), length-append front back)

-- ---- What a search and the steps say.

-- the runs in front of the place begin at the page or after it, and the others before it
abbrev pub IsPlace : List Extent → ℕ → ℕ → Type 0
IsPlace runs first at = (at ≤ length runs) × BeginBefore first (drop at runs) × (0 < at → HoldsAt (λ run. first ≤ run.first) runs (at - 1))

-- An extent that is given back is out, and this is its place among the free runs.
pub record IsGiven (map : RunState) (front back : List Extent) (e : Extent) (at : ℕ) : Type 0 where
  pub was : IsOut map (front ++ e ∷ back)
  pub place : IsPlace map.free e.first at

-- the same of a state and of runs that are known under two names
pub given : (map now : RunState) (runs front back : List Extent) (e : Extent) (at : ℕ) → map ≡ now → runs ≡ map.free
    → IsOut now (front ++ e ∷ back) → IsPlace runs e.first at → IsGiven map front back e at
given map now runs front back e at same free is place =
    let Out : RunState → Type 0 = λ m. IsOut m (front ++ e ∷ back) in
    let Place : List Extent → Type 0 = λ xs. IsPlace xs e.first at in
    record { was = subst Out (sym same) is; place = subst Place free place }

pub between_out : (map : RunState) (front back : List Extent) (e : Extent) (at : ℕ) → AreRuns (map.pages + 1) map.free
    → IsOut map (front ++ e ∷ back) → IsPlace map.free e.first at
    → IsBetween (map.pages + 1) (take at map.free) (drop at map.free) e
between_out map front back e at h is place =
    let low = lies map front back e is in
    between_at (map.pages + 1) at map.free e h place.0 low.0 (omega (arith, low.1)) (apart_of_free map front back e h is) place.1 place.2

pub joined_out : (map : RunState) (front back : List Extent) (e : Extent) (at : ℕ) (runs1 : List Extent) (joined : Extent)
    → AreRuns (map.pages + 1) map.free → IsOut map (front ++ e ∷ back) → IsPlace map.free e.first at
    → IsJoined map.free at e runs1 joined → IsJoinedRight (map.pages + 1) at map.free e runs1 joined
joined_out map front back e at runs1 joined h is place join =
    joined_right (map.pages + 1) at map.free e runs1 joined place.0 (between_out map front back e at h is place) join

pub joined_runs : (bound at : ℕ) (runs : List Extent) (e : Extent) (runs1 : List Extent) (joined : Extent)
    → IsJoinedRight bound at runs e runs1 joined → AreRuns bound runs1
joined_runs bound at runs e runs1 joined h =
    let Runs : List Extent → Type 0 = λ xs. AreRuns bound xs in
    subst Runs (take-append-drop at runs1) (join_runs bound (take at runs1) (drop at runs1) h.between.high_runs h.between.low_runs)

pub put_out : (map : RunState) (front back : List Extent) (e : Extent) (at : ℕ) (runs1 : List Extent) (joined : Extent) (new : List Extent)
    → AreRuns (map.pages + 1) map.free → IsOut map (front ++ e ∷ back) → IsPlace map.free e.first at
    → IsJoined map.free at e runs1 joined → IsPut runs1 at joined new → IsPutRight (map.pages + 1) map.free e new
put_out map front back e at runs1 joined new h is place join put =
    back_right (map.pages + 1) at map.free e runs1 joined new place.0 (between_out map front back e at h is place) join put

-- there is room where the extent is put between two runs
pub room_out : (map : RunState) (front back : List Extent) (e : Extent) (at : ℕ) (runs1 : List Extent) (joined : Extent)
    → AreRuns (map.pages + 1) map.free → IsOut map (front ++ e ∷ back) → IsPlace map.free e.first at
    → IsJoined map.free at e runs1 joined → HasGapAbove runs1 at joined → length runs1 < map.extents
room_out map front back e at runs1 joined h is place join gap =
    let right = joined_out map front back e at runs1 joined h is place join in
    let put = put_out map front back e at runs1 joined (insert runs1 at joined) h is place join (inl (gap, refl)) in
    omega (arith, room_then map front back e (insert runs1 at joined) is put, length-insert runs1 at joined right.within)
