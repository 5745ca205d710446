-- The threads that end with a domain are told in rising number: those up to a number have been told, and the least one above it is the next.
use Rattle.std.proofs.Common.{◌≡◌, ◌⊎◌, ℕ, suc, ◌<◌, ◌≤◌, inl, inr, Bool, true, false, not, cond, filter, List, [], ◌∷◌, ◌++◌, append_assoc, append-nil, map, slice_get, Contains, Some, None, refl, sym, ap, subst, ◌∙◌, arith}
use Rattle.std.specs.Prelude.{⊤}
use Rattle.std.proofs.lemmas.List.Elements.{Contains-append_cases, Contains-append_right}
use Rattle.jk_model.specs.declared.identifiers.DomainId.{DomainId}
use Rattle.jk_model.specs.declared.identifiers.ThreadNo.{ThreadNo}
use Rattle.jk_model.specs.declared.output.Line.{Line}
use Rattle.jk_model.specs.declared.output.Line.TheVariants.{EndedByKill}
use Rattle.jk_model_sharing.specs.Segments.{SharedSegment, SharedThread, has_segments, segments_left, shared_form, with_segments}
use Rattle.jk_model_sharing.specs.SharedStates.{SharedState}
use Rattle.list_lemmas.proofs.ItemsOfLists.{Contains-cases, Contains-here, Contains-none, place_of}
use Rattle.list_lemmas.proofs.ItemsThatPass.{Contains-filter}
use Rattle.heap_laws.proofs.MappedLists.{mapped, mapped_from}
use Rattle.machine_laws.proofs.FilteredItems.{filtered_from, filtered_passes}
use Rattle.machine_parts.specs.EndedParts.{ended_threads}
use Rattle.thread_segments.specs.Answers.{EndsWith, IsLeastAbove}
use Rattle.thread_segments.specs.SoundStates.{AreSound}
use Rattle.domain_ends.specs.EndingLines.{lines_of_threads}

-- ---- Lists in rising number.

abbrev pub Rises : List SharedThread → Type 0
Rises [] = ⊤
Rises (x ∷ xs) = ((y : SharedThread) → Contains xs y → x.number.0 < y.number.0) × Rises xs

rises_by_place : (xs : List SharedThread)
    → ((i j : ℕ) (t u : SharedThread) → i < j → slice_get xs i ≡ Some t → slice_get xs j ≡ Some u → t.number.0 < u.number.0) → Rises xs
rises_by_place [] h = tt
rises_by_place (x ∷ xs) h = (
  λ y there. let at = place_of xs y there in h 0 (suc at.0) x y (omega arith) refl at.1,
  rises_by_place xs (λ i j t u less at there. h (suc i) (suc j) t u (omega (arith, less)) at there),
)

rises_mapped : (f : SharedThread → SharedThread) → ((x : SharedThread) → (f x).number ≡ x.number) → (xs : List SharedThread) → Rises xs
    → Rises (map f xs)
rises_mapped f same [] h = tt
rises_mapped f same (x ∷ xs) h = (
  λ y there.
      let from = mapped_from f xs y there in
      let less = h.0 from.0 from.1 in
      let first = ap (λ (n : ThreadNo). n.0) (same x) in
      let second = ap (λ (n : ThreadNo). n.0) (sym (same from.0) ∙ ap (λ (e : SharedThread). e.number) from.2) in
      omega (arith, less, first, second),
  rises_mapped f same xs h.1,
)

filtered_by : (b : Bool) (p : SharedThread → Bool) (x : SharedThread) (xs : List SharedThread)
    → ((y : SharedThread) → Contains xs y → x.number.0 < y.number.0) → Rises (filter p xs) → Rises (cond b (x ∷ filter p xs) (filter p xs))
filtered_by true p x xs first rest = (λ y there. first y (filtered_from p xs y there), rest)
filtered_by false p x xs first rest = rest

rises_filtered : (p : SharedThread → Bool) (xs : List SharedThread) → Rises xs → Rises (filter p xs)
rises_filtered p [] h = tt
rises_filtered p (x ∷ xs) h = filtered_by (p x) p x xs h.0 (rises_filtered p xs h.1)

pub ended_rise : (d : DomainId) (s : SharedState) → AreSound s → Rises (ended_threads d s)
ended_rise d s sound =
    rises_filtered (λ t. not (has_segments t)) (map (with_segments (segments_left shared_form d)) s.threads)
    (rises_mapped (with_segments (segments_left shared_form d)) (λ x. refl) s.threads (rises_by_place s.threads sound.threads.rise))

-- ---- The threads that end.

none_left : (t : SharedThread) (segments : List SharedSegment) → not (has_segments (record t { segments = segments })) ≡ true → segments ≡ []
none_left t [] is = refl
none_left t (s ∷ more) is = absurd cc

ended_so : (d : DomainId) (s : SharedState) (x : SharedThread) → Contains (ended_threads d s) x → EndsWith s.threads d x.number.0
ended_so d s x there =
    let all = map (with_segments (segments_left shared_form d)) s.threads in
    let from = mapped_from (with_segments (segments_left shared_form d)) s.threads x (filtered_from (λ t. not (has_segments t)) all x there) in
    let passes : not (has_segments (with_segments (segments_left shared_form d) from.0)) ≡ true =
    ap (λ (t : SharedThread). not (has_segments t)) from.2 ∙ filtered_passes (λ t. not (has_segments t)) all x there in (
      from.0,
      from.1,
      ap (λ (t : SharedThread). t.number.0) from.2,
      none_left from.0 (segments_left shared_form d from.0.segments) passes,
    )

so_ended : (d : DomainId) (s : SharedState) (t : ℕ) → EndsWith s.threads d t
    → (x : SharedThread) × Contains (ended_threads d s) x × (x.number.0 ≡ t)
so_ended d s t (e, there, number, none) =
    let all = map (with_segments (segments_left shared_form d)) s.threads in
    let x = with_segments (segments_left shared_form d) e in
    let passes : not (has_segments x) ≡ true =
    ap (λ (segments : List SharedSegment). not (has_segments (record e { segments = segments }))) none in (
      x,
      Contains-filter (λ y. not (has_segments y)) all x (mapped (with_segments (segments_left shared_form d)) s.threads e there) passes,
      number,
    )

-- ---- How far they have been told.

-- those up to this number, and those above it
pub record ToldUpTo (d : DomainId) (s : SharedState) (above : ℕ) : Type 0 where
  pub front : List SharedThread
  pub back : List SharedThread
  pub are : ended_threads d s ≡ front ++ back
  pub below : (x : SharedThread) → Contains front x → x.number.0 ≤ above
  pub beyond : (x : SharedThread) → Contains back x → above < x.number.0
  pub rises : Rises back

-- each thread's number is above 0
pub none_told : (d : DomainId) (s : SharedState) → AreSound s → ToldUpTo d s 0
none_told d s sound = record {
  front = [];
  back = ended_threads d s;
  are = refl;
  below = λ x there. absurd (Contains-none x there);
  beyond = λ x there.
      let e = ended_so d s x there in
      let low = (sound.threads.before e.0 e.1).0 in
      let number = e.2 in
      omega (arith, low, number);
  rises = ended_rise d s sound;
}

pub none_in_front : (d : DomainId) (s : SharedState) (sound : AreSound s) → (none_told d s sound).front ≡ []
unfolding none_told
none_in_front d s sound = refl

-- the next one
pub record TellsOn {d : DomainId} {s : SharedState} {above : ℕ} (told : ToldUpTo d s above) (t : ThreadNo) : Type 0 where
  pub then : ToldUpTo d s t.0
  pub lines : lines_of_threads then.front ≡ lines_of_threads told.front ++ EndedByKill t ∷ []

module _ (d : DomainId) (s : SharedState) (above : ℕ) (told : ToldUpTo d s above) where
  mapped_last : (xs : List SharedThread) (x : SharedThread) → lines_of_threads (xs ++ x ∷ []) ≡ lines_of_threads xs ++ EndedByKill x.number ∷ []
  mapped_last [] x = refl
  mapped_last (y ∷ xs) x = ap (λ (ls : List Line). EndedByKill y.number ∷ ls) (mapped_last xs x)

  last_cases : (xs : List SharedThread) (x y : SharedThread) → Contains (xs ++ x ∷ []) y → Contains xs y ⊎ (x ≡ y)
  last_cases xs x y there = elim (Contains-append_cases xs (x ∷ []) y there) [
    | inl front ↦ inl front
    | inr last ↦ elim (Contains-cases y x [] last) [
      | inl same ↦ inr same
      | inr none ↦ absurd (Contains-none y none)
    ]
  ]

  one_on : (x : SharedThread) (rest : List SharedThread) (t : ThreadNo) → told.back ≡ x ∷ rest → x.number.0 ≡ t.0 → TellsOn told t
  one_on x rest t is number =
      let rises = subst Rises is told.rises in
      let first = told.beyond x (subst (λ (ys : List SharedThread). Contains ys x) (sym is) (Contains-here x rest)) in
      record {
        then = record {
          front = told.front ++ x ∷ [];
          back = rest;
          are = told.are ∙ ap (λ (ys : List SharedThread). told.front ++ ys) is ∙ sym (append_assoc told.front (x ∷ []) rest);
          below = λ y there. elim (last_cases told.front x y there) [
            | inl front ↦ let low = told.below y front in omega (arith, low, first, number)
            | inr same ↦ let e = ap (λ (z : SharedThread). z.number.0) same in omega (arith, e, number)
          ];
          beyond = λ y there. let less = rises.0 y there in omega (arith, less, number);
          rises = rises.1;
        };
        lines = mapped_last told.front x
            ∙ (λ i. lines_of_threads told.front ++ EndedByKill (record { 0 = number i }) ∷ []);
      }

  next_by : (back : List SharedThread) → told.back ≡ back → (t : ThreadNo) → EndsWith s.threads d t.0 → above < t.0
      → ((other : ℕ) → EndsWith s.threads d other → above < other → t.0 ≤ other) → TellsOn told t
  next_by back is t ends less least =
      let x = so_ended d s t.0 ends in
      let either = Contains-append_cases told.front told.back x.0 (subst (λ (ys : List SharedThread). Contains ys x.0) told.are x.1) in
      elim either [
        | inl front ↦ let low = told.below x.0 front in let number = x.2 in absurd (omega (arith, low, number, less))
        | inr there ↦ in_back back is (subst (λ (ys : List SharedThread). Contains ys x.0) is there) x.2
      ]
    where
      in_back : (ys : List SharedThread) → told.back ≡ ys → Contains ys (so_ended d s t.0 ends).0 → (so_ended d s t.0 ends).0.number.0 ≡ t.0
          → TellsOn told t
      in_back [] e there number = absurd (Contains-none (so_ended d s t.0 ends).0 there)
      in_back (y ∷ rest) e there number =
          let rises = subst Rises e told.rises in
          let in_it : Contains told.back y = subst (λ (zs : List SharedThread). Contains zs y) (sym e) (Contains-here y rest) in
          let first = told.beyond y in_it in
          let at_least = least y.number.0
          (ended_so d s y (subst (λ (zs : List SharedThread). Contains zs y) (sym told.are) (Contains-append_right told.front told.back y in_it))) first in
          let at_most : y.number.0 ≤ t.0 = elim (Contains-cases (so_ended d s t.0 ends).0 y rest there) [
            | inl same ↦ let n = ap (λ (z : SharedThread). z.number.0) same in omega (arith, n, number)
            | inr after ↦ let below = rises.0 (so_ended d s t.0 ends).0 after in omega (arith, below, number)
          ] in
          one_on y rest t e (omega (arith, at_least, at_most))

  pub next_told : (t : ThreadNo) → IsLeastAbove (EndsWith s.threads d) above (Some t.0) → TellsOn told t
  next_told t (ends, less, least) = next_by told.back refl t ends less least

  -- where none is above it, all have been told
  all_by : (back : List SharedThread) → told.back ≡ back → ((t : ℕ) → EndsWith s.threads d t → t ≤ above)
      → lines_of_threads told.front ≡ lines_of_threads (ended_threads d s)
  all_by [] is none =
      sym (ap lines_of_threads (told.are ∙ ap (λ (ys : List SharedThread). told.front ++ ys) is ∙ append-nil told.front))
  all_by (y ∷ rest) is none =
      let in_it : Contains told.back y = subst (λ (zs : List SharedThread). Contains zs y) (sym is) (Contains-here y rest) in
      let first = told.beyond y in_it in
      let low = none y.number.0
      (ended_so d s y (subst (λ (zs : List SharedThread). Contains zs y) (sym told.are) (Contains-append_right told.front told.back y in_it))) in
      absurd (omega (arith, first, low))

  pub all_told : IsLeastAbove (EndsWith s.threads d) above None → lines_of_threads told.front ≡ lines_of_threads (ended_threads d s)
  all_told none = all_by told.back refl none

-- a thread's number was given out
pub before_next : (d : DomainId) (s : SharedState) → AreSound s → (t : ℕ) → EndsWith s.threads d t → t < s.next_thread
before_next d s sound t (e, there, number, none) = (let before = (sound.threads.before e there).1 in omega (arith, before, number))
