-- How many chunks a domain uses where the segments of one thread are others, and where a thread is gone.
use Rattle.std.proofs.Common.{◌≡◌, ◌≢◌, ℕ, zero, suc, ◌+◌, ◌==◌, Bool, true, false, not, cond, List, [], ◌∷◌, ◌++◌, append_assoc, filter, map, set, sum_by, slice_get, Some, refl, sym, ap, ◌∙◌, arith, eq-eqb}
use Rattle.std.proofs.lemmas.Bool.{cond-true, eqb-true}
use Rattle.std.proofs.lemmas.List.Sums.{sum_by-cons, sum_by_push}
use Rattle.std.proofs.lemmas.Option.{same_Some}
use Rattle.jk_model.specs.declared.identifiers.DomainId.{DomainId}
use Rattle.jk_model.specs.declared.identifiers.ThreadNo.{ThreadNo}
use Rattle.jk_model_machine_state.specs.Machines.{Machine, Segment, Thread, chunks_of, chunks_used, with_segments, without_thread}
use Rattle.jk_model_machine_state.specs.Places.{RunningSegment, without_top}
use Rattle.machine_laws.proofs.ChangedItems.{one_changed, sum_changed}
use Rattle.machine_laws.proofs.RunningSegmentsFit.{thread_place}
use Rattle.machine_laws.proofs.RunsAgain.{set_segments}
use Rattle.machine_parts.specs.ChangedParts.{AreSegmentsApart}

-- ---- Sums over lists without one item.

none_pass : {X : Type 0} (f : X → ℕ) (test : X → Bool) (xs : List X) → ((j : ℕ) (y : X) → slice_get xs j ≡ Some y → test y ≡ false)
    → sum_by f (filter (λ y. not (test y)) xs) ≡ sum_by f xs
none_pass f test [] h = refl
none_pass f test (x ∷ xs) h = by (test x) (h 0 x refl) (none_pass f test xs (λ j y at. h (suc j) y at))
  where
    by : (b : Bool) → b ≡ false → sum_by f (filter (λ y. not (test y)) xs) ≡ sum_by f xs
        → sum_by f (cond (not b) (x ∷ filter (λ y. not (test y)) xs) (filter (λ y. not (test y)) xs)) ≡ sum_by f (x ∷ xs)
    by true e rest = absurd cc
    by false e rest =
        sum_by-cons f x (filter (λ y. not (test y)) xs) ∙ ap (λ (n : ℕ). f x + n) rest ∙ sym (sum_by-cons f x xs)

sum_without : {X : Type 0} (f : X → ℕ) (test : X → Bool) (xs : List X) (i : ℕ) (x : X) → slice_get xs i ≡ Some x → test x ≡ true
    → ((j : ℕ) (y : X) → slice_get xs j ≡ Some y → test y ≡ true → j ≡ i) → sum_by f (filter (λ y. not (test y)) xs) + f x ≡ sum_by f xs
sum_without f test [] i x at is one = absurd cc
sum_without {X = X} f test (y ∷ xs) zero x at is one = by (test y) (ap test same ∙ is)
  where
    same : y ≡ x
    same = same_Some y x at

    no : (b : Bool) (j : ℕ) (z : X) → slice_get xs j ≡ Some z → test z ≡ b → test z ≡ false
    no true j z there e = (let never = one (suc j) z there e in absurd (omega (arith, never)))
    no false j z there e = e

    by : (b : Bool) → b ≡ true
        → sum_by f (cond (not b) (y ∷ filter (λ z. not (test z)) xs) (filter (λ z. not (test z)) xs)) + f x ≡ sum_by f (y ∷ xs)
    by false e = absurd cc
    by true e =
        let rest = none_pass f test xs (λ j z there. no (test z) j z there refl) in
        let all = sum_by-cons f y xs in
        let first = ap f same in
        omega (arith, rest, all, first)
sum_without f test (y ∷ xs) (suc i) x at is one =
    by (test y) refl (sum_without f test xs i x at is (λ j z there passes. omega (arith, one (suc j) z there passes)))
  where
    by : (b : Bool) → test y ≡ b → sum_by f (filter (λ z. not (test z)) xs) + f x ≡ sum_by f xs
        → sum_by f (cond (not b) (y ∷ filter (λ z. not (test z)) xs) (filter (λ z. not (test z)) xs)) + f x ≡ sum_by f (y ∷ xs)
    by true e rest = (let never = one 0 y refl e in absurd (omega (arith, never)))
    by false e rest =
        let all = sum_by-cons f y xs in
        let first = sum_by-cons f y (filter (λ z. not (test z)) xs) in
        omega (arith, rest, all, first)

-- ---- Threads of a machine.

module _ (m : Machine) (t : ThreadNo) (r : RunningSegment m t) (apart : AreSegmentsApart m) where
  abbrev place : (i : ℕ) × (slice_get m.threads i ≡ Some r.thread) × (r.thread.number.0 ≡ t.0)
  place = thread_place m t r

  -- it stands at one place
  one_place : (i : ℕ) (x : Thread) → slice_get m.threads i ≡ Some x → (x.number.0 == t.0) ≡ true → i ≡ place.0
  one_place i x at same =
      apart.threads i place.0 x r.thread at place.1 (λ j. record { 0 = (eqb-true x.number.0 t.0 same ∙ sym place.2) j })

  threads_are : (next : List Segment) → map (set_segments t next) m.threads ≡ set m.threads place.0 (record r.thread { segments = next })
  threads_are next =
      one_changed (set_segments t next) m.threads place.0 r.thread place.1 (λ i x differ at. kept i x differ at (x.number.0 == t.0) refl)
      ∙ ap (set m.threads place.0)
      (cond-true (r.thread.number.0 == t.0) (record r.thread { segments = next }) r.thread (eq-eqb r.thread.number.0 t.0 place.2))
    where
      kept : (i : ℕ) (x : Thread) → i ≢ place.0 → slice_get m.threads i ≡ Some x → (b : Bool) → (x.number.0 == t.0) ≡ b
          → cond b (record x { segments = next }) x ≡ x
      kept i x differ at false none = refl
      kept i x differ at true same = absurd (differ (one_place i x at same))

  module _ (d : DomainId) where
    abbrev of_thread : Thread → ℕ
    of_thread x = sum_by (chunks_of d) x.segments

    before : of_thread r.thread ≡ sum_by (chunks_of d) r.lower + chunks_of d r.segment
    before = ap (sum_by (chunks_of d)) r.are_segments ∙ sum_by_push (chunks_of d) r.lower r.segment

    count_set : (next : List Segment) → chunks_used (with_segments t next m) d + of_thread r.thread ≡ chunks_used m d + sum_by (chunks_of d) next
    count_set next =
        ap (λ (ts : List Thread). sum_by of_thread ts + of_thread r.thread) (threads_are next)
        ∙ sum_changed of_thread m.threads place.0 r.thread (record r.thread { segments = next }) place.1

    pub count_below : chunks_used (without_top r) d + chunks_of d r.segment ≡ chunks_used m d
    count_below =
        less (chunks_used (without_top r) d) (of_thread r.thread) (chunks_used m d) (sum_by (chunks_of d) r.lower) (chunks_of d r.segment)
        (count_set r.lower) before
      where
        less : (new all old lower top : ℕ) → new + all ≡ old + lower → all ≡ lower + top → new + top ≡ old
        less new all old lower top a b = omega arith

    pub count_running : (s : Segment)
        → chunks_used (with_segments t (r.lower ++ s ∷ []) m) d + chunks_of d r.segment ≡ chunks_used m d + chunks_of d s
    count_running s =
        other (chunks_used (with_segments t (r.lower ++ s ∷ []) m) d) (of_thread r.thread) (chunks_used m d)
        (sum_by (chunks_of d) (r.lower ++ s ∷ [])) (sum_by (chunks_of d) r.lower) (chunks_of d r.segment) (chunks_of d s)
        (count_set (r.lower ++ s ∷ [])) before (sum_by_push (chunks_of d) r.lower s)
      where
        other : (new all old next lower top s : ℕ) → new + all ≡ old + next → all ≡ lower + top → next ≡ lower + s → new + top ≡ old + s
        other new all old next lower top s a b c = omega arith

    pub count_pushed : (called added : Segment)
        → chunks_used (with_segments t (r.lower ++ called ∷ added ∷ []) m) d + chunks_of d r.segment
        ≡ chunks_used m d + (chunks_of d called + chunks_of d added)
    count_pushed called added =
        other (chunks_used (with_segments t (r.lower ++ called ∷ added ∷ []) m) d) (of_thread r.thread) (chunks_used m d)
        (sum_by (chunks_of d) (r.lower ++ called ∷ added ∷ [])) (sum_by (chunks_of d) r.lower) (chunks_of d r.segment) (chunks_of d called)
        (chunks_of d added) (count_set (r.lower ++ called ∷ added ∷ [])) before both
      where
        both : sum_by (chunks_of d) (r.lower ++ called ∷ added ∷ []) ≡ sum_by (chunks_of d) r.lower + chunks_of d called + chunks_of d added
        both =
            ap (sum_by (chunks_of d)) (sym (append_assoc r.lower (called ∷ []) (added ∷ [])))
            ∙ sum_by_push (chunks_of d) (r.lower ++ called ∷ []) added
            ∙ ap (λ (n : ℕ). n + chunks_of d added) (sum_by_push (chunks_of d) r.lower called)

        other : (new all old next lower top s u : ℕ) → new + all ≡ old + next → all ≡ lower + top → next ≡ lower + s + u
            → new + top ≡ old + (s + u)
        other new all old next lower top s u a b c = omega arith

    pub count_gone : r.lower ≡ [] → chunks_used (without_thread t m) d + chunks_of d r.segment ≡ chunks_used m d
    count_gone lowest =
        less (chunks_used (without_thread t m) d) (of_thread r.thread) (chunks_used m d) (sum_by (chunks_of d) r.lower) (chunks_of d r.segment)
        (sum_without of_thread (λ (x : Thread). x.number.0 == t.0) m.threads place.0 r.thread place.1 (eq-eqb r.thread.number.0 t.0 place.2)
        (λ j y there is. one_place j y there is)) before (ap (sum_by (chunks_of d)) lowest)
      where
        less : (new all old lower top : ℕ) → new + all ≡ old → all ≡ lower + top → lower ≡ 0 → new + top ≡ old
        less new all old lower top a b c = omega arith
