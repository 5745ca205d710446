-- Where a segment has run, tasks are sealed: a new Task is one of the running segment, which is of its domain.
use Rattle.std.proofs.Common.{◌≡◌, ℕ, ◌<◌, ◌≤◌, ◌⊎◌, inl, inr, length, Contains, Some, slice_get, sym, ap, subst, ◌∙◌}
use Rattle.std.proofs.lemmas.Option.{same_Some}
use Rattle.jk_model.specs.declared.identifiers.SegmentNo.{SegmentNo}
use Rattle.jk_model.specs.declared.identifiers.ThreadNo.{ThreadNo}
use Rattle.jk_model_domains.specs.Objects.{NamedObject, Task}
use Rattle.jk_model_heaps.specs.Workings.{Inside}
use Rattle.jk_model_machine_state.specs.Machines.{DomainState, Machine, Segment, Thread}
use Rattle.jk_model_runs.specs.Sealed.{AreSealedTasks}
use Rattle.list_lemmas.proofs.ItemsOfLists.{Contains-at, place_of}
use Rattle.heap_laws.proofs.ObjectsAfterChanges.{found_stands, stands_found}
use Rattle.machine_laws.proofs.SegmentsThatRan.{HasRun, after, each_inside, home_there, stood, thread_there}
use Rattle.machine_laws.proofs.ThreadsAfterRuns.{running_at, was_segment}

abbrev task_at : ℕ → SegmentNo → NamedObject
task_at a n = record { name = a; object = Task n }

module _ (m : Machine) (t : ThreadNo) (r : HasRun m t) where
  -- a Task of the domain was there, or is one of the running segment
  old_or_own : (a : ℕ) (n : SegmentNo) → Contains r.inside.heap (task_at a n)
      → Contains r.place.home.inside.heap (task_at a n) ⊎ (n ≡ r.place.segment.shared.number)
  old_or_own a n there =
      let place = place_of r.inside.heap (task_at a n) there in
      elim (r.keeps.tasks a n (stands_found r.inside.heap place.0 (task_at a n) r.keeps.sealed.names_differ place.1)) [
        | inl old ↦ inl (found_stands a (Task n) r.place.home.inside.heap old)
        | inr own ↦ inr own
      ]

  WasGiven : SegmentNo → Type 0
  WasGiven n = (1 ≤ n.0) × (n.0 < m.next_segment)

  running_there : Contains r.place.thread.segments r.place.segment
  running_there = Contains-at r.place.thread.segments (length r.place.lower) r.place.segment (running_at m t r)

  given_here : (a : ℕ) (n : SegmentNo) → Contains r.inside.heap (task_at a n) → WasGiven n
  unfolding WasGiven
  given_here a n there = elim (old_or_own a n there) [
    | inl old ↦ r.sealed.tasks.given_out r.place.home.domain r.place.home.inside a n (home_there m t r) r.place.home.is_inside old
    | inr own ↦
        subst (λ (k : SegmentNo). (1 ≤ k.0) × (k.0 < m.next_segment)) (sym own)
        (r.sealed.threads.segments_before r.place.thread r.place.segment (thread_there m t r) running_there)
  ]

  -- a segment of a number that stands in the machine
  record StandsAt (n : SegmentNo) (s : Segment) : Type 0 where
    thread : Thread
    i : ℕ
    k : ℕ
    at : slice_get m.threads i ≡ Some thread
    stands : slice_get thread.segments k ≡ Some s
    number : s.shared.number ≡ n

  own_here : (a : ℕ) (n : SegmentNo) (s : Segment) → StandsAt n s → Contains r.inside.heap (task_at a n)
      → s.shared.domain ≡ r.place.home.domain.number
  own_here a n s p there = by (old_or_own a n there)
    where
      by : Contains r.place.home.inside.heap (task_at a n) ⊎ (n ≡ r.place.segment.shared.number) → s.shared.domain ≡ r.place.home.domain.number
      by (inl old) =
          r.sealed.tasks.own r.place.home.domain r.place.home.inside a p.thread s (home_there m t r) r.place.home.is_inside
          (subst (λ (k : SegmentNo). Contains r.place.home.inside.heap (task_at a k)) (sym p.number) old)
          (Contains-at m.threads p.i p.thread p.at) (Contains-at p.thread.segments p.k s p.stands)
      by (inr own) =
          let same = r.sealed.threads.segments_differ p.i (stood m t r).0 p.k (length r.place.lower) p.thread r.place.thread s r.place.segment
          p.at (stood m t r).1 p.stands (running_at m t r) (p.number ∙ own) in
          let one : p.thread ≡ r.place.thread =
          same_Some p.thread r.place.thread (sym p.at ∙ ap (slice_get m.threads) same.0 ∙ (stood m t r).1) in
          let is : s ≡ r.place.segment =
          same_Some s r.place.segment
          (sym p.stands ∙ ap (λ (x : Thread). slice_get x.segments p.k) one ∙ ap (slice_get r.place.thread.segments) same.1 ∙ running_at m t r) in
          ap (λ (x : Segment). x.shared.domain) is ∙ sym r.place.home.numbered

  own_everywhere : (a : ℕ) (n : SegmentNo) (s : Segment) → StandsAt n s → (d : DomainState) (inside : Inside) → Contains (after r).domains d
      → d.inside ≡ Some inside → Contains inside.heap (task_at a n) → s.shared.domain ≡ d.number
  own_everywhere a n s p =
      each_inside m t r (λ d inside. Contains inside.heap (task_at a n) → s.shared.domain ≡ d.number) (own_here a n s p)
      (λ i e x differ at is there.
      r.sealed.tasks.own e x a p.thread s (Contains-at m.domains i e at) is
      (subst (λ (k : SegmentNo). Contains x.heap (task_at a k)) (sym p.number) there)
      (Contains-at m.threads p.i p.thread p.at) (Contains-at p.thread.segments p.k s p.stands))

  pub tasks_sealed : AreSealedTasks (after r)
  unfolding WasGiven
  tasks_sealed = record {
    given_out = λ d inside a n on is there.
        each_inside m t r (λ e x. Contains x.heap (task_at a n) → WasGiven n) (given_here a n)
        (λ i e x differ at has held. r.sealed.tasks.given_out e x a n (Contains-at m.domains i e at) has held) d inside on is there;
    own = λ d inside a thread s on is there of_thread of.
        let at = place_of (after r).threads thread of_thread in
        let k = place_of thread.segments s of in
        let was = was_segment m t r at.0 k.0 thread s at.1 k.1 in
        was.domain
        ∙ own_everywhere a s.shared.number was.before
        (record { thread = was.thread; i = at.0; k = k.0; at = was.at; stands = was.stood_there; number = sym was.number }) d inside on is there;
  }
