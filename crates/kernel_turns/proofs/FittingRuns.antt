-- Where a thread's top segment has run over the contents of the stores, the parts fit again.
use Rattle.std.proofs.Common.{◌≡◌, ◌≢◌, ℕ, ◌+◌, ◌==◌, inl, inr, Bool, true, false, cond, List, [], ◌∷◌, ◌++◌, map, set, sum_by, slice_get, slice_set, Contains, Option, Some, is_some, refl, sym, ap, ◌∙◌, arith, eq-eqb, ne_eqb}
use Rattle.std.specs.Option.{option_map_or}
use Rattle.std.proofs.lemmas.Bool.{cases_eq}
use Rattle.std.proofs.lemmas.List.{length-set}
use Rattle.std.proofs.lemmas.List.Sums.{sum_by_push}
use Rattle.std.proofs.lemmas.Option.{same_Some}
use Rattle.jk_model.specs.declared.identifiers.DomainId.{DomainId}
use Rattle.jk_model.specs.declared.identifiers.SegmentNo.{SegmentNo}
use Rattle.jk_model.specs.declared.identifiers.ThreadNo.{ThreadNo}
use Rattle.jk_model_frames.specs.Frames.{FrameState, frames_chunks}
use Rattle.jk_model_heaps.specs.Heaps.{heap_words}
use Rattle.jk_model_heaps.specs.Workings.{Run}
use Rattle.jk_model_sharing.specs.Segments.{SharedSegment, SharedThread}
use Rattle.jk_model_machine_state.specs.Machines.{Machine, Segment, Thread, chunks_of, chunks_used, with_segments}
use Rattle.jk_model_machine_state.specs.Places.{RunningSegment}
use Rattle.list_lemmas.proofs.ItemsByPlace.{slice_get-set_cases}
use Rattle.frame_store.specs.FrameContents.{StoredSegment}
use Rattle.machine_laws.proofs.ChangedItems.{one_changed, sum_changed}
use Rattle.machine_laws.proofs.DomainsAfterRuns.{costs_elsewhere, costs_here}
use Rattle.machine_laws.proofs.RunningSegmentsFit.{thread_place}
use Rattle.machine_parts.specs.ChangedParts.{AreSegmentsApart}
use Rattle.machine_parts.specs.FittingParts.{AreFittingParts}
use Rattle.machine_parts.specs.MachineParts.{frames_in, machine_of}
use Rattle.step_contents.specs.Contents.{Becomes, Contents}
use Rattle.kernel_parts.specs.SoundKernels.{KernelContent, kernel_machine, parts_of}
use Rattle.kernel_turns.specs.RunningPlaces.{RunsAt, contents_at, here_in}
use Rattle.domain_crossing.proofs.FitsAgain.{KeepsOwns, fits_again, same_shared}
use Rattle.kernel_turns.proofs.PlacedThreads.{own_at, place, stored, thread_found}
use Rattle.kernel_turns.proofs.RanParts.{after, has_run}

-- ---- Chunks: where the running segment becomes another one, the domains use as many more or fewer as that costs.

module _ (m : Machine) (t : ThreadNo) (p : RunningSegment m t) (s : Segment) (apart : AreSegmentsApart m) where
  abbrev of_thread : DomainId → Thread → ℕ
  of_thread e thread = sum_by (chunks_of e) thread.segments

  abbrev changes : Thread → Thread
  changes e = cond (e.number.0 == t.0) (record e { segments = p.lower ++ s ∷ [] }) e

  set_here : (b : Bool) (e : Thread) → e.number.0 == t.0 ≡ b → e.number.0 ≡ t.0
      → cond b (record e { segments = p.lower ++ s ∷ [] }) e ≡ record e { segments = p.lower ++ s ∷ [] }
  set_here true e is same = refl
  set_here false e is same = (let never : true ≡ false = sym (eq-eqb e.number.0 t.0 same) ∙ is in absurd cc)

  stays_there : (b : Bool) (e : Thread) → e.number.0 == t.0 ≡ b → e.number.0 ≢ t.0
      → cond b (record e { segments = p.lower ++ s ∷ [] }) e ≡ e
  stays_there true e is differ = (let never : true ≡ false = sym is ∙ ne_eqb e.number.0 t.0 differ in absurd cc)
  stays_there false e is differ = refl

  threads_are : map changes m.threads ≡ set m.threads (thread_place m t p).0 (record p.thread { segments = p.lower ++ s ∷ [] })
  threads_are =
      let place = thread_place m t p in
      one_changed changes m.threads place.0 p.thread place.1
      (λ i e differ at.
      stays_there (e.number.0 == t.0) e refl (λ same.
      differ (apart.threads i place.0 e p.thread at place.1 (λ j. record { 0 = (same ∙ sym place.2) j }))))
      ∙ ap (set m.threads place.0) (set_here (p.thread.number.0 == t.0) p.thread refl place.2)

  pub chunks_after : (e : DomainId) → chunks_used (with_segments t (p.lower ++ s ∷ []) m) e + chunks_of e p.segment ≡ chunks_used m e + chunks_of e s
  chunks_after e =
      let place = thread_place m t p in
      let all : sum_by (of_thread e) (set m.threads place.0 (record p.thread { segments = p.lower ++ s ∷ [] })) + of_thread e p.thread
      ≡ sum_by (of_thread e) m.threads + sum_by (chunks_of e) (p.lower ++ s ∷ []) =
      sum_changed (of_thread e) m.threads place.0 p.thread (record p.thread { segments = p.lower ++ s ∷ [] }) place.1 in
      let new : chunks_used (with_segments t (p.lower ++ s ∷ []) m) e
      ≡ sum_by (of_thread e) (set m.threads place.0 (record p.thread { segments = p.lower ++ s ∷ [] })) = ap (sum_by (of_thread e)) threads_are in
      let before : of_thread e p.thread ≡ sum_by (chunks_of e) p.lower + chunks_of e p.segment =
      ap (sum_by (chunks_of e)) p.are_segments ∙ sum_by_push (chunks_of e) p.lower p.segment in
      let later : sum_by (chunks_of e) (p.lower ++ s ∷ []) ≡ sum_by (chunks_of e) p.lower + chunks_of e s = sum_by_push (chunks_of e) p.lower s in
      adds (chunks_used (with_segments t (p.lower ++ s ∷ []) m) e)
      (sum_by (of_thread e) (set m.threads place.0 (record p.thread { segments = p.lower ++ s ∷ [] }))) (of_thread e p.thread) (chunks_used m e)
      (sum_by (chunks_of e) (p.lower ++ s ∷ [])) (sum_by (chunks_of e) p.lower) (chunks_of e p.segment) (chunks_of e s) new all before later
    where
      adds : (new set_to thread all late lower old s : ℕ) → new ≡ set_to → set_to + thread ≡ all + late → thread ≡ lower + old
          → late ≡ lower + s → new + old ≡ all + s
      adds new set_to thread all late lower old s a b c e = omega arith

same_domain : (d e : DomainId) → e.0 ≡ d.0 → e ≡ d
same_domain d e same = λ i. record { 0 = same i }

same_number : (n r : SegmentNo) → r.0 ≡ n.0 → r ≡ n
same_number n r same = λ i. record { 0 = same i }

module _ (k : KernelContent) (t : ThreadNo) (at : RunsAt k t) (fit : AreFittingParts (parts_of k)) (apart : AreSegmentsApart (kernel_machine k))
    (left : Contents) (before run : Run) (is_before : before.frames ≡ frames_in k.frames at.segment.number)
    (becomes : Becomes (contents_at at) left (here_in k at.segment) before run) where
  abbrev d : DomainId
  d = at.segment.domain

  abbrev m : Machine
  m = kernel_machine k

  abbrev p : RunningSegment (kernel_machine k) t
  p = place k t at fit.domains

  abbrev run_there : Segment
  run_there = record p.segment { frames = run.frames }

  used_words : (e : DomainId) → left.heaps.used e ≡ heap_words k.world.classes (left.heaps.heap e)
  used_words e = elim (cases_eq e.0 d.0) [
    | inl same ↦
        let is = same_domain d e same in
        ap left.heaps.used is ∙ becomes.inside.heaps.uses ∙ ap (heap_words k.world.classes) (sym becomes.inside.heaps.becomes)
        ∙ ap (λ (x : DomainId). heap_words k.world.classes (left.heaps.heap x)) (sym is)
    | inr differ ↦
        let other : e ≢ d = λ is. differ (ap (λ (x : DomainId). x.0) is) in
        becomes.inside.heaps.other_uses e other ∙ fit.used.words e
        ∙ ap (heap_words k.world.classes) (sym (becomes.inside.heaps.others e other))
  ]

  count : (e : DomainId) → chunks_used (machine_of (after k t at fit apart left before run becomes)) e + chunks_of e p.segment
      ≡ chunks_used m e + chunks_of e run_there
  count e =
      ap (λ (x : Machine). chunks_used x e + chunks_of e p.segment) (has_run k t at fit apart left before run becomes)
      ∙ chunks_after m t p run_there apart e

  used_chunks : (e : DomainId) → left.frames.used e ≡ chunks_used (machine_of (after k t at fit apart left before run becomes)) e
  used_chunks e = elim (cases_eq e.0 d.0) [
    | inl same ↦
        let is = same_domain d e same in
        ap left.frames.used is
        ∙ here (left.frames.used d) becomes.frames.used (frames_chunks before.frames) (frames_chunks p.segment.frames) (k.frames.used d)
        (frames_chunks run.frames) (chunks_used m d) (chunks_used (machine_of (after k t at fit apart left before run becomes)) d)
        (chunks_of d p.segment) (chunks_of d run_there) becomes.frames.changes.uses becomes.frames.chunks (ap frames_chunks is_before)
        (fit.used.chunks d) (costs_here d p.segment refl) (costs_here d run_there refl) (count d)
        ∙ ap (chunks_used (machine_of (after k t at fit apart left before run becomes))) (sym is)
    | inr differ ↦
        let other : e ≢ d = λ is. differ (ap (λ (x : DomainId). x.0) is) in
        becomes.frames.changes.other_domains e other ∙ fit.used.chunks e
        ∙ elsewhere (chunks_used m e) (chunks_used (machine_of (after k t at fit apart left before run becomes)) e) (chunks_of e p.segment)
        (chunks_of e run_there) (costs_elsewhere e p.segment (λ is. differ (sym is))) (costs_elsewhere e run_there (λ is. differ (sym is))) (count e)
  ]
    where
      here : (used u before stood old later all new cost costs : ℕ) → used ≡ u → u + before ≡ old + later → before ≡ stood → old ≡ all
          → cost ≡ 1 + stood → costs ≡ 1 + later → new + cost ≡ all + costs → used ≡ new
      here used u before stood old later all new cost costs a b c e f g h = omega arith

      elsewhere : (all new cost costs : ℕ) → cost ≡ 0 → costs ≡ 0 → new + cost ≡ all + costs → all ≡ new
      elsewhere all new cost costs a b c = omega arith

  -- ---- Segments.

  run_stored : left.frames.segment at.segment.number ≡ Some (record { domain = d; frames = run.frames })
  run_stored = becomes.frames.changes.becomes

  frames_of : Option StoredSegment → List FrameState
  frames_of o = option_map_or (λ (g : StoredSegment). g.frames) o []

  each : (thread : SharedThread) (s : SharedSegment) → Contains k.shared.threads thread → Contains thread.segments s
      → left.frames.segment s.number ≡ Some (record { domain = s.domain; frames = frames_in left.frames s.number })
  unfolding frames_of
  each thread s there in_it = elim (cases_eq s.number.0 at.segment.number.0) [
    | inl same ↦
        let is = same_number at.segment.number s.number same in
        let now : left.frames.segment s.number ≡ Some (record { domain = d; frames = run.frames }) = ap left.frames.segment is ∙ run_stored in
        let was : record { domain = s.domain; frames = frames_in k.frames s.number }
        ≡ record { domain = d; frames = frames_in k.frames at.segment.number } =
        same_Some (record { domain = s.domain; frames = frames_in k.frames s.number })
        (record { domain = d; frames = frames_in k.frames at.segment.number })
        (sym (fit.segments.each thread s there in_it) ∙ ap k.frames.segment is
        ∙ stored k t at fit.domains fit.segments) in
        let domain : s.domain ≡ d = ap (λ (g : StoredSegment). g.domain) was in
        now ∙ (λ i. Some (record { domain = sym domain i; frames = frames_of (sym now i) }))
    | inr differ ↦
        let same : left.frames.segment s.number ≡ k.frames.segment s.number =
        becomes.frames.changes.others s.number (λ is. differ (ap (λ (n : SegmentNo). n.0) is)) in
        same ∙ fit.segments.each thread s there in_it ∙ (λ i. Some (record { domain = s.domain; frames = frames_of (sym same i) }))
  ]

  no_others : (n : SegmentNo) (g : StoredSegment) → left.frames.segment n ≡ Some g
      → (thread : SharedThread) × (s : SharedSegment) × Contains k.shared.threads thread × Contains thread.segments s × (s.number ≡ n)
  no_others n g is = elim (cases_eq n.0 at.segment.number.0) [
    | inl same ↦
        let found = thread_found k t at fit.domains in
        (found.0, at.segment, found.1, found.2, sym (same_number at.segment.number n same))
    | inr differ ↦
        fit.segments.no_others n g
        (sym (becomes.frames.changes.others n (λ e. differ (ap (λ (x : SegmentNo). x.0) e))) ∙ is)
  ]

  -- ---- Own states.

  keeps_owns : KeepsOwns (parts_of k).owns (slice_set (parts_of k).owns d.0 (Some left.own.state))
  keeps_owns = record {
    as_many = length-set (parts_of k).owns d.0 (Some left.own.state);
    each = λ i o there. elim (slice_get-set_cases (parts_of k).owns d.0 i (Some left.own.state) o there) [
      | inl (same, is) ↦
          (Some at.own.state, ap (slice_get (parts_of k).owns) (sym same) ∙ own_at k t at fit.domains, ap is_some (sym is))
      | inr old ↦ (o, old, refl)
    ];
  }

  pub fits_after_run : AreFittingParts (after k t at fit apart left before run becomes)
  fits_after_run =
      fits_again (parts_of k) fit (slice_set (parts_of k).owns d.0 (Some left.own.state)) k.shared left.heaps left.frames
      (same_shared k.shared k.shared refl refl) keeps_owns becomes.inside.heaps.domains.quota becomes.frames.changes.domains.quota used_words
      used_chunks (record { each = each; no_others = no_others }) (λ e a. becomes.inside.heaps.mark e a ∙ fit.calm e a)
