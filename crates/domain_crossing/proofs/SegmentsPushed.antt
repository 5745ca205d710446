-- A segment with one frame comes on top of a thread: the store has the frames of all segments then, and counts what they cost.
use Rattle.std.proofs.Common.{◌≡◌, ◌≢◌, ℕ, ◌+◌, ◌<◌, ◌≤◌, ◌==◌, inl, inr, Bool, true, false, cond, List, [], ◌∷◌, ◌++◌, length, map, set, sum_by, slice_get, Contains, Some, refl, sym, ap, subst, ◌∙◌, arith, eq-eqb}
use Rattle.std.proofs.lemmas.Bool.{cases_eq, cond-true, eqb-true}
use Rattle.std.proofs.lemmas.List.Sums.{sum_by_push}
use Rattle.jk_model.specs.declared.identifiers.DomainId.{DomainId}
use Rattle.jk_model.specs.declared.identifiers.SegmentNo.{SegmentNo}
use Rattle.jk_model.specs.declared.identifiers.ThreadNo.{ThreadNo}
use Rattle.jk_model_frames.specs.Frames.{FrameState, frames_chunks, head_chunks}
use Rattle.jk_model_sharing.specs.Segments.{SharedSegment, SharedThread, count_segments_of, with_segments}
use Rattle.jk_model_sharing.specs.SharedStates.{drawn_segment, pushed}
use Rattle.jk_model_machine_state.specs.Machines.{Machine, Segment, Thread, chunks_of, chunks_used}
use Rattle.jk_model_machine_state.specs.Places.{first_segment}
use Rattle.list_lemmas.proofs.ItemsByPlace.{slice_get-last, slice_get-longer, slice_get-push_cases}
use Rattle.list_lemmas.proofs.ItemsOfLists.{Contains-at, place_of}
use Rattle.frame_store.specs.FrameContents.{Changes, FrameContent, StoredSegment}
use Rattle.heap_laws.proofs.MappedLists.{mapped, mapped_from}
use Rattle.machine_laws.proofs.ChangedItems.{one_changed, sum_changed}
use Rattle.machine_laws.proofs.DomainsAfterRuns.{costs_elsewhere, costs_here}
use Rattle.machine_parts.specs.MachineParts.{MachineParts, frames_in, machine_of}
use Rattle.machine_parts.proofs.ChunksOfSegments.{segments_within}
use Rattle.domain_crossing.specs.TakenSegments.{AreApart, TopStands}
use Rattle.domain_crossing.proofs.FramesOfParts.{HaveFrames, stored_so, stored_still, thread_there}
use Rattle.domain_crossing.proofs.SegmentsFound.{place}

-- ---- Sums over the segments of all threads.

-- a segment of a domain costs a chunk at least
pub segments_cost : (p : MachineParts) (d : DomainId) → count_segments_of p.shared.threads d ≤ chunks_used (machine_of p) d
segments_cost p d = segments_within p.frames d p.shared.threads

-- ---- Another segment on a thread's stack.

module _ (p : MachineParts) (t : ThreadNo) (shared_apart : AreApart p.shared.threads) (top : TopStands p.shared.threads t) (has : HaveFrames p)
    (before : (e : SharedThread) (s : SharedSegment) → Contains p.shared.threads e → Contains e.segments s → s.number.0 < p.shared.next_segment)
    (owner : DomainId) (frame : FrameState) (new : FrameContent)
    (changes : Changes p.frames new (record { 0 = p.shared.next_segment }) owner
    (Some (let g : StoredSegment = record { domain = owner; frames = frame ∷ [] } in g)) (p.frames.used owner + 1 + head_chunks frame.head)) where
  abbrev pub arrived : MachineParts
  arrived = record p { shared = pushed t owner p.shared; frames = new }

  abbrev n : SegmentNo
  n = record { 0 = p.shared.next_segment }

  abbrev drawn : SharedSegment
  drawn = drawn_segment p.shared owner

  abbrev pushes : SharedThread → SharedThread
  pushes e = cond (e.number.0 == t.0) (with_segments (λ (segments : List SharedSegment). segments ++ drawn ∷ []) e) e

  older : (e : SharedThread) (s : SharedSegment) → Contains p.shared.threads e → Contains e.segments s → s.number ≢ n
  older e s there in_it same =
      let low = before e s there in_it in
      let number = ap (λ (x : SegmentNo). x.0) same in
      omega (arith, low, number)

  stays : (e : SharedThread) (s : SharedSegment) → Contains p.shared.threads e → Contains e.segments s
      → new.segment s.number ≡ Some (record { domain = s.domain; frames = frames_in new s.number })
  stays e s there in_it =
      stored_still p.frames new s.number s.domain (changes.others s.number (older e s there in_it)) (has.segments.each e s there in_it)

  drawn_stands : new.segment n ≡ Some (record { domain = owner; frames = frames_in new n })
  drawn_stands = stored_so new n owner (frame ∷ []) changes.becomes

  each : (thread : SharedThread) (s : SharedSegment) → Contains arrived.shared.threads thread → Contains thread.segments s
      → new.segment s.number ≡ Some (record { domain = s.domain; frames = frames_in new s.number })
  each thread s there in_it =
      let from = mapped_from pushes p.shared.threads thread there in
      by (from.0.number.0 == t.0) from.0 from.1 from.2
    where
      by : (b : Bool) (e : SharedThread) → Contains p.shared.threads e
          → cond b (with_segments (λ (segments : List SharedSegment). segments ++ drawn ∷ []) e) e ≡ thread
          → new.segment s.number ≡ Some (record { domain = s.domain; frames = frames_in new s.number })
      by true e was gives =
          let stands = place_of (e.segments ++ drawn ∷ []) s (subst (λ (x : SharedThread). Contains x.segments s) (sym gives) in_it) in
          elim (slice_get-push_cases e.segments drawn s stands.0 stands.1) [
            | inl (within, old) ↦ stays e s was (Contains-at e.segments stands.0 s old)
            | inr (last, same) ↦
                subst (λ (x : SharedSegment). new.segment x.number ≡ Some (record { domain = x.domain; frames = frames_in new x.number })) same drawn_stands
          ]
      by false e was gives = stays e s was (subst (λ (x : SharedThread). Contains x.segments s) (sym gives) in_it)

  pushed_thread : pushes top.thread ≡ with_segments (λ (segments : List SharedSegment). segments ++ drawn ∷ []) top.thread
  pushed_thread =
      cond-true (top.thread.number.0 == t.0) (with_segments (λ (segments : List SharedSegment). segments ++ drawn ∷ []) top.thread) top.thread
      (eq-eqb top.thread.number.0 t.0 (place p.shared.threads shared_apart t top).2)

  no_others : (k : SegmentNo) (g : StoredSegment) → new.segment k ≡ Some g
      → (thread : SharedThread) × (s : SharedSegment) × Contains arrived.shared.threads thread × Contains thread.segments s × (s.number ≡ k)
  no_others k g at_k = elim (cases_eq k.0 n.0) [
    | inl same ↦ (
      with_segments (λ (segments : List SharedSegment). segments ++ drawn ∷ []) top.thread,
      drawn,
      subst (λ (x : SharedThread). Contains arrived.shared.threads x) pushed_thread
          (mapped pushes p.shared.threads top.thread (thread_there p t top shared_apart has)),
      Contains-at (top.thread.segments ++ drawn ∷ []) (length top.thread.segments) drawn (slice_get-last top.thread.segments drawn),
      (λ i. record { 0 = sym same i }),
    )
    | inr differ ↦
        let was = has.segments.no_others k g (sym (changes.others k (λ e. differ (ap (λ (x : SegmentNo). x.0) e))) ∙ at_k) in
        by (was.0.number.0 == t.0) was.0 was.1 refl was.2 was.3 was.4
  ]
    where
      by : (b : Bool) (e : SharedThread) (s : SharedSegment) → e.number.0 == t.0 ≡ b → Contains p.shared.threads e → Contains e.segments s
          → s.number ≡ k
          → (thread : SharedThread) × (x : SharedSegment) × Contains arrived.shared.threads thread × Contains thread.segments x × (x.number ≡ k)
      by true e s at_it there in_it number =
          let kept : pushes e ≡ with_segments (λ (segments : List SharedSegment). segments ++ drawn ∷ []) e =
          ap (λ (b : Bool). cond b (with_segments (λ (segments : List SharedSegment). segments ++ drawn ∷ []) e) e) at_it in
          let stands = place_of e.segments s in_it in (
            with_segments (λ (segments : List SharedSegment). segments ++ drawn ∷ []) e,
            s,
            subst (λ (x : SharedThread). Contains arrived.shared.threads x) kept (mapped pushes p.shared.threads e there),
            Contains-at (e.segments ++ drawn ∷ []) stands.0 s (slice_get-longer e.segments (drawn ∷ []) stands.0 s stands.1),
            number,
          )
      by false e s at_it there in_it number =
          let kept : pushes e ≡ e =
          ap (λ (b : Bool). cond b (with_segments (λ (segments : List SharedSegment). segments ++ drawn ∷ []) e) e) at_it in
          (e, s, subst (λ (x : SharedThread). Contains arrived.shared.threads x) kept (mapped pushes p.shared.threads e there), in_it, number)

  -- ---- Chunks, of a machine in which the thread has another segment.

  module _ (after : Machine)
      (leads : machine_of arrived ≡ after)
      (count : (d : DomainId) → chunks_used after d
      ≡ chunks_used (machine_of p) d + chunks_of d (first_segment (machine_of p) owner frame)) where
    chunks : (d : DomainId) → new.used d ≡ chunks_used (machine_of arrived) d
    chunks d = elim (cases_eq d.0 owner.0) [
      | inl same ↦
          let number : d ≡ owner = (λ i. record { 0 = same i }) in
          ap new.used number
          ∙ here (new.used owner) (p.frames.used owner) (head_chunks frame.head) (chunks_used (machine_of p) owner)
          (chunks_of owner (first_segment (machine_of p) owner frame)) (frames_chunks (frame ∷ [])) (chunks_used after owner) changes.uses
          (has.chunks owner) (costs_here owner (first_segment (machine_of p) owner frame) refl) single (count owner)
          ∙ ap (λ (x : Machine). chunks_used x owner) (sym leads)
          ∙ ap (chunks_used (machine_of arrived)) (sym number)
      | inr differ ↦
          changes.other_domains d (λ e. differ (ap (λ (x : DomainId). x.0) e)) ∙ has.chunks d
          ∙ elsewhere (chunks_used (machine_of p) d) (chunks_of d (first_segment (machine_of p) owner frame)) (chunks_used after d)
          (costs_elsewhere d (first_segment (machine_of p) owner frame) (λ e. differ (sym e))) (count d)
          ∙ ap (λ (x : Machine). chunks_used x d) (sym leads)
    ]
      where
        single : frames_chunks (frame ∷ []) ≡ 0 + head_chunks frame.head
        single = sum_by_push (λ (x : FrameState). head_chunks x.head) [] frame

        here : (used stood head all own one now : ℕ) → used ≡ stood + 1 + head → stood ≡ all → own ≡ 1 + one → one ≡ 0 + head → now ≡ all + own
            → used ≡ now
        here used stood head all own one now a b c d e = omega arith

        elsewhere : (all own now : ℕ) → own ≡ 0 → now ≡ all + own → all ≡ now
        elsewhere all own now a b = omega arith

    pub frames_arrived : HaveFrames arrived
    frames_arrived = record { segments = record { each = each; no_others = no_others }; chunks = chunks }

-- ---- What all stacks cost where one has another segment on it.

module _ (m : Machine) (t : ThreadNo) (thread : Thread) (at : (i : ℕ) × (slice_get m.threads i ≡ Some thread) × (thread.number.0 ≡ t.0))
    (once : (i : ℕ) (x : Thread) → slice_get m.threads i ≡ Some x → x.number.0 ≡ t.0 → i ≡ at.0) (added : Segment) (d : DomainId) where
  abbrev cost : Thread → ℕ
  cost x = sum_by (chunks_of d) x.segments

  abbrev pub adds : Thread → Thread
  adds e = cond (e.number.0 == t.0) (record e { segments = e.segments ++ added ∷ [] }) e

  abbrev higher : Thread
  higher = record thread { segments = thread.segments ++ added ∷ [] }

  kept : (i : ℕ) (x : Thread) → i ≢ at.0 → slice_get m.threads i ≡ Some x → (b : Bool) → (x.number.0 == t.0) ≡ b
      → cond b (record x { segments = x.segments ++ added ∷ [] }) x ≡ x
  kept i x differ there false none = refl
  kept i x differ there true same = absurd (differ (once i x there (eqb-true x.number.0 t.0 same)))

  threads_are : map adds m.threads ≡ set m.threads at.0 higher
  threads_are =
      one_changed adds m.threads at.0 thread at.1 (λ i x differ there. kept i x differ there (x.number.0 == t.0) refl)
      ∙ ap (set m.threads at.0) (cond-true (thread.number.0 == t.0) higher thread (eq-eqb thread.number.0 t.0 at.2))

  more : (new stood all next own : ℕ) → new + stood ≡ all + next → next ≡ stood + own → new ≡ all + own
  more new stood all next own a b = omega arith

  pub count_arrived : sum_by (λ (x : Thread). sum_by (chunks_of d) x.segments) (map adds m.threads) ≡ chunks_used m d + chunks_of d added
  count_arrived =
      more (sum_by cost (map adds m.threads)) (cost thread) (chunks_used m d) (cost higher) (chunks_of d added)
      (ap (λ (ts : List Thread). sum_by cost ts + cost thread) threads_are ∙ sum_changed cost m.threads at.0 thread higher at.1)
      (sum_by_push (chunks_of d) thread.segments added)
