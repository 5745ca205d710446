-- The store has the frames of all segments, and counts what they cost, also where the frames of a thread's top segment are others, where its flags are
-- others, and where it is taken off.
use Rattle.std.proofs.Common.{◌≡◌, ◌≢◌, ℕ, ◌+◌, ◌-◌, ◌==◌, inl, inr, Bool, true, false, cond, List, [], ◌∷◌, ◌++◌, filter, length, map, slice_get, Contains, Option, Some, None, refl, sym, ap, subst, ◌∙◌, arith}
use Rattle.std.specs.Option.{option_map_or}
use Rattle.std.proofs.lemmas.Bool.{cases_eq, eqb-false, eqb-true}
use Rattle.std.proofs.lemmas.Option.{same_Some, slice_get_within}
use Rattle.jk_model.specs.declared.identifiers.DomainId.{DomainId}
use Rattle.jk_model.specs.declared.identifiers.SegmentNo.{SegmentNo}
use Rattle.jk_model.specs.declared.identifiers.ThreadNo.{ThreadNo}
use Rattle.jk_model_frames.specs.Frames.{FrameState, frames_chunks}
use Rattle.jk_model_sharing.specs.Segments.{SharedSegment, SharedThread, has_segments, with_revoked, with_segments, without_top}
use Rattle.jk_model_sharing.specs.SharedStates.{popped, with_flags}
use Rattle.jk_model_machine_state.specs.Machines.{Machine, Segment, chunks_of, chunks_used}
use Rattle.jk_model_machine_state.specs.Places.{RunningSegment}
use Rattle.list_lemmas.proofs.ItemsByPlace.{slice_get-last, slice_get-longer, slice_get-push_cases}
use Rattle.list_lemmas.proofs.ItemsOfLists.{Contains-at, Contains-cases, Contains-here, Contains-none, Contains-there, place_of}
use Rattle.list_lemmas.proofs.ItemsThatPass.{Contains-filter}
use Rattle.frame_store.specs.FrameContents.{Changes, Ends, FrameContent, StoredSegment}
use Rattle.heap_laws.proofs.MappedLists.{mapped, mapped_from}
use Rattle.machine_laws.proofs.DomainsAfterRuns.{costs_elsewhere, costs_here}
use Rattle.machine_parts.specs.ChangedParts.{AreSegmentsApart}
use Rattle.machine_parts.specs.FittingParts.{HaveOneList, HaveSegments}
use Rattle.machine_parts.specs.MachineParts.{MachineParts, frames_in, machine_of, segment_with_frames}
use Rattle.machine_parts.specs.SharedInMachines.{HaveAllSegments}
use Rattle.machine_parts.proofs.RunningChanged.{flags_run, frames_run}
use Rattle.machine_parts.proofs.TopsGone.{higher_goes_off, lowest_goes_off}
use Rattle.domain_crossing.specs.TakenSegments.{AreApart, TopStands}
use Rattle.domain_crossing.proofs.ChunksCounted.{count_below, count_gone, count_running}
use Rattle.domain_crossing.proofs.SegmentsFound.{place}

pub record HaveFrames (p : MachineParts) : Type 0 where
  pub segments : HaveSegments p
  pub chunks : (d : DomainId) → p.frames.used d ≡ chunks_used (machine_of p) d

pub frames_of : Option StoredSegment → List FrameState
frames_of o = option_map_or (λ (g : StoredSegment). g.frames) o []

-- what a segment with these frames is in the store
pub stored_so : (c : FrameContent) (n : SegmentNo) (d : DomainId) (frames : List FrameState) → c.segment n ≡ Some (record { domain = d; frames = frames })
    → c.segment n ≡ Some (record { domain = d; frames = frames_in c n })
unfolding frames_of
stored_so c n d frames is = is ∙ (λ i. Some (record { domain = d; frames = frames_of (sym is i) }))

-- what stands as before stands
pub stored_still : (old new : FrameContent) (n : SegmentNo) (d : DomainId) → new.segment n ≡ old.segment n
    → old.segment n ≡ Some (record { domain = d; frames = frames_in old n }) → new.segment n ≡ Some (record { domain = d; frames = frames_in new n })
stored_still old new n d same is = stored_so new n d (frames_in old n) (same ∙ is)

domain_is : (a b : DomainId) (xs ys : List FrameState)
    → Some (let g : StoredSegment = record { domain = a; frames = xs } in g) ≡ Some (let g : StoredSegment = record { domain = b; frames = ys } in g) → a ≡ b
domain_is a b xs ys e =
    ap (λ (g : StoredSegment). g.domain) (same_Some (record { domain = a; frames = xs }) (record { domain = b; frames = ys }) e)

without_last : (lower : List SharedSegment) (s : SharedSegment) → without_top (lower ++ s ∷ []) ≡ lower
without_last [] s = refl
without_last (a ∷ []) s = refl
without_last (a ∷ b ∷ lower) s = ap (λ (xs : List SharedSegment). a ∷ xs) (without_last (b ∷ lower) s)

from_filter : {X : Type 0} (test : X → Bool) (xs : List X) (y : X) → Contains (filter test xs) y → Contains xs y × (test y ≡ true)
from_filter test [] y h = absurd (Contains-none y h)
from_filter test (x ∷ xs) y h = by (test x) refl (from_filter test xs y) h
  where
    by : (b : Bool) → test x ≡ b → (Contains (filter test xs) y → Contains xs y × (test y ≡ true))
        → Contains (cond b (x ∷ filter test xs) (filter test xs)) y → Contains (x ∷ xs) y × (test y ≡ true)
    by false is rest there = (let later = rest there in (Contains-there y x xs later.0, later.1))
    by true is rest there = elim (Contains-cases y x (filter test xs) there) [
      | inl e ↦ (subst (λ z. Contains (x ∷ xs) z) e (Contains-here x xs), subst (λ z. test z ≡ true) e is)
      | inr later ↦
          let found = rest later in
          (Contains-there y x xs found.0, found.1)
    ]

has_some : (segments : List SharedSegment) (s : SharedSegment) (e : SharedThread) → e.segments ≡ segments → Contains segments s → has_segments e ≡ true
has_some [] s e is there = absurd (Contains-none s there)
has_some (x ∷ segments) s e is there = ap (λ (ss : List SharedSegment). has_segments (record e { segments = ss })) is

-- ---- The top segment of a thread, in what domains share.

module _ (p : MachineParts) (t : ThreadNo) (top : TopStands p.shared.threads t) (apart : AreApart p.shared.threads) (has : HaveFrames p) where
  abbrev pub n : SegmentNo
  n = top.segment.number

  abbrev pub d : DomainId
  d = top.segment.domain

  at : (i : ℕ) × (slice_get p.shared.threads i ≡ Some top.thread) × (top.thread.number.0 ≡ t.0)
  at = place p.shared.threads apart t top

  pub thread_there : Contains p.shared.threads top.thread
  thread_there = Contains-at p.shared.threads at.0 top.thread at.1

  stands : slice_get top.thread.segments (length top.lower) ≡ Some top.segment
  stands = ap (λ (xs : List SharedSegment). slice_get xs (length top.lower)) top.are_segments ∙ slice_get-last top.lower top.segment

  pub top_there : Contains top.thread.segments top.segment
  top_there = Contains-at top.thread.segments (length top.lower) top.segment stands

  pub stored : p.frames.segment n ≡ Some (record { domain = d; frames = frames_in p.frames n })
  stored = has.segments.each top.thread top.segment thread_there top_there

  -- a thread of its number is its thread
  thread_is : (e : SharedThread) → Contains p.shared.threads e → e.number.0 == t.0 ≡ true → e ≡ top.thread
  thread_is e there is =
      let found = place_of p.shared.threads e there in
      let same : e.number ≡ top.thread.number = (λ i. record { 0 = (eqb-true e.number.0 t.0 is ∙ sym at.2) i }) in
      let k = apart.threads found.0 at.0 e top.thread found.1 at.1 same in
      same_Some e top.thread (sym found.1 ∙ ap (slice_get p.shared.threads) k ∙ at.1)

  -- ---- Other frames.

  module _ (new : FrameContent) (frames : List FrameState) (used : ℕ)
      (changes : Changes p.frames new n d (Some (record { domain = d; frames = frames })) used) where
    set_each : (e : SharedThread) (s : SharedSegment) → Contains p.shared.threads e → Contains e.segments s
        → new.segment s.number ≡ Some (record { domain = s.domain; frames = frames_in new s.number })
    set_each e s there in_it = elim (cases_eq s.number.0 n.0) [
      | inl same ↦
          let number : s.number ≡ n = (λ i. record { 0 = same i }) in
          let was = has.segments.each e s there in_it in
          let one : s.domain ≡ d =
          domain_is s.domain d (frames_in p.frames s.number) (frames_in p.frames n) (sym was ∙ ap p.frames.segment number ∙ stored) in
          stored_so new s.number s.domain frames
          (ap new.segment number ∙ changes.becomes ∙ (λ i. Some (record { domain = sym one i; frames = frames })))
      | inr differ ↦
          stored_still p.frames new s.number s.domain (changes.others s.number (λ e. differ (ap (λ (x : SegmentNo). x.0) e)))
          (has.segments.each e s there in_it)
    ]

    set_no_others : (k : SegmentNo) (g : StoredSegment) → new.segment k ≡ Some g
        → (e : SharedThread) × (s : SharedSegment) × Contains p.shared.threads e × Contains e.segments s × (s.number ≡ k)
    set_no_others k g is = elim (cases_eq k.0 n.0) [
      | inl same ↦ (top.thread, top.segment, thread_there, top_there, (λ i. record { 0 = sym same i }))
      | inr differ ↦ has.segments.no_others k g (sym (changes.others k (λ e. differ (ap (λ (x : SegmentNo). x.0) e))) ∙ is)
    ]

    module _ (r : RunningSegment (machine_of p) t) (is : r.segment ≡ segment_with_frames p.frames top.segment) (one : HaveOneList p)
        (all_apart : AreSegmentsApart (machine_of p))
        (cost : used + frames_chunks (frames_in p.frames n) ≡ p.frames.used d + frames_chunks frames) where
      abbrev m : Machine
      m = machine_of p

      abbrev then : Segment
      then = record r.segment { frames = frames }

      number_is : r.segment.shared.number ≡ n
      number_is = ap (λ (s : Segment). s.shared.number) is

      domain_of : r.segment.shared.domain.0 ≡ d.0
      domain_of = ap (λ (s : Segment). s.shared.domain.0) is

      count : (e : DomainId) → chunks_used (machine_of (record p { frames = new })) e + chunks_of e r.segment ≡ chunks_used m e + chunks_of e then
      count e =
          ap (λ (x : Machine). chunks_used x e + chunks_of e r.segment)
          (frames_run p new t r d frames used one all_apart
          (subst (λ (k : SegmentNo). Changes p.frames new k d (Some (record { domain = d; frames = frames })) used) (sym number_is) changes))
          ∙ count_running m t r all_apart e then

      set_chunks : (e : DomainId) → new.used e ≡ chunks_used (machine_of (record p { frames = new })) e
      set_chunks e = elim (cases_eq e.0 d.0) [
        | inl same ↦
            let number : e ≡ d = (λ i. record { 0 = same i }) in
            ap new.used number
            ∙ here (new.used d) used (frames_chunks (frames_in p.frames n)) (p.frames.used d) (frames_chunks frames)
            (chunks_used (machine_of (record p { frames = new })) d) (chunks_of d r.segment) (chunks_used m d) (chunks_of d then) changes.uses cost
            (count d) (has.chunks d) (costs_here d r.segment domain_of ∙ ap (λ (s : Segment). 1 + frames_chunks s.frames) is)
            (costs_here d then domain_of)
            ∙ ap (chunks_used (machine_of (record p { frames = new }))) (sym number)
        | inr differ ↦
            let other : e ≢ d = (λ k. differ (ap (λ (x : DomainId). x.0) k)) in
            changes.other_domains e other ∙ has.chunks e
            ∙ elsewhere (chunks_used m e) (chunks_used (machine_of (record p { frames = new })) e) (chunks_of e r.segment) (chunks_of e then)
            (costs_elsewhere e r.segment (λ k. differ (sym k ∙ domain_of))) (costs_elsewhere e then (λ k. differ (sym k ∙ domain_of))) (count e)
      ]
        where
          here : (now used cost stood more all own old then_own : ℕ) → now ≡ used → used + cost ≡ stood + more → all + own ≡ old + then_own
              → stood ≡ old → own ≡ 1 + cost → then_own ≡ 1 + more → now ≡ all
          here now used cost stood more all own old then_own a b c e f g = omega arith

          elsewhere : (old all own then_own : ℕ) → own ≡ 0 → then_own ≡ 0 → all + own ≡ old + then_own → old ≡ all
          elsewhere old all own then_own a b c = omega arith

      pub frames_set : HaveFrames (record p { frames = new })
      frames_set = record { segments = record { each = set_each; no_others = set_no_others }; chunks = set_chunks }

  -- ---- A RevokedException is pending.

  module _ (r : RunningSegment (machine_of p) t) (is : r.segment ≡ segment_with_frames p.frames top.segment) (one : HaveOneList p)
      (all_apart : AreSegmentsApart (machine_of p)) where
    abbrev flag : SharedSegment → SharedSegment
    flag s = cond (s.number.0 == n.0) (with_revoked true s) s

    abbrev pub flagged : MachineParts
    flagged = record p { shared = with_flags n (with_revoked true) p.shared }

    stored_by : (b : Bool) (s : SharedSegment)
        → p.frames.segment s.number ≡ Some (record { domain = s.domain; frames = frames_in p.frames s.number })
        → p.frames.segment (cond b (with_revoked true s) s).number
        ≡ Some (record { domain = (cond b (with_revoked true s) s).domain; frames = frames_in p.frames (cond b (with_revoked true s) s).number })
    stored_by true s h = h
    stored_by false s h = h

    number_by : (b : Bool) (s : SharedSegment) → (cond b (with_revoked true s) s).number ≡ s.number
    number_by true s = refl
    number_by false s = refl

    flag_each : (thread : SharedThread) (s : SharedSegment) → Contains flagged.shared.threads thread → Contains thread.segments s
        → p.frames.segment s.number ≡ Some (record { domain = s.domain; frames = frames_in p.frames s.number })
    flag_each thread s there in_it =
        let from = mapped_from (with_segments (map flag)) p.shared.threads thread there in
        let was = mapped_from flag from.0.segments s (subst (λ (x : SharedThread). Contains x.segments s) (sym from.2) in_it) in
        subst (λ (x : SharedSegment). p.frames.segment x.number ≡ Some (record { domain = x.domain; frames = frames_in p.frames x.number })) was.2
        (stored_by (was.0.number.0 == n.0) was.0 (has.segments.each from.0 was.0 from.1 was.1))

    flag_no_others : (k : SegmentNo) (g : StoredSegment) → p.frames.segment k ≡ Some g
        → (thread : SharedThread) × (s : SharedSegment) × Contains flagged.shared.threads thread × Contains thread.segments s × (s.number ≡ k)
    flag_no_others k g at_k =
        let was = has.segments.no_others k g at_k in (
          with_segments (map flag) was.0,
          flag was.1,
          mapped (with_segments (map flag)) p.shared.threads was.0 was.2,
          mapped flag was.0.segments was.1 was.3,
          number_by (was.1.number.0 == n.0) was.1 ∙ was.4,
        )

    pub frames_flagged : HaveFrames flagged
    frames_flagged = record {
      segments = record { each = flag_each; no_others = flag_no_others };
      chunks = λ e.
          has.chunks e
          ∙ same (chunks_used (machine_of p) e) (chunks_used (machine_of flagged) e) (chunks_of e r.segment)
          (ap (λ (x : Machine). chunks_used x e + chunks_of e r.segment)
          ((λ i. machine_of (record p { shared = with_flags (ap (λ (s : Segment). s.shared.number) (sym is) i) (with_revoked true) p.shared }))
          ∙ flags_run p t r (with_revoked true) (λ s. refl) one all_apart)
          ∙ count_running (machine_of p) t r all_apart e (record r.segment { shared = with_revoked true r.segment.shared }));
    }
      where
        same : (old new own : ℕ) → new + own ≡ old + own → old ≡ new
        same old new own h = omega arith

  -- ---- It is taken off.

  module _ (r : RunningSegment (machine_of p) t) (is : r.segment ≡ segment_with_frames p.frames top.segment)
      (all_apart : AreSegmentsApart (machine_of p)) (all : HaveAllSegments p) (new : FrameContent) (ends : Ends p.frames new n) where
    abbrev pub taken : MachineParts
    taken = record p { shared = popped t p.shared; frames = new }

    gone : StoredSegment
    gone = record { domain = d; frames = frames_in p.frames n }

    changes : Changes p.frames new n d None (p.frames.used d - (1 + frames_chunks (frames_in p.frames n)))
    changes =
        let same : ends.0 ≡ record { domain = d; frames = frames_in p.frames n } =
        same_Some ends.0 (record { domain = d; frames = frames_in p.frames n }) (sym ends.1 ∙ stored) in
        subst (λ (g : StoredSegment). Changes p.frames new n g.domain None (p.frames.used g.domain - (1 + frames_chunks g.frames))) same ends.2

    own_number : n ≡ r.segment.shared.number
    own_number = ap (λ (s : Segment). s.shared.number) (sym is)

    pub changes_running : Changes p.frames new r.segment.shared.number d None (p.frames.used d - (1 + frames_chunks (frames_in p.frames n)))
    changes_running =
        subst (λ (k : SegmentNo). Changes p.frames new k d None (p.frames.used d - (1 + frames_chunks (frames_in p.frames n)))) own_number changes

    -- ---- Chunks.

    own_domain : r.segment.shared.domain.0 ≡ d.0
    own_domain = ap (λ (s : Segment). s.shared.domain.0) is

    take_chunks : (after : Machine) → machine_of taken ≡ after
        → ((e : DomainId) → chunks_used after e + chunks_of e r.segment ≡ chunks_used (machine_of p) e)
        → (e : DomainId) → new.used e ≡ chunks_used (machine_of taken) e
    take_chunks after leads count e = elim (cases_eq e.0 d.0) [
      | inl same ↦
          let number : e ≡ d = (λ i. record { 0 = same i }) in
          ap new.used number
          ∙ here (new.used d) (p.frames.used d) (frames_chunks (frames_in p.frames n)) (chunks_used (machine_of taken) d) (chunks_used after d)
          (chunks_of d r.segment) (chunks_used (machine_of p) d) changes.uses (has.chunks d)
          (costs_here d r.segment own_domain ∙ ap (λ (s : Segment). 1 + frames_chunks s.frames) is) (count d)
          (ap (λ (x : Machine). chunks_used x d) leads)
          ∙ ap (chunks_used (machine_of taken)) (sym number)
      | inr differ ↦
          changes.other_domains e (λ k. differ (ap (λ (x : DomainId). x.0) k)) ∙ has.chunks e
          ∙ elsewhere (chunks_used (machine_of p) e) (chunks_used after e) (chunks_of e r.segment)
          (costs_elsewhere e r.segment (λ k. differ (sym k ∙ own_domain))) (count e)
          ∙ ap (λ (x : Machine). chunks_used x e) (sym leads)
    ]
      where
        here : (now stood cost all after own old : ℕ) → now ≡ stood - (1 + cost) → stood ≡ old → own ≡ 1 + cost → after + own ≡ old → all ≡ after
            → now ≡ all
        here now stood cost all after own old a b c e f = omega arith

        elsewhere : (old after own : ℕ) → own ≡ 0 → after + own ≡ old → old ≡ after
        elsewhere old after own a b = omega arith

    -- ---- Segments.

    abbrev pops : SharedThread → SharedThread
    pops e = cond (e.number.0 == t.0) (with_segments without_top e) e

    -- those of its thread are those below it
    lower_are : (e : SharedThread) → e ≡ top.thread → without_top e.segments ≡ top.lower
    lower_are e same = ap (λ (x : SharedThread). without_top x.segments) same ∙ ap without_top top.are_segments ∙ without_last top.lower top.segment

    pub lower_there : (s : SharedSegment) → Contains top.lower s → Contains top.thread.segments s × (s.number ≢ n)
    lower_there s in_it =
        let found = place_of top.lower s in_it in
        let at_s : slice_get top.thread.segments found.0 ≡ Some s =
        ap (λ (xs : List SharedSegment). slice_get xs found.0) top.are_segments ∙ slice_get-longer top.lower (top.segment ∷ []) found.0 s found.1 in (
          Contains-at top.thread.segments found.0 s at_s,
          λ same.
              let both = apart.segments at.0 at.0 found.0 (length top.lower) top.thread top.thread s top.segment at.1 at.1 at_s stands same in
              let low = slice_get_within top.lower found.0 s found.1 in
              omega (arith, both.1, low),
        )

    other_there : (e : SharedThread) (s : SharedSegment) → Contains p.shared.threads e → e.number.0 == t.0 ≡ false → Contains e.segments s
        → s.number ≢ n
    other_there e s there differs in_it same =
        let found = place_of p.shared.threads e there in
        let k = place_of e.segments s in_it in
        let both = apart.segments found.0 at.0 k.0 (length top.lower) e top.thread s top.segment found.1 at.1 k.1 stands same in
        let one : e ≡ top.thread = same_Some e top.thread (sym found.1 ∙ ap (slice_get p.shared.threads) both.0 ∙ at.1) in
        eqb-false e.number.0 t.0 differs (ap (λ (x : SharedThread). x.number.0) one ∙ at.2)

    stays : (e : SharedThread) (s : SharedSegment) → Contains p.shared.threads e → Contains e.segments s → s.number ≢ n
        → new.segment s.number ≡ Some (record { domain = s.domain; frames = frames_in new s.number })
    stays e s there in_it differ =
        stored_still p.frames new s.number s.domain (changes.others s.number differ) (has.segments.each e s there in_it)

    take_each : (thread : SharedThread) (s : SharedSegment) → Contains taken.shared.threads thread → Contains thread.segments s
        → new.segment s.number ≡ Some (record { domain = s.domain; frames = frames_in new s.number })
    take_each thread s there in_it =
        let passed = from_filter has_segments (map pops p.shared.threads) thread there in
        let from = mapped_from pops p.shared.threads thread passed.0 in
        by (from.0.number.0 == t.0) from.0 refl from.1 from.2
      where
        by : (b : Bool) (e : SharedThread) → e.number.0 == t.0 ≡ b → Contains p.shared.threads e → cond b (with_segments without_top e) e ≡ thread
            → new.segment s.number ≡ Some (record { domain = s.domain; frames = frames_in new s.number })
        by true e at_it was gives =
            let one : e ≡ top.thread = thread_is e was at_it in
            let in_lower : Contains top.lower s =
            subst (λ (xs : List SharedSegment). Contains xs s) (lower_are e one)
            (subst (λ (x : SharedThread). Contains x.segments s) (sym gives) in_it) in
            let found = lower_there s in_lower in
            stays top.thread s thread_there found.0 found.1
        by false e at_it was gives =
            let of_it = subst (λ (x : SharedThread). Contains x.segments s) (sym gives) in_it in
            stays e s was of_it (other_there e s was at_it of_it)

    take_no_others : (k : SegmentNo) (g : StoredSegment) → new.segment k ≡ Some g
        → (thread : SharedThread) × (s : SharedSegment) × Contains taken.shared.threads thread × Contains thread.segments s × (s.number ≡ k)
    take_no_others k g at_k = elim (cases_eq k.0 n.0) [
      | inl same ↦
          let number : k ≡ n = (λ i. record { 0 = same i }) in
          let never : None ≡ Some g = sym changes.becomes ∙ ap new.segment (sym number) ∙ at_k in
          absurd cc
      | inr differ ↦
          let was = has.segments.no_others k g (sym (changes.others k (λ e. differ (ap (λ (x : SegmentNo). x.0) e))) ∙ at_k) in
          by (was.0.number.0 == t.0) was.0 was.1 refl was.2 was.3 was.4 (λ e. differ (ap (λ (x : SegmentNo). x.0) e))
    ]
      where
        by : (b : Bool) (e : SharedThread) (s : SharedSegment) → e.number.0 == t.0 ≡ b → Contains p.shared.threads e → Contains e.segments s
            → s.number ≡ k → k ≢ n
            → (thread : SharedThread) × (x : SharedSegment) × Contains taken.shared.threads thread × Contains thread.segments x × (x.number ≡ k)
        by true e s at_it there in_it number differ =
            let one : e ≡ top.thread = thread_is e there at_it in
            let found = place_of top.thread.segments s (subst (λ (x : SharedThread). Contains x.segments s) one in_it) in
            elim (slice_get-push_cases top.lower top.segment s found.0
            (ap (λ (xs : List SharedSegment). slice_get xs found.0) (sym top.are_segments) ∙ found.1)) [
              | inl (within, there_s) ↦
                  let lower : Contains (without_top e.segments) s =
                  subst (λ (xs : List SharedSegment). Contains xs s) (sym (lower_are e one)) (Contains-at top.lower found.0 s there_s) in
                  let kept : pops e ≡ with_segments without_top e = ap (λ (b : Bool). cond b (with_segments without_top e) e) at_it in (
                    with_segments without_top e,
                    s,
                    Contains-filter has_segments (map pops p.shared.threads) (with_segments without_top e)
                        (subst (λ (x : SharedThread). Contains (map pops p.shared.threads) x) kept (mapped pops p.shared.threads e there))
                        (has_some (without_top e.segments) s (with_segments without_top e) refl lower),
                    lower,
                    number,
                  )
              | inr (last, same) ↦ absurd (differ (sym number ∙ ap (λ (x : SharedSegment). x.number) (sym same)))
            ]
        by false e s at_it there in_it number differ =
            let kept : pops e ≡ e = ap (λ (b : Bool). cond b (with_segments without_top e) e) at_it in (
              e,
              s,
              Contains-filter has_segments (map pops p.shared.threads) e
                  (subst (λ (x : SharedThread). Contains (map pops p.shared.threads) x) kept (mapped pops p.shared.threads e there))
                  (has_some e.segments s e refl in_it),
              in_it,
              number,
            )

    abbrev segments_taken : HaveSegments taken
    segments_taken = record { each = take_each; no_others = take_no_others }

    pub lowest_taken : r.lower ≡ [] → HaveFrames taken
    lowest_taken lowest = record {
      segments = segments_taken;
      chunks = take_chunks _ (lowest_goes_off p new t r d (p.frames.used d - (1 + frames_chunks (frames_in p.frames n))) all all_apart changes_running lowest)
          (λ e. count_gone (machine_of p) t r all_apart e lowest);
    }

    pub higher_taken : (lower : List Segment) (below : Segment) → r.lower ≡ lower ++ below ∷ [] → HaveFrames taken
    higher_taken lower below are = record {
      segments = segments_taken;
      chunks = take_chunks _
          (higher_goes_off p new t r d (p.frames.used d - (1 + frames_chunks (frames_in p.frames n))) all all_apart changes_running lower below are)
          (count_below (machine_of p) t r all_apart);
    }
