-- A call through a capability enters, or is refused: what code has done to the parts is so to the machine, and the parts fit again.
use Rattle.std.proofs.Common.{◌≡◌, ℕ, ◌+◌, ◌-◌, ◌<◌, ◌≤◌, List, [], ◌∷◌, ◌++◌, length, slice_get, Contains, Option, Some, None, IsSome, inl, inr, ◌^◌, refl, sym, ap, subst, ◌∙◌, arith}
use Rattle.std.specs.List.{AllByRecursion}
use Rattle.std.specs.Option.{option_map_or}
use Rattle.std.proofs.lemmas.Bool.{cases_eq}
use Rattle.std.proofs.lemmas.Option.{same_Some}
use Rattle.jk_model.specs.declared.identifiers.DomainId.{DomainId}
use Rattle.jk_model.specs.declared.identifiers.SegmentNo.{SegmentNo}
use Rattle.jk_model.specs.declared.identifiers.ThreadNo.{ThreadNo}
use Rattle.jk_model.specs.declared.steps.Raise.{Raise}
use Rattle.jk_model.specs.declared.values.Value.{Value}
use Rattle.jk_model.specs.declared.values.Value.TheVariants as Held
use Rattle.jk_model_domains.specs.Objects.{NamedObject}
use Rattle.jk_model_domains.specs.OwnStates.{OwnState}
use Rattle.jk_model_frames.specs.Frames.{FrameState, called_frame, frames_chunks, head_chunks, locals_of}
use Rattle.jk_model_heaps.specs.CalledFrames.{call_head}
use Rattle.jk_model_heaps.specs.Capabilities.{CapRange, capability_numbered}
use Rattle.jk_model_sealing.specs.SealedInsides.{IsKnownValue}
use Rattle.jk_model_sharing.specs.Segments.{SharedSegment, SharedThread, count_segments_of}
use Rattle.jk_model_sharing.specs.SharedStates.{SharedDomain, SharedState, pushed}
use Rattle.jk_model_sharing.specs.SharedStates.{caps_of as shared_caps}
use Rattle.jk_model_machine_state.specs.Machines.{DomainState, Machine, Segment, Thread, caps_of, chunks_used, free_chunks}
use Rattle.jk_model_machine_state.specs.Places.{LiveDomain, first_segment}
use Rattle.jk_model_crossings.specs.Passages.{Passes}
use Rattle.jk_model_crossings.specs.RemoteCalls.{IsOpen, Refuses, RemoteCall, arguments, chunks_needed, with_segment_on_top}
use Rattle.list_lemmas.proofs.ItemsByPlace.{comes_from, mapped_at}
use Rattle.list_lemmas.proofs.ItemsOfLists.{Contains-at}
use Rattle.heap_laws.proofs.MappedLists.{mapped}
use Rattle.heap_laws.proofs.StillFits.{of_class}
use Rattle.object_store.specs.HeapContents.{HeapContent, IsSame}
use Rattle.frame_store.specs.FrameContents.{Changes, FrameContent, IsAdmitted, StoredSegment}
use Rattle.frame_store.specs.FrameContents.{IsSame as AreSameFrames, free_chunks as chunks_left}
use Rattle.graph_copy.specs.AskedOfCopies.{MayCopy}
use Rattle.graph_copy.specs.CopyAnswers.{Copies}
use Rattle.machine_laws.specs.CallsAndAnswers.{StandsAtCall}
use Rattle.machine_laws.proofs.CallsArrive.{arguments_fit, copies_of_types, target_is}
use Rattle.machine_laws.proofs.CallsSealed.{given_known, typed}
use Rattle.machine_laws.proofs.CopiesTaken.{HasInside, grows, values_known}
use Rattle.machine_laws.proofs.RunningSegmentsFit.{home_there}
use Rattle.row_laws.proofs.FramesInARow.{chunks_same}
use Rattle.machine_parts.proofs.DomainsOfParts.{live_domain_is_of_parts}
use Rattle.machine_parts.specs.FittingParts.{AreFittingParts}
use Rattle.machine_parts.specs.MachineParts.{MachineParts, frames_in, machine_of, segment_with_frames, thread_with_frames}
use Rattle.thread_segments.specs.Asked.{HasRoomForSegment, IsLiveDomain}
use Rattle.domain_crossing.specs.declared.answers.Crossed.{Crossed}
use Rattle.domain_crossing.specs.declared.answers.Crossed.TheVariants as Called
use Rattle.domain_crossing.specs.declared.callees.Callee.{Callee}
use Rattle.domain_crossing.specs.AskedOfCrossings.{MayCross}
use Rattle.domain_crossing.specs.Crossings.{CrossesSo}
use Rattle.domain_crossing.specs.EnteredParts.{EntersInParts}
use Rattle.domain_crossing.specs.EnteringCalls.{CopiesFitLocals, EntersSo, MayArriveAt, next_segment}
use Rattle.domain_crossing.specs.MovedArguments.{HasArrived, StandsToCall}
use Rattle.domain_crossing.specs.PassedValues.{Crossing}
use Rattle.domain_crossing.specs.TakenSegments.{TopStands}
use Rattle.domain_crossing.proofs.CopiesMayBeMade.{crossing_may_copy}
use Rattle.domain_crossing.proofs.DomainsByPlace.{caps_are_shared, own_of_live, shared_found, shared_is_live, shared_there}
use Rattle.domain_crossing.proofs.FitsAfterwards.{fits_after, frames_of_any, kept_copied, same_content}
use Rattle.domain_crossing.proofs.FramesOfParts.{HaveFrames, frames_set, stored}
use Rattle.domain_crossing.proofs.PartsEntered.{begins_on_top, enters_change_machines}
use Rattle.domain_crossing.proofs.PassagesOfParts.{answer_copied, answer_too_large, answer_uncopiable, copy_passes}
use Rattle.domain_crossing.proofs.SegmentsFound.{place}
use Rattle.domain_crossing.proofs.SegmentsPushed.{count_arrived, frames_arrived, segments_cost}
use Rattle.domain_crossing.proofs.TopsTakenOff.{apart, has, is_running, over, shared_apart}

pub frames_same : (c : FrameContent) → AreSameFrames c c
frames_same c = record {
  domains = record { pages = refl; took_all = refl; quota = λ d. refl; first_page = λ d. refl };
  used = λ d. refl;
  segment = λ s. refl;
}

module _ (p : MachineParts) (t : ThreadNo) (cross : MayCross p) (c : RemoteCall (machine_of p) t) where
  abbrev pub home : DomainId
  home = c.place.segment.shared.domain

  abbrev pub top : TopStands p.shared.threads t
  top = over p t cross c.place

  abbrev pub number : SegmentNo
  number = top.segment.number

  pub frames_are : frames_in p.frames number ≡ c.callers ++ c.frame ∷ []
  frames_are = ap (λ (s : Segment). s.frames) (sym (is_running p t cross c.place)) ∙ c.are_frames

  pub shared_is : c.place.segment.shared ≡ top.segment
  shared_is = ap (λ (s : Segment). s.shared) (is_running p t cross c.place)

  pub home_of : top.segment.domain ≡ home
  home_of = ap (λ (s : SharedSegment). s.domain) (sym shared_is)

  -- the caller, as code knows its segment
  pub stored_at : (s : SegmentNo) → s ≡ number
      → p.frames.segment s ≡ Some (let g : StoredSegment = record { domain = top.segment.domain; frames = frames_in p.frames number } in g)
  stored_at s e = ap p.frames.segment e ∙ stored p t top (shared_apart p t cross c.place) (has p t cross c.place)

  abbrev pub call_at : (s : SegmentNo) → s ≡ number → StandsToCall p.frames s
  call_at s e = record {
    stood = record { domain = top.segment.domain; frames = frames_in p.frames number };
    is_there = stored_at s e;
    callers = c.callers;
    frame = c.frame;
    are_frames = frames_are;
    below = c.below;
    receiver = Held.Cap c.capability;
    given = c.given;
    stack = c.stack;
  }

  pub drawn_before : (e : SharedThread) (s : SharedSegment) → Contains p.shared.threads e → Contains e.segments s → s.number.0 < p.shared.next_segment
  drawn_before e s there in_it =
      (cross.sealed.threads.segments_before (thread_with_frames p.frames e) (segment_with_frames p.frames s)
      (mapped (thread_with_frames p.frames) p.shared.threads e there) (mapped (segment_with_frames p.frames) e.segments s in_it)).1

  -- the capability is known among those that are shared
  pub is_known : capability_numbered (shared_caps p.shared) c.capability ≡ Some c.known
  is_known = ap (λ (caps : List CapRange). capability_numbered caps c.capability) (sym (caps_are_shared p cross.fitting.domains)) ∙ c.is_known

  -- ---- The owner.

  module _ (owner : LiveDomain (machine_of p) c.known.owner) where
    pub chunks_are : chunks_left p.frames c.known.owner ≡ free_chunks (machine_of p) owner.domain
    chunks_are =
        ap (λ (o : Option ℕ). option_map_or (λ (q : ℕ). q - p.frames.used c.known.owner) o 0) (cross.fitting.live.chunks c.known.owner owner)
        ∙ ap (λ (n : ℕ). owner.domain.quotas.chunks - n)
        (cross.fitting.used.chunks c.known.owner ∙ ap (chunks_used (machine_of p)) (sym owner.numbered))

    pub may_arrive : (callee : Callee) → callee.owner ≡ c.known.owner → p.shared.next_segment < 2 ^ 64 - 1 → MayArriveAt p.shared p.frames t callee
    may_arrive callee is number =
        let own = own_of_live p cross.fitting.domains c.known.owner owner in
        let s = shared_there p cross.fitting.domains c.known.owner own.0 own.1 in
        let found = shared_found p cross.fitting.domains c.known.owner s.0 s.1 in
        let lives : IsLiveDomain p.shared c.known.owner = (s.0, found, shared_is_live p cross.fitting.domains c.known.owner own.0 own.1) in
        record {
          live = subst (IsLiveDomain p.shared) (sym is) lives;
          thread = (top.thread, top.is_thread);
          number = number;
          admitted = subst (IsAdmitted p.frames) (sym is)
              (subst (λ (o : Option ℕ). IsSome o) (sym (cross.fitting.live.chunks c.known.owner owner)) refl);
          new = none_drawn;
          room = λ some.
              subst (HasRoomForSegment p.shared) (sym is)
              (s.0, found, room s.0 own.0 own.1 s.1 (subst (λ (d : DomainId). 1 ≤ chunks_left p.frames d) is some));
        }
      where
        none_drawn : p.frames.segment (next_segment p.shared) ≡ None
        none_drawn = by (p.frames.segment (next_segment p.shared)) refl
          where
            by : (o : Option StoredSegment) → p.frames.segment (next_segment p.shared) ≡ o → o ≡ None
            by None is = refl
            by (Some g) is =
                let was = cross.fitting.segments.no_others (next_segment p.shared) g is in
                let low = drawn_before was.0 was.1 was.2 was.3 in
                let same = ap (λ (n : SegmentNo). n.0) was.4 in
                absurd (omega (arith, low, same))

        room : (s : SharedDomain) (own : OwnState) → slice_get p.owns c.known.owner.0 ≡ Some (Some own)
            → slice_get p.shared.domains c.known.owner.0 ≡ Some s → 1 ≤ chunks_left p.frames c.known.owner
            → count_segments_of p.shared.threads c.known.owner < s.quotas.chunks
        room s own is_own at some =
            let found = live_domain_is_of_parts p c.known.owner owner cross.fitting.domains in
            let one : found.2 ≡ s = same_Some found.2 s (sym found.3.is_shared ∙ at) in
            let quota : owner.domain.quotas.chunks ≡ s.quotas.chunks =
            ap (λ (d : DomainState). d.quotas.chunks) found.4 ∙ ap (λ (e : SharedDomain). e.quotas.chunks) one in
            let used = segments_cost p c.known.owner in
            let left = chunks_are in
            let same = ap (chunks_used (machine_of p)) owner.numbered in
            fewer (count_segments_of p.shared.threads c.known.owner) (chunks_used (machine_of p) c.known.owner)
            (chunks_used (machine_of p) owner.domain.number) owner.domain.quotas.chunks s.quotas.chunks (chunks_left p.frames c.known.owner) used same
            quota left some
          where
            fewer : (count used other quota stands left : ℕ) → count ≤ used → other ≡ used → quota ≡ stands → left ≡ quota - other → 1 ≤ left
                → count < stands
            fewer count used other quota stands left a b c d e = omega arith

    -- ---- The arguments.

    pub may_copy : (stands : StandsAtCall c) → MayCopy p.heap p.world home c.known.owner c.given
    may_copy stands = crossing_may_copy p cross home c.known.owner c.place.home owner c.given
        (given_known (machine_of p) t cross.sealed cross.sound c stands)

  -- ---- It may enter.

  module _ (stands : StandsAtCall c) (o : IsOpen c) where
    abbrev pub owned : LiveDomain (machine_of p) c.known.owner
    owned = o.has_target.is_shown.live.owner

    abbrev pub callee_of : Callee
    callee_of = record {
      owner = c.known.owner;
      target = c.known.capability.target;
      head = call_head o.has_target.target o.has_target.code;
    }

    abbrev pub x : Crossing
    x = record { world = p.world; heap = p.heap; from = home; to = c.known.owner }

    abbrev giver : HasInside (machine_of p)
    giver = record {
      domain = c.place.home.domain;
      inside = c.place.home.inside;
      there = home_there (machine_of p) t c.place cross.sealed;
      is_inside = c.place.home.is_inside;
    }

    abbrev taker : HasInside (machine_of p)
    taker = record {
      domain = owned.domain;
      inside = owned.inside;
      there = Contains-at (machine_of p).domains c.known.owner.0 owned.domain owned.is_domain;
      is_inside = owned.is_inside;
    }

    known : AllByRecursion (IsKnownValue (caps_of (machine_of p)) c.place.home.inside.heap) c.given
    known = given_known (machine_of p) t cross.sealed cross.sound c stands

    -- what arrives fits the locals of the target
    fitting : (objects : List NamedObject) (values : List Value) → Passes (arguments o.has_target.is_shown.live) objects values
        → length (locals_of (Held.Obj c.known.capability.target ∷ values)) ≤ o.has_target.code.max_locals
    fitting objects values passes =
        arguments_fit (machine_of p) cross.sealed cross.sound c o.has_target objects
        (of_class owned.inside.heap objects (grows (machine_of p) cross.sealed cross.sound giver taker c.given known objects values passes)
        c.known.capability.target c.known.capability.class (target_is (machine_of p) cross.sealed cross.sound c o.has_target)) values
        (copies_of_types p.world.classes c.place.home.domain.table owned.domain.table (caps_of (machine_of p))
        (record { heap = c.place.home.inside.heap; values = c.given }) owned.inside.heap (record { heap = objects; values = values }) passes.pairs
        passes.copy c.named.params c.given values passes.copy.values
        (values_known (machine_of p) cross.sealed cross.sound giver taker c.given known objects values passes)
        (typed (machine_of p) t cross.sealed cross.sound c stands))

    pub copies_fit : CopiesFitLocals x callee_of c.given
    copies_fit = λ new values answer copied.
        fitting (new.heap c.known.owner) values
        (copy_passes p home c.known.owner c.place.home owned c.given cross.fitting new values answer copied)

    module _ (s : SegmentNo) (e : s ≡ number) where
      abbrev frame_with : List Value → FrameState
      frame_with values = called_frame callee_of.head (Held.Obj callee_of.target ∷ values)

      abbrev went_in : HeapContent → SharedState → FrameContent → MachineParts
      went_in heap shared after = record { world = p.world; owns = p.owns; shared = shared; heap = heap; frames = after }

      abbrev waiting : List FrameState
      waiting = c.callers ++ record c.frame { stack = c.below } ∷ []

      -- ---- The segment has begun.

      module _ (values : List Value) (new : HeapContent) (after : FrameContent)
          (copied : Copies p.heap new p.world.classes home c.known.owner c.given values)
          (arrived : HasArrived (call_at s e) (next_segment p.shared) c.known.owner (frame_with values) after) where
        taken_there : Changes p.frames arrived.mid number top.segment.domain
            (Some (let g : StoredSegment = record { domain = top.segment.domain; frames = waiting } in g)) (p.frames.used top.segment.domain)
        taken_there =
            subst (λ (n : SegmentNo). Changes p.frames arrived.mid n top.segment.domain
            (Some (let g : StoredSegment = record { domain = top.segment.domain; frames = waiting } in g)) (p.frames.used top.segment.domain)) e
            arrived.taken

        taken_of_place : Changes p.frames arrived.mid c.place.segment.shared.number home
            (Some (let g : StoredSegment = record { domain = home; frames = waiting } in g)) (p.frames.used home)
        taken_of_place =
            subst (λ (y : SharedSegment). Changes p.frames arrived.mid y.number y.domain
            (Some (let g : StoredSegment = record { domain = y.domain; frames = waiting } in g)) (p.frames.used y.domain)) (sym shared_is) taken_there

        pub in_parts : EntersInParts p t c (new.heap c.known.owner) (frame_with values) (went_in new (pushed t c.known.owner p.shared) after)
        in_parts = record {
          words = p.heap.used c.known.owner + copied.words;
          copied = copied.becomes;
          mid = arrived.mid;
          kept = p.frames.used home;
          taken = taken_of_place;
          chunks = p.frames.used c.known.owner + 1 + head_chunks callee_of.head;
          begun = arrived.begun;
          on_top = refl;
          world = refl;
          owns = refl;
        }

        -- ---- The parts, one change after the other.

        abbrev departing : MachineParts
        departing = record p { frames = arrived.mid }

        frames_departed : HaveFrames departing
        frames_departed =
            frames_set p t top (shared_apart p t cross c.place) (has p t cross c.place) arrived.mid waiting (p.frames.used top.segment.domain) taken_there
            c.place (is_running p t cross c.place) cross.fitting.domains (apart p t cross c.place)
            (ap (λ (n : ℕ). p.frames.used top.segment.domain + n)
            (ap frames_chunks frames_are ∙ sym (chunks_same c.callers c.frame (record c.frame { stack = c.below }) refl)))

        abbrev filled : MachineParts
        filled = record departing { heap = new }

        used_still : (d : DomainId) → arrived.mid.used d ≡ p.frames.used d
        used_still d = elim (cases_eq d.0 top.segment.domain.0) [
          | inl same ↦
              let is : d ≡ top.segment.domain = (λ i. record { 0 = same i }) in
              ap arrived.mid.used is ∙ taken_there.uses ∙ ap p.frames.used (sym is)
          | inr differ ↦ taken_there.other_domains d (λ k. differ (ap (λ (y : DomainId). y.0) k))
        ]

        abbrev added : Segment
        added = first_segment (machine_of filled) c.known.owner (frame_with values)

        at : (i : ℕ) × (slice_get (machine_of filled).threads i ≡ Some (thread_with_frames arrived.mid top.thread))
            × ((thread_with_frames arrived.mid top.thread).number.0 ≡ t.0)
        at =
            let found = place p.shared.threads (shared_apart p t cross c.place) t top in
            (found.0, mapped_at (thread_with_frames arrived.mid) p.shared.threads found.0 top.thread found.1, found.2)

        once : (i : ℕ) (y : Thread) → slice_get (machine_of filled).threads i ≡ Some y → y.number.0 ≡ t.0 → i ≡ at.0
        unfolding at
        once i y there same =
            let from = comes_from (thread_with_frames arrived.mid) p.shared.threads i y there in
            let found = place p.shared.threads (shared_apart p t cross c.place) t top in
            (shared_apart p t cross c.place).threads i found.0 from.from top.thread from.there found.1
            (λ j. record { 0 = (ap (λ (z : Thread). z.number.0) from.gives ∙ same ∙ sym found.2) j })

        abbrev pub machine_then : Machine
        machine_then = with_segment_on_top t c.known.owner (frame_with values) (machine_of filled)

        leads : machine_of (record filled { shared = pushed t c.known.owner p.shared; frames = after }) ≡ machine_then
        unfolding in_parts
        leads =
            begins_on_top p (went_in new (pushed t c.known.owner p.shared) after) t c owned (new.heap c.known.owner) (frame_with values)
            cross.fitting.domains cross.sealed in_parts

        pub frames_there : HaveFrames (went_in new (pushed t c.known.owner p.shared) after)
        frames_there =
            frames_arrived filled t (shared_apart p t cross c.place) top (frames_of_any departing p.owns new frames_departed) drawn_before c.known.owner
            (frame_with values) after
            (subst (λ (n : ℕ). Changes arrived.mid after (next_segment p.shared) c.known.owner
            (Some (let g : StoredSegment = record { domain = c.known.owner; frames = frame_with values ∷ [] } in g))
            (n + 1 + head_chunks callee_of.head)) (sym (used_still c.known.owner)) arrived.begun) machine_then leads
            (λ d. count_arrived (machine_of filled) t (thread_with_frames arrived.mid top.thread) at once added d)

      -- ---- What code has done.

      pub crosses : (result : Crossed) (heap : HeapContent) (shared : SharedState) (after : FrameContent)
          → EntersSo x p.shared (call_at s e) t callee_of result heap shared after → CrossesSo c result (machine_of (went_in heap shared after))
      crosses result heap shared after (EntersSo.is_uncopied a new answer same) = (
        Refuses.not_copiable o (answer_uncopiable p home c.known.owner c.place.home owned c.given cross.fitting a answer),
        (λ i. machine_of (went_in (same_content p.heap new same i) p.shared p.frames)),
      )
      crosses result heap shared after (EntersSo.has_no_room words new answer same) = (
        Refuses.few_words o (answer_too_large p home c.known.owner c.place.home owned c.given cross.fitting words answer),
        (λ i. machine_of (went_in (same_content p.heap new same i) p.shared p.frames)),
      )
      crosses result heap shared after (EntersSo.has_no_chunks new answer same few) = (
        Refuses.few_chunks o (answer_copied p home c.known.owner c.place.home owned c.given cross.fitting answer)
            (subst (λ (n : ℕ). n < chunks_needed o.has_target) (chunks_are owned) few),
        (λ i. machine_of (went_in (same_content p.heap new same i) p.shared p.frames)),
      )
      crosses result heap shared after (EntersSo.enters values new then answer copied enough arrived) =
          let passes = copy_passes p home c.known.owner c.place.home owned c.given cross.fitting new values answer copied in
          record {
            is_open = o;
            chunks = subst (λ (n : ℕ). chunks_needed o.has_target ≤ n) (chunks_are owned) enough;
            heap = new.heap c.known.owner;
            values = values;
            passes = passes;
            frame = frame_with values;
            begins = (fitting (new.heap c.known.owner) values passes, refl);
            leads = enters_change_machines p (went_in new (pushed t c.known.owner p.shared) then) t c owned (new.heap c.known.owner) (frame_with values)
                cross.fitting.domains cross.sealed (in_parts values new then copied arrived);
          }

      pub fits_in : (result : Crossed) (heap : HeapContent) (shared : SharedState) (after : FrameContent)
          → EntersSo x p.shared (call_at s e) t callee_of result heap shared after → (owns : List (Option OwnState))
          → AreFittingParts (record { world = p.world; owns = owns; shared = p.shared; heap = p.heap; frames = p.frames })
          → AreFittingParts (record { world = p.world; owns = owns; shared = shared; heap = heap; frames = after })
      fits_in result heap shared after (EntersSo.is_uncopied a new answer same) owns fit =
          subst (λ (h : HeapContent). AreFittingParts (record { world = p.world; owns = owns; shared = p.shared; heap = h; frames = p.frames }))
          (sym (same_content p.heap new same)) fit
      fits_in result heap shared after (EntersSo.has_no_room words new answer same) owns fit =
          subst (λ (h : HeapContent). AreFittingParts (record { world = p.world; owns = owns; shared = p.shared; heap = h; frames = p.frames }))
          (sym (same_content p.heap new same)) fit
      fits_in result heap shared after (EntersSo.has_no_chunks new answer same few) owns fit =
          subst (λ (h : HeapContent). AreFittingParts (record { world = p.world; owns = owns; shared = p.shared; heap = h; frames = p.frames }))
          (sym (same_content p.heap new same)) fit
      fits_in result heap shared after (EntersSo.enters values new then answer copied enough arrived) owns fit =
          fits_after (record { world = p.world; owns = owns; shared = p.shared; heap = p.heap; frames = p.frames }) fit
          (pushed t c.known.owner p.shared) new then refl refl
          (kept_copied (record { world = p.world; owns = owns; shared = p.shared; heap = p.heap; frames = p.frames }) fit new home c.known.owner c.given
          values copied) (λ d. arrived.begun.domains.quota d ∙ arrived.taken.domains.quota d)
          (frames_of_any (went_in new (pushed t c.known.owner p.shared) then) owns new (frames_there values new then copied arrived))

      -- a refusal leaves all as it was
      pub as_before : (r : Raise) (heap : HeapContent) (shared : SharedState) (after : FrameContent)
          → EntersSo x p.shared (call_at s e) t callee_of (Called.Refused r) heap shared after
          → (shared ≡ p.shared) × IsSame p.heap heap × AreSameFrames p.frames after
      as_before r heap shared after (EntersSo.is_uncopied a new answer same) = (refl, same, frames_same p.frames)
      as_before r heap shared after (EntersSo.has_no_room words new answer same) = (refl, same, frames_same p.frames)
      as_before r heap shared after (EntersSo.has_no_chunks new answer same few) = (refl, same, frames_same p.frames)
