-- Where flags of a thread's top segment change in what domains share, and nothing else does, the parts fit again, and the thread runs there still.
use Rattle.std.proofs.Common.{◌≡◌, ℕ, ◌+◌, ◌==◌, Bool, true, false, cond, List, [], ◌∷◌, map, Contains, Option, Some, None, option_map, refl, sym, ap, subst, ◌∙◌, arith, eq-eqb}
use Rattle.std.specs.Prelude.{option_and_then}
use Rattle.jk_model.specs.declared.identifiers.DomainId.{DomainId}
use Rattle.jk_model.specs.declared.identifiers.SegmentNo.{SegmentNo}
use Rattle.jk_model.specs.declared.identifiers.ThreadNo.{ThreadNo}
use Rattle.jk_model_sharing.specs.Segments.{SharedSegment, SharedThread, shared_form, thread_numbered, top_of, top_segment, with_segment, with_segments, with_stacks}
use Rattle.jk_model_sharing.specs.SharedStates.{with_flags}
use Rattle.jk_model_machine_state.specs.Machines.{Machine, chunks_of, chunks_used}
use Rattle.jk_model_machine_state.specs.Places.{RunningSegment}
use Rattle.jk_model_machine_state.specs.Places.{with_flags as with_running_flags}
use Rattle.frame_store.specs.FrameContents.{StoredSegment}
use Rattle.heap_laws.proofs.MappedLists.{mapped, mapped_from}
use Rattle.machine_parts.specs.ChangedParts.{AreSegmentsApart}
use Rattle.machine_parts.specs.FittingParts.{AreFittingParts}
use Rattle.machine_parts.specs.MachineParts.{frames_in}
use Rattle.machine_parts.proofs.RunningChanged.{flags_run}
use Rattle.kernel_parts.specs.SoundKernels.{KernelContent, kernel_machine, parts_of}
use Rattle.kernel_turns.specs.RunningPlaces.{RunsAt}
use Rattle.kernel_turns.specs.SteppedParts.{flagged}
use Rattle.domain_crossing.proofs.FitsAgain.{fits_again, same_owns, same_shared}
use Rattle.kernel_turns.proofs.FittingRuns.{chunks_after}
use Rattle.kernel_turns.proofs.PlacedThreads.{place}
use Rattle.kernel_turns.proofs.SegmentsApart.{apart_flagged, apart_in_machine, apart_in_shared}

-- ---- Tops of stacks that are changed segment by segment.

tops_change : (change : SharedSegment → SharedSegment) (segments : List SharedSegment)
    → top_of (map change segments) ≡ option_map change (top_of segments)
tops_change change [] = refl
tops_change change (s ∷ []) = refl
tops_change change (s ∷ above ∷ more) = tops_change change (above ∷ more)

module _ (t : ThreadNo) (change : List SharedSegment → List SharedSegment) where
  found_by : (b : Bool) (e : SharedThread) (o r : Option SharedThread) → r ≡ option_map (with_segments change) o
      → cond b (Some (with_segments change e)) r ≡ option_map (with_segments change) (cond b (Some e) o)
  found_by true e o r h = refl
  found_by false e o r h = h

  pub threads_change : (threads : List SharedThread)
      → thread_numbered (with_stacks change threads) t ≡ option_map (with_segments change) (thread_numbered threads t)
  threads_change [] = refl
  threads_change (e ∷ threads) =
      found_by (e.number.0 == t.0) e (thread_numbered threads t) (thread_numbered (with_stacks change threads) t) (threads_change threads)

-- ---- The flags: stop and revoked may be others.

module _ (stop revoked : SharedSegment → Bool) where
  abbrev pub with_those : SharedSegment → SharedSegment
  with_those s = record s { stop = stop s; revoked = revoked s }

  module _ (n : SegmentNo) where
    abbrev pub flag : SharedSegment → SharedSegment
    flag s = cond (s.number.0 == n.0) (with_those s) s

    flag_here : (s : SharedSegment) → s.number ≡ n → flag s ≡ with_those s
    flag_here s same =
        ap (λ (b : Bool). cond b (with_those s) s) (eq-eqb s.number.0 n.0 (ap (λ (x : SegmentNo). x.0) same))

    pub top_flagged : (threads : List SharedThread) (t : ThreadNo) (s : SharedSegment) → top_segment threads t ≡ Some s → s.number ≡ n
        → top_segment (with_stacks (with_segment shared_form n with_those) threads) t ≡ Some (with_those s)
    top_flagged threads t s is same = by (thread_numbered threads t) is (threads_change t (map flag) threads)
      where
        by : (o : Option SharedThread) → option_and_then (λ (e : SharedThread). top_of e.segments) o ≡ Some s
            → thread_numbered (with_stacks (map flag) threads) t ≡ option_map (with_segments (map flag)) o
            → option_and_then (λ (e : SharedThread). top_of e.segments) (thread_numbered (with_stacks (map flag) threads) t) ≡ Some (with_those s)
        by None top found = absurd cc
        by (Some e) top found =
            ap (option_and_then (λ (x : SharedThread). top_of x.segments)) found ∙ tops_change flag e.segments ∙ ap (option_map flag) top
            ∙ ap (λ (x : SharedSegment). Some x) (flag_here s same)

  module _ (k : KernelContent) (t : ThreadNo) (at : RunsAt k t) (fit : AreFittingParts (parts_of k)) (apart : AreSegmentsApart (kernel_machine k)) where
    abbrev pub fallen : KernelContent
    fallen = flagged at.segment with_those k

    abbrev p : RunningSegment (kernel_machine k) t
    p = place k t at fit.domains

    pub is_flagged : kernel_machine fallen ≡ with_running_flags p (with_those at.segment)
    is_flagged = flags_run (parts_of k) t p with_those (λ s. refl) fit.domains apart

    used_chunks : (e : DomainId) → k.frames.used e ≡ chunks_used (kernel_machine fallen) e
    used_chunks e =
        let all = chunks_after (kernel_machine k) t p (record p.segment { shared = with_those at.segment }) apart e in
        let same : chunks_used (kernel_machine fallen) e ≡ chunks_used (with_running_flags p (with_those at.segment)) e =
        ap (λ (m : Machine). chunks_used m e) is_flagged in
        adds (k.frames.used e) (chunks_used (kernel_machine k) e) (chunks_used (kernel_machine fallen) e)
        (chunks_used (with_running_flags p (with_those at.segment)) e) (chunks_of e p.segment) (fit.used.chunks e) all same
      where
        adds : (used all new flagged cost : ℕ) → used ≡ all → flagged + cost ≡ all + cost → new ≡ flagged → used ≡ new
        adds used all new flagged cost a b c = omega arith

    stored_by : (b : Bool) (s : SharedSegment)
        → k.frames.segment s.number ≡ Some (record { domain = s.domain; frames = frames_in k.frames s.number })
        → k.frames.segment (cond b (with_those s) s).number
        ≡ Some (record { domain = (cond b (with_those s) s).domain; frames = frames_in k.frames (cond b (with_those s) s).number })
    stored_by true s h = h
    stored_by false s h = h

    number_by : (b : Bool) (s : SharedSegment) → (cond b (with_those s) s).number ≡ s.number
    number_by true s = refl
    number_by false s = refl

    each : (thread : SharedThread) (s : SharedSegment) → Contains fallen.shared.threads thread → Contains thread.segments s
        → k.frames.segment s.number ≡ Some (record { domain = s.domain; frames = frames_in k.frames s.number })
    each thread s there in_it =
        let from = mapped_from (with_segments (map (flag at.segment.number))) k.shared.threads thread there in
        let was = mapped_from (flag at.segment.number) from.0.segments s
        (subst (λ (x : SharedThread). Contains x.segments s) (sym from.2) in_it) in
        subst (λ (x : SharedSegment). k.frames.segment x.number ≡ Some (record { domain = x.domain; frames = frames_in k.frames x.number })) was.2
        (stored_by (was.0.number.0 == at.segment.number.0) was.0 (fit.segments.each from.0 was.0 from.1 was.1))

    no_others : (n : SegmentNo) (g : StoredSegment) → k.frames.segment n ≡ Some g
        → (thread : SharedThread) × (s : SharedSegment) × Contains fallen.shared.threads thread × Contains thread.segments s × (s.number ≡ n)
    no_others n g is =
        let was = fit.segments.no_others n g is in (
          with_segments (map (flag at.segment.number)) was.0,
          flag at.segment.number was.1,
          mapped (with_segments (map (flag at.segment.number))) k.shared.threads was.0 was.2,
          mapped (flag at.segment.number) was.0.segments was.1 was.3,
          number_by (was.1.number.0 == at.segment.number.0) was.1 ∙ was.4,
        )

    pub fit_flagged : AreFittingParts (parts_of fallen)
    fit_flagged =
        fits_again (parts_of k) fit (parts_of k).owns (with_flags at.segment.number with_those k.shared) k.heap k.frames
        (same_shared k.shared (with_flags at.segment.number with_those k.shared) refl refl) (same_owns (parts_of k).owns) (λ e. refl) (λ e. refl)
        fit.used.words used_chunks (record { each = each; no_others = no_others }) fit.calm

    pub apart_fallen : AreSegmentsApart (kernel_machine fallen)
    apart_fallen =
        apart_in_machine (parts_of fallen)
        (apart_flagged at.segment.number with_those (λ s. refl) k.shared.threads (apart_in_shared (parts_of k) apart))

    abbrev pub at_flagged : RunsAt fallen t
    at_flagged = record {
      segment = with_those at.segment;
      is_top = top_flagged at.segment.number k.shared.threads t at.segment at.is_top refl;
      own = at.own;
      is_own = at.is_own;
    }
