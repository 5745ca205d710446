-- A thread's top segment, of which no frame is left, is taken off: what stands there, the machine without it, and the frames that the store has then.
use Rattle.std.proofs.Common.{◌≡◌, ◌≢◌, ℕ, ◌+◌, ◌-◌, true, List, [], ◌∷◌, ◌++◌, append_assoc, length, map, Contains, Option, Some, None, IsSome, refl, sym, ap, subst, ◌∙◌}
use Rattle.std.specs.Option.{option_map_or}
use Rattle.std.specs.Prelude.{option_and_then}
use Rattle.std.proofs.lemmas.List.{map-append}
use Rattle.std.proofs.lemmas.Option.{same_Some}
use Rattle.jk_model.specs.declared.identifiers.SegmentNo.{SegmentNo}
use Rattle.jk_model.specs.declared.identifiers.ThreadNo.{ThreadNo}
use Rattle.jk_model_frames.specs.Frames.{FrameState, frames_chunks}
use Rattle.jk_model_sharing.specs.Segments.{PlacedSegment, SharedSegment, SharedThread, changed, has_segments, segment_numbered, top_of, with_revoked, with_segment, without_top}
use Rattle.jk_model_sharing.specs.SharedStates.{popped, with_flags}
use Rattle.jk_model_machine_state.specs.Machines.{Machine, Segment, segment_form, with_segments, with_stacks, without_thread}
use Rattle.jk_model_machine_state.specs.Places.{LiveDomain, RunningSegment}
use Rattle.jk_model_machine_state.specs.Places.{without_top as without_running}
use Rattle.jk_model_crossings.specs.Throwing.{TopTwo, with_revoked_below}
use Rattle.jk_model_runs.specs.Sealed.{CallerFits, IsSealedSegment, SegmentsFit}
use Rattle.list_lemmas.proofs.ItemsByPlace.{mapped_at, slice_get-last}
use Rattle.list_lemmas.proofs.ItemsOfLists.{Contains-at}
use Rattle.list_lemmas.proofs.LastItems.{one_last}
use Rattle.frame_store.specs.FrameContents.{Changes, Ends, FrameContent, IsThere, SetsTop, StoredSegment}
use Rattle.heap_laws.proofs.MappedLists.{mapped}
use Rattle.machine_laws.proofs.AnswersSealed.{calls_from}
use Rattle.machine_laws.proofs.RunningSegmentsFit.{thread_there}
use Rattle.machine_laws.proofs.RunsAgain.{thread_set}
use Rattle.machine_parts.specs.ChangedParts.{AreSegmentsApart}
use Rattle.machine_parts.specs.FittingParts.{HaveOneList}
use Rattle.machine_parts.specs.MachineParts.{MachineParts, frames_in, machine_of, segment_with_frames, thread_with_frames}
use Rattle.machine_parts.specs.RunningParts.{StandsOnTop}
use Rattle.machine_parts.specs.SharedInMachines.{HaveAllSegments}
use Rattle.machine_parts.proofs.RunningChanged.{flags_alone, inside_stays}
use Rattle.machine_parts.proofs.SharedChanged.{flags_change_machines}
use Rattle.machine_parts.proofs.TopsGone.{higher_goes_off, lowest_goes_off}
use Rattle.machine_parts.proofs.TopsOfThreads.{split_top, stands_on_top}
use Rattle.domain_crossing.specs.AskedOfCrossings.{MayCross}
use Rattle.domain_crossing.specs.TakenSegments.{AreApart, TopStands}
use Rattle.domain_crossing.proofs.FramesOfParts.{HaveFrames, changes_running, frames_flagged, frames_set, higher_taken, lower_there, lowest_taken, stored, thread_there as shared_thread_there}
use Rattle.domain_crossing.proofs.PartsEntered.{sealed_apart}
use Rattle.domain_crossing.proofs.PartsLeft.{apart_below}
use Rattle.domain_crossing.proofs.SegmentsFound.{lower_numbered, none_on_top}

-- ---- What stands on top.

pub apart_in_shared : (p : MachineParts) → AreSegmentsApart (machine_of p) → AreApart p.shared.threads
apart_in_shared p h = record {
  threads = λ i j a b at there same.
      h.threads i j (thread_with_frames p.frames a) (thread_with_frames p.frames b) (mapped_at (thread_with_frames p.frames) p.shared.threads i a at)
      (mapped_at (thread_with_frames p.frames) p.shared.threads j b there) same;
  segments = λ i j k l a b s r at there in_it other same.
      h.segments i j k l (thread_with_frames p.frames a) (thread_with_frames p.frames b) (segment_with_frames p.frames s)
      (segment_with_frames p.frames r) (mapped_at (thread_with_frames p.frames) p.shared.threads i a at)
      (mapped_at (thread_with_frames p.frames) p.shared.threads j b there) (mapped_at (segment_with_frames p.frames) a.segments k s in_it)
      (mapped_at (segment_with_frames p.frames) b.segments l r other) same;
}

module _ (p : MachineParts) (t : ThreadNo) (r : RunningSegment (machine_of p) t) where
  pub stands : StandsOnTop p t r
  stands = stands_on_top p t r

  pub top_is : top_of stands.thread.segments ≡ Some stands.segment
  top_is = sym (ap (option_and_then (λ (e : SharedThread). top_of e.segments)) stands.is_thread) ∙ stands.is_top

  abbrev pub top : TopStands p.shared.threads t
  top = record {
    thread = stands.thread;
    is_thread = stands.is_thread;
    lower = without_top stands.thread.segments;
    segment = stands.segment;
    are_segments = split_top stands.thread.segments stands.segment top_is;
  }

-- what becomes the top frame of a segment stands there
pub set_so : (old new : FrameContent) (n : SegmentNo) (stood : StoredSegment) (callers : List FrameState) (caller g : FrameState)
    → old.segment n ≡ Some stood → stood.frames ≡ callers ++ caller ∷ [] → SetsTop old new n g
    → Changes old new n stood.domain (Some (let s : StoredSegment = record { domain = stood.domain; frames = callers ++ g ∷ [] } in s)) (old.used stood.domain)
set_so old new n stood callers caller g is are sets =
    let same : sets.1.segment ≡ stood = same_Some sets.1.segment stood (sym sets.1.is_there ∙ is) in
    let lists : sets.1.lower ++ sets.0 ∷ [] ≡ callers ++ caller ∷ [] =
    sym sets.1.frames ∙ ap (λ (s : StoredSegment). s.frames) same ∙ are in
    let lower : sets.1.lower ≡ callers = (one_last sets.1.lower callers sets.0 caller lists).0 in
    subst (λ (fs : List FrameState). Changes old new n stood.domain
    (Some (let s : StoredSegment = record { domain = stood.domain; frames = fs ++ g ∷ [] } in s)) (old.used stood.domain)) lower
    (subst (λ (x : StoredSegment). Changes old new n x.domain
    (Some (let s : StoredSegment = record { domain = x.domain; frames = sets.1.lower ++ g ∷ [] } in s)) (old.used x.domain)) same sets.2)

-- ---- It is taken off.

module _ (p : MachineParts) (t : ThreadNo) (cross : MayCross p) (r : RunningSegment (machine_of p) t) where
  pub apart : AreSegmentsApart (machine_of p)
  apart = sealed_apart (machine_of p) cross.sealed

  pub shared_apart : AreApart p.shared.threads
  shared_apart = apart_in_shared p apart

  abbrev pub over : TopStands p.shared.threads t
  over = top p t r

  abbrev pub has : HaveFrames p
  has = record { segments = cross.fitting.segments; chunks = cross.fitting.used.chunks }

  pub all : HaveAllSegments p
  all e there =
      by e.segments refl
      (cross.sealed.threads.segments (thread_with_frames p.frames e) (mapped (thread_with_frames p.frames) p.shared.threads e there))
    where
      by : (segments : List SharedSegment) → e.segments ≡ segments
          → SegmentsFit (machine_of p) (map (segment_with_frames p.frames) e.segments) → has_segments e ≡ true
      by [] is fits = absurd (subst (λ (ss : List SharedSegment). SegmentsFit (machine_of p) (map (segment_with_frames p.frames) ss)) is fits)
      by (s ∷ more) is fits = ap (λ (ss : List SharedSegment). has_segments (record e { segments = ss })) is

  pub is_running : r.segment ≡ segment_with_frames p.frames over.segment
  is_running = (stands p t r).runs

  pub top_there : IsThere p.frames over.segment.number
  top_there = subst (λ (o : Option StoredSegment). IsSome o) (sym (stored p t over shared_apart has)) refl

  module _ (new : FrameContent) (ends : Ends p.frames new over.segment.number) where
    abbrev pub taken_off : MachineParts
    taken_off = record p { shared = popped t p.shared; frames = new }

    abbrev pub kept : ℕ
    kept = p.frames.used over.segment.domain - (1 + frames_chunks (frames_in p.frames over.segment.number))

    pub gone : Changes p.frames new r.segment.shared.number over.segment.domain None kept
    gone = changes_running p t over shared_apart has r is_running apart all new ends

    -- ---- It was the lowest.

    module _ (none : top_of over.lower ≡ None) where
      pub is_lowest : r.lower ≡ []
      is_lowest = (stands p t r).lower ∙ ap (map (segment_with_frames p.frames)) (none_on_top over.lower none)

      pub thread_ended : machine_of taken_off ≡ without_thread t (machine_of p)
      thread_ended = lowest_goes_off p new t r over.segment.domain kept all apart gone is_lowest

      pub frames_ended : HaveFrames taken_off
      frames_ended = lowest_taken p t over shared_apart has r is_running apart all new ends is_lowest

    -- ---- One is below.

    module _ (b : SharedSegment) (is : top_of over.lower ≡ Some b) where
      abbrev pub under : Segment
      under = segment_with_frames p.frames b

      abbrev pub lower : List Segment
      lower = map (segment_with_frames p.frames) (without_top over.lower)

      pub lower_are : r.lower ≡ lower ++ under ∷ []
      lower_are =
          (stands p t r).lower ∙ ap (map (segment_with_frames p.frames)) (split_top over.lower b is)
          ∙ map-append (segment_with_frames p.frames) (without_top over.lower) (b ∷ [])

      pub is_left : machine_of taken_off ≡ without_running r
      is_left = higher_goes_off p new t r over.segment.domain kept all apart gone lower under lower_are

      pub fits : IsSealedSegment (machine_of p) (CallerFits (machine_of p)) under
      fits =
          calls_from (machine_of p) lower under r.segment
          (subst (SegmentsFit (machine_of p))
          (r.are_segments ∙ ap (λ (ss : List Segment). ss ++ r.segment ∷ []) lower_are ∙ append_assoc lower (under ∷ []) (r.segment ∷ []))
          (cross.sealed.threads.segments r.thread (thread_there (machine_of p) t r cross.sealed)))

      abbrev pub taker : LiveDomain (machine_of p) b.domain
      taker = fits.home

      abbrev pub two : TopTwo (machine_of p) t
      two = record {
        left = r;
        below = record {
          thread = record r.thread { segments = r.lower };
          is_thread = thread_set (machine_of p) t r.lower r;
          lower = lower;
          segment = under;
          are_segments = lower_are;
          home = record {
            domain = taker.domain;
            is_domain = taker.is_domain;
            numbered = taker.numbered;
            inside = taker.inside;
            is_inside = taker.is_inside;
          };
        };
      }

      pub left_apart : AreSegmentsApart (without_running r)
      left_apart = apart_below (machine_of p) t r apart

      -- ---- The store has it still.

      abbrev pub placed : PlacedSegment
      placed = record { thread = over.thread; segment = b }

      pub is_placed : segment_numbered p.shared.threads b.number ≡ Some placed
      is_placed = lower_numbered p.shared.threads shared_apart t over b is

      pub below_there : Contains over.thread.segments b × (b.number ≢ over.segment.number)
      below_there =
          lower_there p t over shared_apart has r is_running apart all new ends b
          (subst (λ (ss : List SharedSegment). Contains ss b) (sym (split_top over.lower b is)) (last_there (without_top over.lower) b))
        where
          last_there : (ss : List SharedSegment) (s : SharedSegment) → Contains (ss ++ s ∷ []) s
          last_there ss s = Contains-at (ss ++ s ∷ []) (length ss) s (slice_get-last ss s)

      abbrev pub stored_below : StoredSegment
      stored_below = record { domain = b.domain; frames = under.frames }

      pub stood_below : new.segment b.number ≡ Some stored_below
      stood_below =
          gone.others b.number (λ e. below_there.1 (e ∙ ap (λ (s : Segment). s.shared.number) is_running))
          ∙ cross.fitting.segments.each over.thread b (shared_thread_there p t over shared_apart has) below_there.0

      -- ---- It runs in the parts that are left.

      pub frames_left : HaveFrames taken_off
      frames_left = higher_taken p t over shared_apart has r is_running apart all new ends lower under lower_are

      pub taken_apart : AreSegmentsApart (machine_of taken_off)
      taken_apart = subst AreSegmentsApart (sym is_left) left_apart

      pub runs_on : (q : RunningSegment (machine_of taken_off) t) × (q.segment ≡ under)
      runs_on = subst (λ (x : Machine). (q : RunningSegment x t) × (q.segment ≡ under)) (sym is_left) (two.below, refl)

      abbrev pub now_top : TopStands taken_off.shared.threads t
      now_top = top taken_off t runs_on.0

      pub now_is : now_top.segment ≡ b
      now_is = ap (λ (s : Segment). s.shared) (sym (stands taken_off t runs_on.0).runs ∙ runs_on.1)

      one_left : HaveOneList taken_off
      one_left = record {
        shared = cross.fitting.domains.shared;
        owns = cross.fitting.domains.owns;
        numbered = cross.fitting.domains.numbered;
        same_number = cross.fitting.domains.same_number;
        same_life = cross.fitting.domains.same_life;
      }

      -- ---- A RevokedException is pending for it.

      abbrev pub revoked : MachineParts
      revoked = record taken_off { shared = with_flags b.number (with_revoked true) taken_off.shared }

      pub is_revoked : machine_of revoked ≡ with_revoked_below two
      is_revoked =
          flags_change_machines taken_off b.number (with_revoked true) (λ s. refl)
          ∙ ap (with_stacks (with_segment segment_form b.number (with_revoked true))) is_left
          ∙ flags_alone (without_running r) t two.below (with_revoked true) left_apart
          ∙ ap (λ (x : Machine). with_segments t (lower ++ changed segment_form (with_revoked true) under ∷ []) x)
          (sym (inside_stays (without_running r) b.domain two.below.home cross.sealed.domains.numbered))

      pub frames_revoked : HaveFrames revoked
      frames_revoked =
          subst (λ (s : SharedSegment). HaveFrames (record taken_off { shared = with_flags s.number (with_revoked true) taken_off.shared })) now_is
          (frames_flagged taken_off t now_top (apart_in_shared taken_off taken_apart) frames_left runs_on.0 (stands taken_off t runs_on.0).runs one_left
          taken_apart)

      -- ---- It has other frames, that cost as much.

      module _ (after : FrameContent) (frames : List FrameState) (same : frames_chunks frames ≡ frames_chunks under.frames)
          (changes : Changes new after b.number b.domain (Some (let s : StoredSegment = record { domain = b.domain; frames = frames } in s))
          (new.used b.domain)) where
        abbrev pub went_on : MachineParts
        went_on = record taken_off { frames = after }

        pub frames_on : HaveFrames went_on
        frames_on =
            frames_set taken_off t now_top (apart_in_shared taken_off taken_apart) frames_left after frames (new.used now_top.segment.domain)
            (subst (λ (s : SharedSegment). Changes new after s.number s.domain
            (Some (let g : StoredSegment = record { domain = s.domain; frames = frames } in g)) (new.used s.domain)) (sym now_is) changes) runs_on.0
            (stands taken_off t runs_on.0).runs one_left taken_apart cost
          where
            cost : new.used now_top.segment.domain + frames_chunks (frames_in new now_top.segment.number)
                ≡ new.used now_top.segment.domain + frames_chunks frames
            cost =
                ap (λ (n : ℕ). new.used now_top.segment.domain + n)
                (ap (λ (s : SharedSegment). frames_chunks (frames_in new s.number)) now_is
                ∙ ap (λ (o : Option StoredSegment). frames_chunks (option_map_or (λ (g : StoredSegment). g.frames) o [])) stood_below ∙ sym same)
