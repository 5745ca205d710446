-- What a change of what domains share is to the machine: flags of segments, a domain's capabilities, and segments that come and go. The frames of
-- a segment that comes stand in the store under the number that it draws.
use Rattle.std.specs.Prelude.{◌≡◌, suc, true, List, [], ◌∷◌, ◌++◌, Contains}
use Rattle.jk_model.specs.declared.identifiers.DomainId.{DomainId}
use Rattle.jk_model.specs.declared.identifiers.SegmentNo.{SegmentNo}
use Rattle.jk_model.specs.declared.identifiers.ThreadNo.{ThreadNo}
use Rattle.jk_model_frames.specs.Frames.{FrameState}
use Rattle.jk_model_heaps.specs.Capabilities.{CapRange}
use Rattle.jk_model_sharing.specs.Segments.{SharedSegment, SharedThread, has_segments, with_segment}
use Rattle.jk_model_sharing.specs.SharedStates.{begun, popped, pushed, with_caps, with_flags}
use Rattle.jk_model_machine_state.specs.Machines.{DomainState, Machine, Segment, Thread, segment_form, with_domain, with_stacks, with_thread, without_thread}
use Rattle.jk_model_machine_state.specs.Places.{RunningSegment, first_segment, with_segment_drawn, without_top}
use Rattle.machine_parts.specs.ChangedParts.{AreSegmentsApart, with_frames_of}
use Rattle.machine_parts.specs.FittingParts.{HaveOneList}
use Rattle.machine_parts.specs.MachineParts.{MachineParts, frames_in, machine_of}

-- ---- Flags of the segment of a number, and a domain's capabilities.

abbrev pub FlagsChangeMachines : Type 0
FlagsChangeMachines =
    (p : MachineParts) (n : SegmentNo) (change : SharedSegment → SharedSegment) → ((s : SharedSegment) → (change s).number ≡ s.number)
    → machine_of (record p { shared = with_flags n change p.shared })
    ≡ with_stacks (with_segment segment_form n change) (machine_of p)

abbrev pub CapsChangeMachines : Type 0
CapsChangeMachines =
    (p : MachineParts) (d : DomainId) (range : CapRange) → HaveOneList p
    → machine_of (record p { shared = with_caps d range p.shared })
    ≡ with_domain d (λ (e : DomainState). record e { caps = range }) (machine_of p)

-- ---- A segment comes.

-- on top of a thread
abbrev pub PushesChangeMachines : Type 0
PushesChangeMachines =
    (p : MachineParts) (t : ThreadNo) (d : DomainId) (frame : FrameState)
    → frames_in p.frames (record { 0 = p.shared.next_segment }) ≡ frame ∷ []
    → machine_of (record p { shared = pushed t d p.shared })
    ≡ with_segment_drawn (with_thread t (λ (e : Thread). record e { segments = e.segments ++ first_segment (machine_of p) d frame ∷ [] }) (machine_of p))

-- or in a new thread
abbrev pub StartsChangeMachines : Type 0
StartsChangeMachines =
    (p : MachineParts) (d : DomainId) (frame : FrameState)
    → frames_in p.frames (record { 0 = p.shared.next_segment }) ≡ frame ∷ []
    → machine_of (record p { shared = begun d p.shared })
    ≡ with_segment_drawn (record (machine_of p) {
      threads = (machine_of p).threads
          ++ record { number = record { 0 = (machine_of p).next_thread }; domain = d; segments = first_segment (machine_of p) d frame ∷ [] } ∷ [];
      next_thread = suc (machine_of p).next_thread;
    })

-- ---- The top segment goes, and the thread with its lowest one. Then its frames go from the store, which changes nothing any more.

abbrev pub HaveAllSegments : MachineParts → Type 0
HaveAllSegments p = (e : SharedThread) → Contains p.shared.threads e → has_segments e ≡ true

pub record PopsChangeMachines : Type 0 where
  pub lowest : (p : MachineParts) (t : ThreadNo) (r : RunningSegment (machine_of p) t) → HaveAllSegments p → AreSegmentsApart (machine_of p)
      → r.lower ≡ [] → machine_of (record p { shared = popped t p.shared }) ≡ without_thread t (machine_of p)
  pub higher : (p : MachineParts) (t : ThreadNo) (r : RunningSegment (machine_of p) t) (lower : List Segment) (below : Segment) → HaveAllSegments p
      → AreSegmentsApart (machine_of p) → r.lower ≡ lower ++ below ∷ []
      → machine_of (record p { shared = popped t p.shared }) ≡ without_top r
  pub gone : (m : Machine) (n : SegmentNo) (frames : List FrameState)
      → ((thread : Thread) (s : Segment) → Contains m.threads thread → Contains thread.segments s → s.shared.number.0 ≡ n.0 → ⊥)
      → with_frames_of n frames m ≡ m
