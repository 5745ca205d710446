-- What a change of the running segment in a part is to the machine. The segments of a machine have different numbers, so that the segment of the
-- running one's number is the running one; and a domain that is set to what it has is as it was.
use Rattle.std.specs.Prelude.{◌≡◌, ℕ, List, [], ◌∷◌, ◌++◌, Some, None, slice_get}
use Rattle.jk_model.specs.declared.identifiers.DomainId.{DomainId}
use Rattle.jk_model.specs.declared.identifiers.ThreadNo.{ThreadNo}
use Rattle.jk_model_frames.specs.Frames.{FrameState}
use Rattle.jk_model_sharing.specs.Segments.{SharedSegment, changed, with_segment}
use Rattle.jk_model_sharing.specs.SharedStates.{popped}
use Rattle.jk_model_sharing.specs.SharedStates.{with_flags as with_shared_flags}
use Rattle.jk_model_machine_state.specs.Machines.{DomainState, Machine, Segment, segment_form, with_inside, with_segments, with_stacks, without_thread}
use Rattle.jk_model_machine_state.specs.Places.{LiveDomain, RunningSegment, with_flags, with_running, without_top}
use Rattle.frame_store.specs.FrameContents.{Changes, FrameContent}
use Rattle.machine_parts.specs.ChangedParts.{AreSegmentsApart}
use Rattle.machine_parts.specs.FittingParts.{HaveOneList}
use Rattle.machine_parts.specs.MachineParts.{MachineParts, machine_of}
use Rattle.machine_parts.specs.SharedInMachines.{HaveAllSegments}

pub record RunsChangeMachines : Type 0 where
  -- a live domain is set to what it has
  pub stays : (m : Machine) (d : DomainId) (l : LiveDomain m d) → ((i : ℕ) (e : DomainState) → slice_get m.domains i ≡ Some e → e.number.0 ≡ i)
      → with_inside d l.inside m ≡ m
  -- flags of the segment of its number
  pub alone : (m : Machine) (t : ThreadNo) (r : RunningSegment m t) (change : SharedSegment → SharedSegment) → AreSegmentsApart m
      → with_stacks (with_segment segment_form r.segment.shared.number change) m
      ≡ with_segments t (r.lower ++ changed segment_form change r.segment ∷ []) m
  -- other frames in the store, and other flags in what is shared
  pub frames : (p : MachineParts) (new : FrameContent) (t : ThreadNo) (r : RunningSegment (machine_of p) t) (d : DomainId) (frames : List FrameState)
      (used : ℕ) → HaveOneList p → AreSegmentsApart (machine_of p)
      → Changes p.frames new r.segment.shared.number d (Some (record { domain = d; frames = frames })) used
      → machine_of (record p { frames = new }) ≡ with_running r (record r.segment { frames = frames }) r.home.inside
  pub flags : (p : MachineParts) (t : ThreadNo) (r : RunningSegment (machine_of p) t) (change : SharedSegment → SharedSegment)
      → ((s : SharedSegment) → (change s).number ≡ s.number) → HaveOneList p → AreSegmentsApart (machine_of p)
      → machine_of (record p { shared = with_shared_flags r.segment.shared.number change p.shared }) ≡ with_flags r (change r.segment.shared)

-- The top segment goes from what domains share, and its frames from the store; with the lowest one the thread goes.
pub record TopsGoFromMachines : Type 0 where
  pub higher : (p : MachineParts) (mid : FrameContent) (t : ThreadNo) (r : RunningSegment (machine_of p) t) (d : DomainId) (used : ℕ)
      (lower : List Segment) (below : Segment) → HaveAllSegments p → AreSegmentsApart (machine_of p) → r.lower ≡ lower ++ below ∷ []
      → Changes p.frames mid r.segment.shared.number d None used
      → machine_of (record p { shared = popped t p.shared; frames = mid }) ≡ without_top r
  pub lowest : (p : MachineParts) (mid : FrameContent) (t : ThreadNo) (r : RunningSegment (machine_of p) t) (d : DomainId) (used : ℕ)
      → HaveAllSegments p → AreSegmentsApart (machine_of p) → r.lower ≡ [] → Changes p.frames mid r.segment.shared.number d None used
      → machine_of (record p { shared = popped t p.shared; frames = mid }) ≡ without_thread t (machine_of p)
