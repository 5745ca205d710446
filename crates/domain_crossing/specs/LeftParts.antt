-- What a segment that is left does to the parts where the caller goes on with an answer, and that it is so to the machine.
use Rattle.std.specs.Prelude.{◌≡◌, ℕ, List, Some, None}
use Rattle.jk_model.specs.declared.identifiers.DomainId.{DomainId}
use Rattle.jk_model.specs.declared.identifiers.ThreadNo.{ThreadNo}
use Rattle.jk_model_domains.specs.Objects.{NamedObject}
use Rattle.jk_model_frames.specs.Frames.{FrameState}
use Rattle.jk_model_heaps.specs.Workings.{with_heap}
use Rattle.jk_model_sharing.specs.SharedStates.{popped}
use Rattle.jk_model_machine_state.specs.Places.{with_running}
use Rattle.jk_model_crossings.specs.Throwing.{TopTwo}
use Rattle.jk_model_runs.specs.Sealed.{IsSealed}
use Rattle.object_store.specs.HeapContents.{HeapBecomes}
use Rattle.frame_store.specs.FrameContents.{Changes, FrameContent}
use Rattle.machine_parts.specs.FittingParts.{HaveOneList}
use Rattle.machine_parts.specs.MachineParts.{MachineParts, machine_of}
use Rattle.machine_parts.specs.SharedInMachines.{HaveAllSegments}

-- The heap of the domain below becomes this one, and its segment has these frames.
pub record LeavesInParts (p : MachineParts) (t : ThreadNo) (s : TopTwo (machine_of p) t) (heap : List NamedObject) (frames : List FrameState)
    (new : MachineParts) : Type 0 where
  -- the segment that is left goes with its frames
  pub mid : FrameContent
  pub owner : DomainId
  pub kept : ℕ
  pub gone : Changes p.frames mid s.left.segment.shared.number owner None kept
  pub chunks : ℕ
  pub below : Changes mid new.frames s.below.segment.shared.number s.below.segment.shared.domain
      (Some (record { domain = s.below.segment.shared.domain; frames = frames })) chunks
  pub words : ℕ
  pub copied : HeapBecomes p.heap new.heap s.below.segment.shared.domain heap words
  pub popped_off : new.shared ≡ popped t p.shared
  pub world : new.world ≡ p.world
  pub owns : new.owns ≡ p.owns

abbrev pub LeavesChangeMachines : Type 0
LeavesChangeMachines =
    (p new : MachineParts) (t : ThreadNo) (s : TopTwo (machine_of p) t) (heap : List NamedObject) (frames : List FrameState) → HaveOneList p
    → HaveAllSegments p → IsSealed (machine_of p) → LeavesInParts p t s heap frames new
    → machine_of new ≡ with_running s.below (record s.below.segment { frames = frames }) (with_heap s.below.home.inside heap)
