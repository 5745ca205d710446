-- What a call that enters does to the parts, and that it is so to the machine: copies in the owner's heap, the caller's frame without its arguments, a
-- new segment with one frame, and that segment on top of the thread.
use Rattle.std.specs.Prelude.{◌≡◌, ℕ, List, [], ◌∷◌, ◌++◌, Some}
use Rattle.jk_model.specs.declared.identifiers.ThreadNo.{ThreadNo}
use Rattle.jk_model_domains.specs.Objects.{NamedObject}
use Rattle.jk_model_frames.specs.Frames.{FrameState}
use Rattle.jk_model_sharing.specs.SharedStates.{pushed}
use Rattle.jk_model_machine_state.specs.Machines.{Machine}
use Rattle.jk_model_machine_state.specs.Places.{LiveDomain}
use Rattle.jk_model_crossings.specs.RemoteCalls.{RemoteCall, arrived, departed}
use Rattle.jk_model_runs.specs.Sealed.{IsSealed}
use Rattle.object_store.specs.HeapContents.{HeapBecomes}
use Rattle.frame_store.specs.FrameContents.{Changes, FrameContent}
use Rattle.machine_parts.specs.ChangedParts.{AreSegmentsApart}
use Rattle.machine_parts.specs.FittingParts.{HaveOneList}
use Rattle.machine_parts.specs.MachineParts.{MachineParts, machine_of}

-- The owner's heap becomes this one, and the segment begins with this frame.
pub record EntersInParts (p : MachineParts) (t : ThreadNo) (c : RemoteCall (machine_of p) t) (heap : List NamedObject) (frame : FrameState)
    (new : MachineParts) : Type 0 where
  pub words : ℕ
  pub copied : HeapBecomes p.heap new.heap c.known.owner heap words
  -- between the two changes of the store of frames
  pub mid : FrameContent
  pub kept : ℕ
  pub taken : Changes p.frames mid c.place.segment.shared.number c.place.segment.shared.domain
      (Some (record { domain = c.place.segment.shared.domain; frames = c.callers ++ record c.frame { stack = c.below } ∷ [] })) kept
  pub chunks : ℕ
  pub begun : Changes mid new.frames (record { 0 = p.shared.next_segment }) c.known.owner
      (Some (record { domain = c.known.owner; frames = frame ∷ [] })) chunks
  pub on_top : new.shared ≡ pushed t c.known.owner p.shared
  pub world : new.world ≡ p.world
  pub owns : new.owns ≡ p.owns

abbrev pub EntersChangeMachines : Type 0
EntersChangeMachines =
    (p new : MachineParts) (t : ThreadNo) (c : RemoteCall (machine_of p) t) (owner : LiveDomain (machine_of p) c.known.owner)
    (heap : List NamedObject) (frame : FrameState) → HaveOneList p → IsSealed (machine_of p) → EntersInParts p t c heap frame new
    → machine_of new ≡ arrived owner t heap frame (departed c)

-- segments of a sealed machine have different numbers, and so have its threads
abbrev pub SealedAreApart : Type 0
SealedAreApart = (m : Machine) → IsSealed m → AreSegmentsApart m
