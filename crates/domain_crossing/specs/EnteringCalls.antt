-- How a call through a capability goes on once it is known what it runs.
use Rattle.std.specs.Prelude.{◌≡◌, ℕ, ◌+◌, ◌<◌, ◌≤◌, List, ◌∷◌, None}
use Rattle.jk_model.specs.declared.identifiers.SegmentNo.{SegmentNo}
use Rattle.jk_model.specs.declared.identifiers.ThreadNo.{ThreadNo}
use Rattle.jk_model.specs.declared.steps.Raise.TheVariants as Raised
use Rattle.jk_model.specs.declared.steps.Standing.TheVariants as Stands
use Rattle.jk_model.specs.declared.values.Value.{Value}
use Rattle.jk_model.specs.declared.values.Value.TheVariants as Held
use Rattle.jk_model_frames.specs.Frames.{called_frame, head_chunks}
use Rattle.jk_model_sharing.specs.SharedStates.{SharedState, pushed}
use Rattle.object_store.specs.HeapContents.{HeapContent, IsSame}
use Rattle.frame_store.specs.FrameContents.{FrameContent, IsAdmitted, free_chunks}
use Rattle.graph_copy.specs.declared.answers.CopyAnswer.TheVariants as Answered
use Rattle.graph_copy.specs.CopyAnswers.{Copies, CopyAnswers}
use Rattle.thread_segments.specs.Asked.{HasRoomForSegment, IsLiveDomain, IsLiveThread, MayDrawSegment}
use Rattle.domain_crossing.specs.declared.answers.Crossed.{Crossed}
use Rattle.domain_crossing.specs.declared.answers.Crossed.TheVariants as Called
use Rattle.domain_crossing.specs.declared.callees.Callee.{Callee}
use Rattle.domain_crossing.specs.MovedArguments.{FitsLocals, HasArrived, StandsToCall}
use Rattle.domain_crossing.specs.PassedValues.{Crossing}

abbrev pub next_segment : SharedState → SegmentNo
next_segment s = record { 0 = s.next_segment }

-- A segment of the owner may be put on top of the thread.
pub record MayArriveAt (s : SharedState) (frames : FrameContent) (t : ThreadNo) (callee : Callee) : Type 0 where
  pub live : IsLiveDomain s callee.owner
  pub thread : IsLiveThread s t
  pub number : MayDrawSegment s
  pub admitted : IsAdmitted frames callee.owner
  pub new : frames.segment (next_segment s) ≡ None
  -- each segment costs a chunk at least, and so where one is free there is room for another segment
  pub room : 1 ≤ free_chunks frames callee.owner → HasRoomForSegment s callee.owner

-- what a segment and a frame of the callee cost
abbrev pub chunks_for : Callee → ℕ
chunks_for callee = 1 + head_chunks callee.head

-- The first rule that applies refuses the call, and all is as before; or the arguments have been copied, and the segment has begun.
pub data EntersSo (x : Crossing) (s : SharedState) {frames : FrameContent} {n : SegmentNo} (call : StandsToCall frames n) (t : ThreadNo) (callee : Callee)
    : Crossed → HeapContent → SharedState → FrameContent → Type 0 where
  is_uncopied : (a : ℕ) (new : HeapContent) → CopyAnswers x.heap x.world x.from x.to call.given (Answered.NotCopiable a) → IsSame x.heap new
      → EntersSo x s call t callee (Called.Refused (Raised.Standing Stands.NotCopiable)) new s frames
  has_no_room : (words : ℕ) (new : HeapContent) → CopyAnswers x.heap x.world x.from x.to call.given (Answered.NoRoom words) → IsSame x.heap new
      → EntersSo x s call t callee (Called.Refused (Raised.Standing Stands.Quota)) new s frames
  has_no_chunks : (new : HeapContent) → CopyAnswers x.heap x.world x.from x.to call.given Answered.Copied → IsSame x.heap new
      → free_chunks frames callee.owner < chunks_for callee
      → EntersSo x s call t callee (Called.Refused (Raised.Standing Stands.Quota)) new s frames
  enters : (values : List Value) (new : HeapContent) (after : FrameContent) → CopyAnswers x.heap x.world x.from x.to call.given Answered.Copied
      → Copies x.heap new x.world.classes x.from x.to call.given values → chunks_for callee ≤ free_chunks frames callee.owner
      → HasArrived call (next_segment s) callee.owner (called_frame callee.head (Held.Obj callee.target ∷ values)) after
      → EntersSo x s call t callee Called.Entered new (pushed t callee.owner s) after

-- whatever the copies are, they fit the callee's locals
abbrev pub CopiesFitLocals : Crossing → Callee → List Value → Type 0
CopiesFitLocals x callee given =
    (new : HeapContent) (values : List Value) → CopyAnswers x.heap x.world x.from x.to given Answered.Copied
    → Copies x.heap new x.world.classes x.from x.to given values → FitsLocals callee.head (Held.Obj callee.target ∷ values)
