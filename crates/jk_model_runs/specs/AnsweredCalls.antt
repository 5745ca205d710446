-- What holds besides at every moment of a run from the first machine on: each segment has a frame, its lowest frame initialises no class,
-- and what stands above a call answers with the call's result type, also in the segment above, unless that is an orphan. Of a machine in
-- which one domain is replayed alone this isn't asked.
use Rattle.std.specs.Prelude.{◌≡◌, ◌⊎◌, ⊤, true, List, [], ◌∷◌, ◌++◌, Contains}
use Rattle.jk_model_classes.specs.declared.records.ClassRecord.{ClassRecord}
use Rattle.jk_model_frames.specs.Frames.{FrameState}
use Rattle.jk_model_sealing.specs.AnsweringFrames.{FrameAnswers, FramesAnswer}
use Rattle.jk_model_machine_state.specs.Machines.{Machine, Segment, Thread}

-- the lowest frame of the one segment answers the top frame of the one below it
pub record SegmentAnswers (classes : List ClassRecord) (s above : Segment) : Type 0 where
  pub callers : List FrameState
  pub caller : FrameState
  pub are_below : s.frames ≡ callers ++ caller ∷ []
  pub lowest : FrameState
  pub others : List FrameState
  pub are_above : above.frames ≡ lowest ∷ others
  pub answers : FrameAnswers classes caller lowest

abbrev pub SegmentsAnswer : List ClassRecord → List Segment → Type 0
SegmentsAnswer classes [] = ⊤
SegmentsAnswer classes (s ∷ []) = FramesAnswer classes s.frames
SegmentsAnswer classes (s ∷ above ∷ more) =
    FramesAnswer classes s.frames × ((above.shared.orphan ≡ true) ⊎ SegmentAnswers classes s above) × SegmentsAnswer classes (above ∷ more)

pub record AreCallsAnswered (m : Machine) : Type 0 where
  pub segments : (thread : Thread) → Contains m.threads thread → SegmentsAnswer m.classes thread.segments
