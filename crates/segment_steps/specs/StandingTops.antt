-- Whether the top frame of a segment waits for a class that another thread initialises.
use Rattle.std.specs.Prelude.{List}
use Rattle.jk_model.specs.declared.identifiers.ClassId.{ClassId}
use Rattle.jk_model.specs.declared.identifiers.SegmentNo.{SegmentNo}
use Rattle.jk_model.specs.declared.identifiers.ThreadNo.{ThreadNo}
use Rattle.jk_model_classes.specs.declared.records.ClassRecord.{ClassRecord}
use Rattle.jk_model_domains.specs.OwnStates.{OwnState}
use Rattle.jk_model_frames.specs.Frames.{FrameState}
use Rattle.jk_model_running.specs.Initialising.{FrameNeeds, IsInProgressElsewhere}
use Rattle.frame_store.specs.FrameContents.{FrameContent, TopFrame}

-- no other thread initialises the class that the segment's top frame needs
abbrev pub WaitsForNone : FrameContent → List ClassRecord → SegmentNo → OwnState → ThreadNo → Type 0
WaitsForNone frames classes s own t =
    (f : FrameState) (c : ClassId) → TopFrame frames s f → FrameNeeds classes f c → IsInProgressElsewhere own t c → ⊥
