-- Where the top frame of a segment stands, for whoever goes on from there without looking it up again.
use Rattle.std.specs.Prelude.{◌≡◌, List, None}
use Rattle.jk_model.specs.declared.identifiers.SegmentNo.{SegmentNo}
use Rattle.jk_model_classes.specs.declared.records.ClassRecord.{ClassRecord}
use Rattle.jk_model_frames.specs.Frames.{FrameState}
use Rattle.frame_store.specs.FrameContents.{FrameContent, TopFrame}
use Rattle.step_contents.specs.PlacesInCode.{IsPlaceIn, PlaceInCode}

-- The segment's top frame, which has no need, stands there.
pub record StandsThere (frames : FrameContent) (classes : List ClassRecord) (s : SegmentNo) (at : PlaceInCode) : Type 0 where
  pub frame : FrameState
  pub top : TopFrame frames s frame
  pub head : at.head ≡ frame.head
  pub no_need : at.head.need ≡ None
  pub place : IsPlaceIn classes at
