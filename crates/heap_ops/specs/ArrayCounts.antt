-- Counts of arrays, as ints on top of the operand stack of a segment's top frame.
use Rattle.std.specs.Prelude.{◌≡◌, List, ℤ, ◌++◌, map}
use Rattle.jk_model.specs.declared.identifiers.SegmentNo.{SegmentNo}
use Rattle.jk_model.specs.declared.values.Value.{Value}
use Rattle.jk_model.specs.declared.values.Value.TheVariants as Held
use Rattle.jk_model_frames.specs.Frames.{FrameState}
use Rattle.frame_store.specs.FrameContents.{FrameContent, TopFrame}

-- These ints are on top.
pub record AreIntsOnTop (c : FrameContent) (s : SegmentNo) (ints : List ℤ) : Type 0 where
  pub frame : FrameState
  pub top : TopFrame c s frame
  pub below : List Value
  pub stack : frame.stack ≡ below ++ map Held.Int ints
