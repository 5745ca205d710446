-- Where the top frame of a segment goes on that catches an object.
use Rattle.std.specs.Prelude.{◌≡◌, ℕ, List, Some, slice_get}
use Rattle.jk_model.specs.declared.frames.FrameHead.{FrameHead}
use Rattle.jk_model.specs.declared.identifiers.SegmentNo.{SegmentNo}
use Rattle.jk_model.specs.declared.instructions.Instr.{Instr}
use Rattle.jk_model_classes.specs.declared.records.ClassRecord.{ClassRecord}
use Rattle.frame_store.specs.FrameContents.{FrameContent}
use Rattle.step_contents.specs.PlacesInCode.{IsPlaceIn, PlaceInCode}
use Rattle.step_contents.specs.StandingTops.{StandsThere}

-- The frame stands at this place of the same code, where there is an instruction.
pub record StandsInCode (frames : FrameContent) (classes : List ClassRecord) (s : SegmentNo) (at : PlaceInCode) (n : ℕ) : Type 0 where
  pub instr : Instr
  pub there : slice_get at.scope.code.instrs n ≡ Some instr
  pub stands : StandsThere frames classes s (record at { head = record at.head { at = n }; instr = instr })

-- wherever in its code the frame with this head stood
abbrev pub StandsAtHandler : FrameContent → List ClassRecord → SegmentNo → FrameHead → ℕ → Type 0
StandsAtHandler frames classes s head n =
    (at : PlaceInCode) → at.head ≡ head → IsPlaceIn classes at → StandsInCode frames classes s at n
