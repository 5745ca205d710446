-- A frame that runs stands at an instruction of its method, whose typing tells what the frame holds before it and after it.
use Rattle.std.specs.Prelude.{◌≡◌, ℕ, ℤ, pos, List}
use Rattle.jk_model_classes.specs.declared.records.ClassRecord.{ClassRecord}
use Rattle.jk_model_typing.specs.declared.frames.FrameType.{FrameType}
use Rattle.jk_model_typing.specs.Typing.{GoesOnAt}
use Rattle.jk_model_frames.specs.Frames.{FrameState}
use Rattle.jk_model_domains.specs.Objects.{NamedObject}
use Rattle.jk_model_domains.specs.ValueTypes.{FrameHolds}
use Rattle.jk_model_heaps.specs.CalledFrames.{at_place}
use Rattle.jk_model_heaps.specs.RunningCode.{RunsCode}
use Rattle.jk_model_heaps.specs.Workings.{Setting, Working}
use Rattle.jk_model_sealing.specs.FittingFrames.{FitsHere}
use Rattle.jk_model_sealing.specs.SealedInsides.{Surroundings}
use Rattle.erased_typings.specs.ErasedFrames.{IsErasedFrame}
use Rattle.number_laws.specs.FrameLaws.{IsTyped}
use Rattle.heap_laws.specs.RunningFrames.{RunsWell}

-- What is known of a frame at its instruction. A frame with the same head, whatever the heap is then, fits there as long as it holds what
-- is asked there, and wherever control goes on once it holds what the instruction leaves.
pub record StandsTyped (classes : List ClassRecord) (heap : List NamedObject) (f : FrameState) (code : RunsCode classes f) : Type 0 where
  pub before : FrameType
  pub after : FrameType
  pub typed : IsTyped code.scope heap f.head.at code.instr f before after
  pub erased : IsErasedFrame code.scope.classes before
  pub within : (next : ℤ) → GoesOnAt f.head.at code.instr next → (n : ℕ) × (next ≡ pos n)
  pub stays : (new : List NamedObject) (g : FrameState) → g.head ≡ f.head → FrameHolds code.scope new g before → FitsHere classes new g
  pub goes_on : (new : List NamedObject) (g : FrameState) (n : ℕ) → g.head ≡ f.head → FrameHolds code.scope new g after
      → GoesOnAt f.head.at code.instr (pos n) → FitsHere classes new (at_place g n)

abbrev pub RunningFramesHaveCode : Type 0
RunningFramesHaveCode = (around : Surroundings) (x : Setting) (w : Working) → RunsWell around x w → RunsCode around.classes w.frame

abbrev pub RunningFramesAreTyped : Type 0
RunningFramesAreTyped =
    (around : Surroundings) (x : Setting) (w : Working) → RunsWell around x w → (code : RunsCode around.classes w.frame)
    → StandsTyped around.classes w.inside.heap w.frame code

abbrev pub CodeIsOne : Type 0
CodeIsOne = (classes : List ClassRecord) (f : FrameState) (a b : RunsCode classes f) → (a.scope ≡ b.scope) × (a.instr ≡ b.instr)
