-- A throwable on its way through the frames of a segment: it is caught, or leaves them all, and what it leaves is kept.
use Rattle.std.specs.Prelude.{◌≡◌, ◌≤◌, ℕ, List, [], ◌∷◌, ◌++◌}
use Rattle.jk_model.specs.declared.identifiers.ThreadNo.{ThreadNo}
use Rattle.jk_model.specs.declared.values.Value.{Value}
use Rattle.jk_model_classes.specs.declared.records.Caught.{Caught}
use Rattle.jk_model_classes.specs.declared.records.ClassRecord.{ClassRecord}
use Rattle.jk_model_frames.specs.Frames.{FrameState, frames_chunks}
use Rattle.jk_model_domains.specs.Objects.{NamedObject}
use Rattle.jk_model_heaps.specs.declared.shapes.Unwound.{Unwound}
use Rattle.jk_model_heaps.specs.declared.shapes.Unwound.TheVariants as Ended
use Rattle.jk_model_heaps.specs.Workings.{Run, Setting}
use Rattle.jk_model_sealing.specs.AnsweringFrames.{FramesAnswer}
use Rattle.jk_model_sealing.specs.FittingFrames.{FitsAsTop, HasTyping}
use Rattle.jk_model_sealing.specs.SealedInsides.{Surroundings}
use Rattle.jk_model_sealing.specs.SealedRuns.{AreSealedFrames, IsSealedRun}
use Rattle.jk_model_unwinding.specs.Unwinding.{Catches, Unwinds}
use Rattle.heap_laws.specs.ClassesInProgress.{AreInProgress, KeepsProgress}
use Rattle.heap_laws.specs.KeptInsides.{KeepsInside}
use Rattle.heap_laws.specs.RaisableObjects.{IsThrowable, KeepsStates, MayMeetRaise}
use Rattle.heap_laws.specs.RunningFrames.{IsKnownSetting}

-- the segment may be unwound by this object
pub record MayUnwind (around : Surroundings) (x : Setting) (run : Run) (a : ℕ) : Type 0 where
  pub setting : IsKnownSetting around x
  pub sealed : IsSealedRun around x.quota (MayMeetRaise around.classes run.inside.heap) run
  pub throwable : IsThrowable around.classes run.inside.heap a

-- ---- There is a way.

abbrev pub WaysAreThere : Type 0
WaysAreThere =
    (around : Surroundings) (x : Setting) (run : Run) (a : ℕ) → MayUnwind around x run a → KeepsStates run.inside.own run.frames
    → (unwound : Unwound) × (new : Run) × Unwinds x run a unwound new

-- a frame that catches has room for the throwable on its stack
abbrev pub CatchersHaveRoom : Type 0
CatchersHaveRoom =
    (x : Setting) (heap : List NamedObject) (f : FrameState) (a : ℕ) (h : Caught) → HasTyping x.classes f → Catches x heap f a h
    → 1 ≤ f.head.max_stack

-- ---- What is kept.

-- the frame that caught it runs, over those that stood below it; or no frame is left
abbrev pub FitsUnwound : Surroundings → Run → Unwound → Type 0
FitsUnwound around new Ended.Caught =
    AreSealedFrames around (FitsAsTop around.classes new.inside.heap) new.inside.heap new.frames
FitsUnwound around new (Ended.Uncaught a) = (new.frames ≡ []) × IsThrowable around.classes new.inside.heap a

pub record KeepsUnwound (around : Surroundings) (x : Setting) (t : ThreadNo) (old new : Run) (unwound : Unwound) : Type 0 where
  pub inside : KeepsInside around x old.inside new.inside
  pub fits : FitsUnwound around new unwound
  pub progress : KeepsProgress t old new
  pub fewer : frames_chunks new.frames ≤ frames_chunks old.frames

abbrev pub UnwindingKeeps : Type 0
UnwindingKeeps =
    (around : Surroundings) (x : Setting) (t : ThreadNo) (old new : Run) (a : ℕ) (unwound : Unwound) → MayUnwind around x old a
    → AreInProgress t old → Unwinds x old a unwound new → KeepsUnwound around x t old new unwound

-- calls stay answered by what stands above them
abbrev pub UnwindingKeepsAnswers : Type 0
UnwindingKeepsAnswers =
    (classes : List ClassRecord) (x : Setting) (old new : Run) (a : ℕ) → FramesAnswer classes old.frames
    → Unwinds x old a Ended.Caught new → FramesAnswer classes new.frames

-- ---- What is on the top frame's stack is nothing to it.

abbrev pub with_stack : List FrameState → FrameState → List Value → List FrameState
with_stack callers f stack = callers ++ record f { stack = stack } ∷ []

abbrev pub UnwindingReadsNoStack : Type 0
UnwindingReadsNoStack =
    (x : Setting) (old new : Run) (callers : List FrameState) (f : FrameState) (stack : List Value) (a : ℕ) (unwound : Unwound)
    → old.frames ≡ callers ++ f ∷ [] → Unwinds x old a unwound new
    → Unwinds x (record old { frames = with_stack callers f stack }) a unwound new
