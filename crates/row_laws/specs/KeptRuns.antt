-- What one step keeps of a segment and its domain, by what it comes to.
use Rattle.std.specs.Prelude.{◌≡◌, ◌+◌, ◌≤◌, List, [], ◌∷◌, Option}
use Rattle.jk_model.specs.declared.identifiers.ThreadNo.{ThreadNo}
use Rattle.jk_model_classes.specs.declared.records.ClassRecord.{ClassRecord}
use Rattle.jk_model_classes.specs.declared.records.TypeRef.{TypeRef}
use Rattle.jk_model_frames.specs.Frames.{FrameState, frames_chunks}
use Rattle.jk_model_heaps.specs.Workings.{Run, Setting}
use Rattle.jk_model_running.specs.LocalSteps.{TopFrame}
use Rattle.jk_model_running.specs.Ways.{Went, GoesOn, Says, Ended, Left, Crosses, Asks, Terminates}
use Rattle.jk_model_sealing.specs.AnsweringFrames.{FramesAnswer, GivesResult}
use Rattle.jk_model_sealing.specs.FittingFrames.{FitsAsTop, FitsAtCall}
use Rattle.jk_model_sealing.specs.SealedInsides.{Surroundings}
use Rattle.jk_model_sealing.specs.SealedRuns.{AreSealedFrames, IsSealedRun}
use Rattle.heap_laws.specs.ClassesInProgress.{AreInProgress, KeepsProgress}
use Rattle.heap_laws.specs.FittingOutcomes.{AwaitsAnswer, IsResult, StandsAtCrossing}
use Rattle.heap_laws.specs.KeptInsides.{KeepsInside}
use Rattle.heap_laws.specs.RaisableObjects.{IsThrowable}
use Rattle.heap_laws.specs.RunningFrames.{IsKnownSetting}

-- What is known of a segment that acts.
pub record ActsWell (around : Surroundings) (x : Setting) (t : ThreadNo) (run : Run) : Type 0 where
  pub setting : IsKnownSetting around x
  pub sealed : IsSealedRun around x.quota (FitsAsTop around.classes run.inside.heap) run
  pub answers : FramesAnswer around.classes run.frames
  pub progress : AreInProgress t run

-- ---- The frames, by what the step comes to.

-- they fit, and the top one runs
abbrev pub RunOn : Surroundings → Run → Type 0
RunOn around new =
    AreSealedFrames around (FitsAsTop around.classes new.inside.heap) new.inside.heap new.frames × FramesAnswer around.classes new.frames

-- they fit, and the top one stands at a call that has left it
abbrev pub AwaitOn : Surroundings → Run → Type 0
AwaitOn around new =
    AreSealedFrames around (FitsAtCall around.classes new.inside.heap) new.inside.heap new.frames × FramesAnswer around.classes new.frames

-- what the lowest frame of the run answers, by its method
abbrev pub LowestGives : List ClassRecord → Run → Option TypeRef → Type 0
LowestGives classes run result =
    (lowest : FrameState) × (others : List FrameState) × (run.frames ≡ lowest ∷ others) × GivesResult classes lowest result

abbrev pub FitsWent : Surroundings → Run → Run → Went → Type 0
FitsWent around old new GoesOn = RunOn around new
FitsWent around old new (Says text) = RunOn around new
FitsWent around old new (Ended v) =
    (new.frames ≡ []) × ((result : Option TypeRef) × LowestGives around.classes old result × IsResult around new.inside.heap result v)
FitsWent around old new (Left a) = (new.frames ≡ []) × IsThrowable around.classes new.inside.heap a
FitsWent around old new (Crosses k m) = RunOn around new × ((top : TopFrame new) × StandsAtCrossing around new.inside.heap top.frame k m)
FitsWent around old new (Asks request) = AwaitOn around new × ((top : TopFrame new) × AwaitsAnswer around new.inside.heap top.frame request)
FitsWent around old new Terminates = RunOn around new

-- ---- All of it.

pub record KeepsRun (around : Surroundings) (x : Setting) (t : ThreadNo) (old new : Run) (went : Went) : Type 0 where
  pub inside : KeepsInside around x old.inside new.inside
  pub fits : FitsWent around old new went
  pub progress : KeepsProgress t old new
  -- the frames cost no more than they did and than was free
  pub chunks : frames_chunks new.frames ≤ frames_chunks old.frames + x.chunks
