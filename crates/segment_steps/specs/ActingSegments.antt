-- When a segment may act, and what it does in one step: a class that isn't ready, else the need of its top frame, else its instruction, with
-- what follows within the segment and, of a method of package jk, what is answered to it.
use Rattle.std.specs.Prelude.{◌≡◌, ℕ, List, [], ◌∷◌, Option, Ok, Err}
use Rattle.jk_model.specs.declared.identifiers.CapId.{CapId}
use Rattle.jk_model.specs.declared.identifiers.MemberId.{MemberId}
use Rattle.jk_model.specs.declared.identifiers.ThreadNo.{ThreadNo}
use Rattle.jk_model.specs.declared.output.Line.{Line}
use Rattle.jk_model.specs.declared.output.Line.TheVariants.{Said}
use Rattle.jk_model.specs.declared.steps.Raise.{Raise}
use Rattle.jk_model.specs.declared.values.Value.{Value}
use Rattle.jk_model_heaps.specs.declared.shapes.Unwound.{Unwound}
use Rattle.jk_model_heaps.specs.CalledFrames.{resumed}
use Rattle.jk_model_heaps.specs.Workings.{Request, Run, Setting}
use Rattle.jk_model_running.specs.LocalSteps.{LocalStep, TopFrame}
use Rattle.jk_model_running.specs.Raising.{RaisesIn}
use Rattle.jk_model_running.specs.Ways.{GoesOn, Says, Ended, Left, Crosses, Asks, Terminates}
use Rattle.jk_model_sealing.specs.AnsweringFrames.{FramesAnswer}
use Rattle.jk_model_sealing.specs.FittingFrames.{FitsAsTop}
use Rattle.jk_model_sealing.specs.SealedRuns.{IsSealedRun}
use Rattle.heap_laws.specs.RaisableObjects.{KeepsStates}
use Rattle.step_contents.specs.Conditions.{KnowsDomain, around}
use Rattle.step_contents.specs.Contents.{Becomes, Contents, Here, Holds, LeftBehind, with_frame}
use Rattle.step_contents.specs.Settings.{IsSetting}
use Rattle.jk_model_sharing.specs.Answers.{Answers}
use Rattle.segment_steps.specs.declared.went.Went.{Went}
use Rattle.segment_steps.specs.declared.went.Went.TheVariants as Goes
use Rattle.segment_steps.specs.RaisingHere.{went_of}

-- What is known of a segment that acts.
pub record MayAct (c : Contents) (here : Here) : Type 0 where
  pub domain : KnowsDomain c here
  pub run : Run
  pub holds : Holds c here run
  pub sealed : IsSealedRun (around domain) domain.quota (FitsAsTop here.world.classes run.inside.heap) run
  -- the lowest frame initialises no class, and each other answers the one below it or initialises a class, whose state the domain keeps
  pub answers : FramesAnswer here.world.classes run.frames
  pub states : KeepsStates run.inside.own run.frames

-- What the thread did, by what the step comes to and the lines that go out.
pub data Acted {old : Contents} {here : Here} (x : Setting) (t : ThreadNo) (may : MayAct old here) (left : LeftBehind)
    : Went → List Line → Type 0 where
  goes_on : (run : Run) → LocalStep x t may.run run GoesOn → Becomes old left.contents here may.run run → left.shared ≡ here.shared
      → Acted x t may left Goes.GoesOn []
  says : (run : Run) (text : List ℕ) → LocalStep x t may.run run (Says text) → Becomes old left.contents here may.run run
      → left.shared ≡ here.shared → Acted x t may left Goes.GoesOn (Said x.name text ∷ [])
  -- the lowest frame returned, and no frame is left
  ended : (run : Run) (v : Option Value) → LocalStep x t may.run run (Ended v) → Becomes old left.contents here may.run run
      → left.shared ≡ here.shared → Acted x t may left (Goes.Returned v) []
  -- no frame is left
  leaves : (run : Run) (a : ℕ) → LocalStep x t may.run run (Left a) → Becomes old left.contents here may.run run
      → left.shared ≡ here.shared → Acted x t may left (Goes.Left a) []
  crosses : (run : Run) (k : CapId) (m : MemberId) → LocalStep x t may.run run (Crosses k m) → Becomes old left.contents here may.run run
      → left.shared ≡ here.shared → Acted x t may left (Goes.Crosses k m) []
  terminates : (run : Run) → LocalStep x t may.run run Terminates → Becomes old left.contents here may.run run → left.shared ≡ here.shared
      → Acted x t may left Goes.Terminates []
  -- what a method of package jk asks for is granted, and the frame that waits for it goes on after its call
  is_granted : (run : Run) (top : TopFrame run) (request : Request) (v : Option Value) → LocalStep x t may.run run (Asks request)
      → Answers here.shared here.domain request (Ok v) left.shared
      → Becomes old left.contents here may.run (with_frame top.callers (resumed v top.frame) run.inside) → Acted x t may left Goes.GoesOn []
  -- it is denied, and something is raised in the segment that waits for it
  is_denied : (run new : Run) (request : Request) (r : Raise) (unwound : Unwound) → LocalStep x t may.run run (Asks request)
      → Answers here.shared here.domain request (Err r) left.shared → RaisesIn x run r new unwound
      → Becomes old left.contents here may.run new → Acted x t may left (went_of unwound) []

-- The step is done, and its lines went out so.
abbrev pub ActsSo : Contents → Here → ThreadNo → LeftBehind → Went → (List Line → Type 0) → Type 0
ActsSo old here t left went GoOut =
    (x : Setting) (may : MayAct old here) → IsSetting old here x
    → (lines : List Line) × Acted x t may left went lines × GoOut lines
