-- One step of one thread, over the contents of all parts.
use Rattle.std.specs.Prelude.{◌≡◌, ℕ, List, ◌++◌, Option, Result}
use Rattle.jk_model.specs.declared.output.Line.{Line}
use Rattle.jk_model_runs.specs.Steps.{Steps}
use Rattle.kernel_events.specs.KernelCalls.{MayDraw}
use Rattle.kernel_events.specs.PrintedLines.{Prints, SinkState}
use Rattle.kernel_parts.specs.SoundKernels.{AreKernelParts, KernelContent, kernel_machine}
use Rattle.segment_steps.specs.StepsAlone.{went_so}
use Rattle.segment_steps.specs.declared.went.Went.{Went}
use Rattle.system_calls.specs.SystemSteps.{printed}
pub use Rattle.domain_ends.specs.TidyParts.{content_of}
use Rattle.kernel_turns.specs.declared.running.Running.{Running}
use Rattle.kernel_turns.specs.RunningPlaces.{RunsAt, runs}
use Rattle.kernel_turns.specs.SteppedParts.{Follows, MayFollow, MayStep}

abbrev pub sink_state : Option (List ℕ) → List (List ℕ) → ℕ → SinkState
sink_state bytes pieces faults = record { bytes = bytes; pieces = pieces; faults = faults }

-- the thread runs there, and its step may be taken
pub record IsReady (k : KernelContent) (x : Running) : Type 0 where
  pub at : RunsAt k x.runs.thread
  pub runs_there : x.runs ≡ runs x.runs.thread at.segment
  pub stop : x.info.stop ≡ at.segment.stop
  pub revoked : x.info.revoked ≡ at.segment.revoked
  pub may : MayStep k at
  -- one number of a segment may be drawn
  pub numbers : MayDraw (kernel_machine k) 1

-- The segment has done what it does, and so many lines are said: what follows may follow, and with it the step is taken, and the parts are sound.
pub record Begun (k : KernelContent) (x : Running) (went : Went) (lines : List Line) (mid : KernelContent) : Type 0 where
  pub may : MayFollow mid x.runs went
  pub steps : (after : List Line) (new : KernelContent) → Follows mid x.runs.thread went after new
      → Steps (kernel_machine k) x.runs.thread (lines ++ after) (kernel_machine new) × AreKernelParts new

-- those lines went out so; where the sink failed, the thread goes on
abbrev pub BeginsSo : {E : Type 0} → KernelContent → Running → SinkState → SinkState → Result Went E → KernelContent → Type 0
BeginsSo k x old_sink new_sink result mid =
    (lines : List Line) × Prints old_sink new_sink (printed result) lines × Begun k x (went_so result) lines mid
