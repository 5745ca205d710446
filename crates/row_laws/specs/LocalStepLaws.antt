-- A segment that acts has a step, and each step keeps what is kept.
use Rattle.std.specs.Prelude.{◌≡◌, ◌⊎◌, List, Option, Some}
use Rattle.jk_model.specs.declared.identifiers.ClassId.{ClassId}
use Rattle.jk_model.specs.declared.identifiers.CapId.{CapId}
use Rattle.jk_model.specs.declared.identifiers.ThreadNo.{ThreadNo}
use Rattle.jk_model.specs.declared.values.Value.{Value}
use Rattle.jk_model_classes.specs.declared.records.ClassRecord.{ClassRecord}
use Rattle.jk_model_classes.specs.Classes.{record_of}
use Rattle.jk_model_domains.specs.OwnStates.{HasState}
use Rattle.jk_model_heaps.specs.Capabilities.{IsGivenOut}
use Rattle.jk_model_heaps.specs.CalledFrames.{resumed}
use Rattle.jk_model_heaps.specs.Workings.{Inside, Request, Run, Setting}
use Rattle.jk_model_heap_rows.specs.Constants.{LacksConstants, SetsConstants}
use Rattle.jk_model_running.specs.Initialising.{FrameNeeds, IsInProgressElsewhere}
use Rattle.jk_model_running.specs.LocalSteps.{LocalStep, TopFrame, with_top}
use Rattle.jk_model_running.specs.Ways.{Went, Asks}
use Rattle.jk_model_sealing.specs.SealedInsides.{IsSealedInside, Surroundings}
use Rattle.row_laws.specs.KeptRuns.{ActsWell, KeepsRun, RunOn}
use Rattle.heap_laws.specs.FittingOutcomes.{IsResult, answer_type}
use Rattle.heap_laws.specs.KeptInsides.{KeepsInside}
use Rattle.heap_laws.specs.RunningFrames.{IsKnownSetting}

-- ---- Constants.

-- the constant texts of a class are set, or don't fit
abbrev pub ConstantsAreSetOrLack : Type 0
ConstantsAreSetOrLack =
    (around : Surroundings) (x : Setting) (c : ClassId) (r : ClassRecord) (old : Inside) → IsKnownSetting around x
    → IsSealedInside around x.quota old → record_of around.classes c ≡ Some r → HasState old.own c
    → ((new : Inside) × SetsConstants x c r old new) ⊎ LacksConstants x r old

abbrev pub ConstantsKeep : Type 0
ConstantsKeep =
    (around : Surroundings) (x : Setting) (c : ClassId) (r : ClassRecord) (old new : Inside) → IsKnownSetting around x
    → IsSealedInside around x.quota old → record_of around.classes c ≡ Some r → SetsConstants x c r old new → KeepsInside around x old new

-- ---- Steps.

-- the class that the top frame needs is in progress by another thread
abbrev pub MustWait : List ClassRecord → ThreadNo → Run → Type 0
MustWait classes t run =
    (top : TopFrame run) × (class : ClassId) × FrameNeeds classes top.frame class × IsInProgressElsewhere run.inside.own t class

abbrev pub LocalStepsAreThere : Type 0
LocalStepsAreThere =
    (around : Surroundings) (x : Setting) (t : ThreadNo) (run : Run) → ActsWell around x t run
    → MustWait around.classes t run ⊎ ((new : Run) × (went : Went) × LocalStep x t run new went)

abbrev pub LocalStepsKeep : Type 0
LocalStepsKeep =
    (around : Surroundings) (x : Setting) (t : ThreadNo) (old new : Run) (went : Went) → ActsWell around x t old
    → LocalStep x t old new went → KeepsRun around x t old new went

-- ---- What waits for an answer from outside of the domain goes on with it, where nothing else changed but that a capability may have been
-- given out.

-- the same, with more capabilities
pub record HasMoreCapabilities (around wide : Surroundings) : Type 0 where
  pub classes : wide.classes ≡ around.classes
  pub table : wide.table ≡ around.table
  pub given_out : (k : CapId) → IsGivenOut around.caps k → IsGivenOut wide.caps k

abbrev pub AnsweredFramesRunOn : Type 0
AnsweredFramesRunOn =
    (around wide : Surroundings) (x : Setting) (t : ThreadNo) (old run : Run) (request : Request) (v : Option Value) (top : TopFrame run)
    → HasMoreCapabilities around wide → ActsWell around x t old → LocalStep x t old run (Asks request)
    → IsResult wide run.inside.heap (answer_type request) v → RunOn wide (with_top top.callers (resumed v top.frame) run.inside)
