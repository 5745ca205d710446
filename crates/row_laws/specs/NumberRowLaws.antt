-- Instructions on numbers, where a frame runs: there is a row, and each row keeps what is kept.
use Rattle.jk_model.specs.declared.steps.After.{After}
use Rattle.jk_model_frames.specs.Frames.{FrameState}
use Rattle.jk_model_domains.specs.NumberRows.{IsOfNumbers, NumberRow}
use Rattle.jk_model_heaps.specs.RunningCode.{RunsCode}
use Rattle.jk_model_heaps.specs.Workings.{Outcome, Setting, Working}
use Rattle.jk_model_running.specs.Executions.{IsOutcome}
use Rattle.jk_model_sealing.specs.SealedInsides.{Surroundings}
use Rattle.heap_laws.specs.FittingOutcomes.{FitsOutcome}
use Rattle.heap_laws.specs.KeptInsides.{IsKept}
use Rattle.heap_laws.specs.RunningFrames.{RunsWell}

abbrev pub NumberRowsAreThere : Type 0
NumberRowsAreThere =
    (around : Surroundings) (x : Setting) (w : Working) → RunsWell around x w → (code : RunsCode around.classes w.frame)
    → IsOfNumbers code.scope code.instr
    → (g : FrameState) × (after : After) × NumberRow code.scope w.frame.head.at code.instr w.frame g after

abbrev pub NumberRowsKeep : Type 0
NumberRowsKeep =
    (around : Surroundings) (x : Setting) (w : Working) (g : FrameState) (after : After) (outcome : Outcome) → RunsWell around x w
    → (code : RunsCode around.classes w.frame) → NumberRow code.scope w.frame.head.at code.instr w.frame g after → IsOutcome after outcome
    → IsKept around x w (record w { frame = g }) × FitsOutcome around x code.scope (record w { frame = g }) outcome
