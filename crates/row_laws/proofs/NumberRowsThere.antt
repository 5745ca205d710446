-- Where a frame runs at an instruction on numbers, there is a row of it.
use Rattle.jk_model.specs.declared.steps.After.{After}
use Rattle.jk_model_frames.specs.Frames.{FrameState}
use Rattle.jk_model_domains.specs.NumberRows.{IsOfNumbers, NumberRow}
use Rattle.jk_model_heaps.specs.RunningCode.{RunsCode}
use Rattle.jk_model_heaps.specs.Workings.{Setting, Working}
use Rattle.jk_model_sealing.specs.SealedInsides.{Surroundings}
use Rattle.row_laws.proofs.NumbersGoOn.{numbers-go}
use Rattle.heap_laws.specs.RunningFrames.{RunsWell}
use Rattle.row_laws.specs.StandingFrames.{StandsTyped}
use Rattle.row_laws.proofs.StandsHere.{stands_typed}

module _ (around : Surroundings) (x : Setting) (w : Working) (runs : RunsWell around x w) (code : RunsCode around.classes w.frame) where
  typed : StandsTyped around.classes w.inside.heap w.frame code
  typed = stands_typed around.classes runs.setting.codes w.frame code runs.fits.0 w.inside.heap runs.fits.1

  pub number_row_there : IsOfNumbers code.scope code.instr
      → (g : FrameState) × (after : After) × NumberRow code.scope w.frame.head.at code.instr w.frame g after
  number_row_there of_numbers =
      numbers-go code.scope w.inside.heap w.frame.head.at code.instr w.frame typed.before typed.after
      (record { sized = typed.typed.sized; room = typed.typed.row.room; holds = typed.typed.holds; goes_on = typed.within }) typed.typed.row of_numbers
