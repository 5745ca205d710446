-- Instructions on objects, where a frame runs: there is a row, and each row keeps what is kept.
use Rattle.jk_model.specs.declared.instructions.Instr.{Instr}
use Rattle.jk_model_typing.specs.Scopes.{CodeScope}
use Rattle.jk_model_heaps.specs.RunningCode.{RunsCode}
use Rattle.jk_model_heaps.specs.Workings.{Outcome, Setting, Working}
use Rattle.jk_model_heap_rows.specs.HeapRows.{HeapRow, IsOfHeaps}
use Rattle.jk_model_sealing.specs.SealedInsides.{Surroundings}
use Rattle.row_laws.specs.HeapOperands.{HeapOperands}
use Rattle.heap_laws.specs.FittingOutcomes.{FitsOutcome}
use Rattle.heap_laws.specs.KeptInsides.{IsKept}
use Rattle.heap_laws.specs.RunningFrames.{RunsWell}

-- it finds its operands
abbrev pub HeapOperandsAreFound : Type 0
HeapOperandsAreFound =
    (around : Surroundings) (x : Setting) (w : Working) → RunsWell around x w → (code : RunsCode around.classes w.frame)
    → IsOfHeaps code.scope code.instr → HeapOperands x code.scope code.instr w

-- and there is a row where it finds them, whatever else is so
abbrev pub OperandsGiveRows : Type 0
OperandsGiveRows =
    (x : Setting) (s : CodeScope) (i : Instr) (w : Working) → HeapOperands x s i w
    → (new : Working) × (outcome : Outcome) × HeapRow x s i w new outcome

abbrev pub HeapRowsAreThere : Type 0
HeapRowsAreThere =
    (around : Surroundings) (x : Setting) (w : Working) → RunsWell around x w → (code : RunsCode around.classes w.frame)
    → IsOfHeaps code.scope code.instr → (new : Working) × (outcome : Outcome) × HeapRow x code.scope code.instr w new outcome

abbrev pub HeapRowsKeep : Type 0
HeapRowsKeep =
    (around : Surroundings) (x : Setting) (w new : Working) (outcome : Outcome) → RunsWell around x w
    → (code : RunsCode around.classes w.frame) → HeapRow x code.scope code.instr w new outcome
    → IsKept around x w new × FitsOutcome around x code.scope new outcome

-- no instruction has a row here and one elsewhere
abbrev pub HeapRowsAreOfHeaps : Type 0
HeapRowsAreOfHeaps =
    (around : Surroundings) (x : Setting) (w new : Working) (outcome : Outcome) → (code : RunsCode around.classes w.frame)
    → HeapRow x code.scope code.instr w new outcome → IsOfHeaps code.scope code.instr
