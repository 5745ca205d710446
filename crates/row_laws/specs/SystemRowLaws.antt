-- Methods of the system, where a frame runs that calls one: there is a row, and each row keeps what is kept.
use Rattle.std.specs.Prelude.{◌≡◌, Some}
use Rattle.jk_model_heaps.specs.RunningCode.{RunsCode}
use Rattle.jk_model_heaps.specs.Workings.{Outcome, Setting, Working}
use Rattle.jk_model_call_rows.specs.CallRows.{CallsSystem}
use Rattle.jk_model_sealing.specs.SealedInsides.{Surroundings}
use Rattle.jk_model_system_rows.specs.declared.meanings.SystemMeaning.{SystemMeaning}
use Rattle.jk_model_system_rows.specs.Meanings.{meaning_of}
use Rattle.jk_model_system_rows.specs.SystemCalls.{DoesSystem}
use Rattle.heap_laws.specs.FittingOutcomes.{FitsOutcome}
use Rattle.heap_laws.specs.KeptInsides.{IsKept}
use Rattle.heap_laws.specs.RunningFrames.{RunsWell}
use Rattle.row_laws.specs.GivenValues.{GivenFor}

-- the method has a meaning, and what it is given is of that meaning's kinds
abbrev pub SystemOperandsAreFound : Type 0
SystemOperandsAreFound =
    (around : Surroundings) (x : Setting) (w : Working) → RunsWell around x w → (code : RunsCode around.classes w.frame)
    → (call : CallsSystem x code.scope code.instr w)
    → (meaning : SystemMeaning) × (meaning_of call.member ≡ Some meaning) × GivenFor w.inside.heap meaning call.call.given

abbrev pub SystemRowsAreThere : Type 0
SystemRowsAreThere =
    (around : Surroundings) (x : Setting) (w : Working) → RunsWell around x w → (code : RunsCode around.classes w.frame)
    → (call : CallsSystem x code.scope code.instr w)
    → (new : Working) × (outcome : Outcome) × DoesSystem x call.member call.call.given w new outcome

abbrev pub SystemRowsKeep : Type 0
SystemRowsKeep =
    (around : Surroundings) (x : Setting) (w new : Working) (outcome : Outcome) → RunsWell around x w
    → (code : RunsCode around.classes w.frame) → (call : CallsSystem x code.scope code.instr w)
    → DoesSystem x call.member call.call.given w new outcome → IsKept around x w new × FitsOutcome around x code.scope new outcome
