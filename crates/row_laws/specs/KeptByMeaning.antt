-- Each row of a method of the system keeps what is kept, in a frame that calls it. The method that is named answers what the one that is
-- run does.
use Rattle.std.specs.Prelude.{◌≡◌, ℕ, List, length}
use Rattle.jk_model.specs.declared.identifiers.MemberId.{MemberId}
use Rattle.jk_model.specs.declared.values.Value.{Value}
use Rattle.jk_model_classes.specs.declared.records.Body.TheVariants as Does
use Rattle.jk_model_classes.specs.declared.records.MethodRecord.{MethodRecord}
use Rattle.jk_model_classes.specs.Lookups.{MethodIs}
use Rattle.jk_model_domains.specs.NumberRows.{IsOnTop}
use Rattle.jk_model_heaps.specs.RunningCode.{NamesMethod, RunsCode}
use Rattle.jk_model_heaps.specs.Workings.{Outcome, Setting, Working}
use Rattle.jk_model_call_rows.specs.CallRows.{given_count}
use Rattle.jk_model_sealing.specs.FittingFrames.{IsCall}
use Rattle.jk_model_sealing.specs.SealedInsides.{Surroundings}
use Rattle.jk_model_system_rows.specs.SystemCalls.{DoesSystem}
use Rattle.heap_laws.specs.FittingOutcomes.{FitsOutcome}
use Rattle.heap_laws.specs.KeptInsides.{IsKept}
use Rattle.heap_laws.specs.RunningFrames.{RunsWell}
use Rattle.row_laws.specs.GivenByMeaning.{BeginsMethod}

-- A call of a method of the system: what is named, what is given, and the method that is run, which begins with it.
pub record StandsAtSystemCall (around : Surroundings) (w : Working) (code : RunsCode around.classes w.frame) (m : MemberId) (given : List Value)
    : Type 0 where
  pub call : IsCall code.instr
  pub found : MemberId
  pub named : MethodRecord
  pub names : NamesMethod code.scope code.instr found named
  pub as_many : length given ≡ given_count code.instr.op named
  pub on_top : IsOnTop w.frame given
  pub method : MethodRecord
  pub is_method : MethodIs around.classes m method
  pub number : ℕ
  pub of_system : method.body ≡ Does.System number
  pub result : method.result ≡ named.result
  pub begins : BeginsMethod around w.inside.heap m method given

abbrev pub RowsKeepByMeaning : Type 0
RowsKeepByMeaning =
    (around : Surroundings) (x : Setting) (w new : Working) (outcome : Outcome) (m : MemberId) (given : List Value) → RunsWell around x w
    → (code : RunsCode around.classes w.frame) → StandsAtSystemCall around w code m given → DoesSystem x m given w new outcome
    → IsKept around x w new × FitsOutcome around x code.scope new outcome
