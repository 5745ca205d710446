-- A running frame that calls a method of the system: the method begins with what is given, and answers what the method named does.
use Rattle.std.proofs.Common.{inl, inr, ◌≡◌, List, Some, ap, subst, ◌∙◌}
use Rattle.jk_model_classes.specs.declared.records.Body.TheVariants as Does
use Rattle.jk_model_classes.specs.declared.records.ClassRecord.{ClassRecord}
use Rattle.jk_model_classes.specs.declared.records.MethodRecord.{MethodRecord}
use Rattle.jk_model_classes.specs.Lookups.{MethodIs}
use Rattle.jk_model_heaps.specs.RunningCode.{RunsCode}
use Rattle.jk_model_heaps.specs.Workings.{Outcome, Setting, Working}
use Rattle.jk_model_call_rows.specs.CallRows.{CallsSystem, MethodCall}
use Rattle.jk_model_sealing.specs.FittingFrames.{IsCall}
use Rattle.jk_model_sealing.specs.SealedInsides.{Surroundings}
use Rattle.jk_model_system_rows.specs.declared.meanings.SystemMeaning.{SystemMeaning}
use Rattle.jk_model_system_rows.specs.Meanings.{meaning_of}
use Rattle.jk_model_system_rows.specs.SystemCalls.{DoesSystem}
use Rattle.row_laws.proofs.CallsKnown.{KnownRun, known_run}
use Rattle.class_lemmas.proofs.OneRecord.{one_method}
use Rattle.heap_laws.specs.FittingOutcomes.{FitsOutcome}
use Rattle.heap_laws.specs.KeptInsides.{IsKept}
use Rattle.heap_laws.specs.RunningFrames.{RunsWell}
use Rattle.row_laws.specs.GivenValues.{GivenFor}
use Rattle.row_laws.specs.KeptByMeaning.{StandsAtSystemCall}
use Rattle.row_laws.proofs.CallsKept.{call_kept}
use Rattle.row_laws.proofs.GivenFromTypes.{given_for}
use Rattle.row_laws.proofs.KnownMethods.{has_meaning}
use Rattle.row_laws.proofs.RowsFromGiven.{call_there}

module _ (around : Surroundings) (x : Setting) (w : Working) (runs : RunsWell around x w) (code : RunsCode around.classes w.frame) where
  call_by : (call : MethodCall x code.scope code.instr w) → IsCall code.instr
  call_by call = elim call.comes_to [
    | inl static ↦ inr (inr (inl static.0))
    | inr (inl virtual) ↦ inl virtual.0
    | inr (inr (inl special)) ↦ inr (inl special.0)
    | inr (inr (inr interface)) ↦ inr (inr (inr interface.0))
  ]

  module _ (call : CallsSystem x code.scope code.instr w) where
    run : KnownRun around w.inside.heap call.call.method call.call.given call.member
    run = known_run around x w runs code call.call call.member call.runs

    same_method : run.method ≡ call.method
    same_method =
        one_method around.classes call.member run.method call.method run.is_method
        (subst (λ (classes : List ClassRecord). MethodIs classes call.member call.method) runs.setting.classes call.is_method)

    of_system : run.method.body ≡ Does.System call.number
    of_system = ap (λ (method : MethodRecord). method.body) same_method ∙ call.of_system

    stands : StandsAtSystemCall around w code call.member call.call.given
    stands = record {
      call = call_by call.call;
      found = call.call.found;
      named = call.call.method;
      names = call.call.names;
      as_many = call.call.as_many;
      on_top = call.call.on_top;
      method = run.method;
      is_method = run.is_method;
      number = call.number;
      of_system = of_system;
      result = run.result;
      begins = run.begins;
    }

    pub operands_found : (meaning : SystemMeaning) × (meaning_of call.member ≡ Some meaning) × GivenFor w.inside.heap meaning call.call.given
    operands_found =
        let h = has_meaning around.classes runs.setting.codes call.member run.method call.number run.is_method of_system in (
          h.meaning,
          h.means,
          given_for around runs.setting.codes x.quota w.inside runs.inside call.member run.method h.meaning h.params h.static h.of_class
              call.call.given run.begins,
        )

    pub row_there : (new : Working) × (outcome : Outcome) × DoesSystem x call.member call.call.given w new outcome
    row_there =
        let found = operands_found in call_there x w call.member found.0 call.call.given found.1 found.2 call.call.on_top

    pub row_keeps : (new : Working) (outcome : Outcome) → DoesSystem x call.member call.call.given w new outcome
        → IsKept around x w new × FitsOutcome around x code.scope new outcome
    row_keeps new outcome does =
        let at = stands in
        call_kept around x w runs code at.call at.found at.named at.names call.call.given at.as_many at.on_top call.member at.method at.number
        at.is_method at.of_system at.result at.begins new outcome does
