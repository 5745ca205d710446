-- Instructions of call, where a frame runs: there is a method, and each row keeps what is kept.
use Rattle.std.specs.Prelude.{◌≡◌, ◌⊎◌, ◌≤◌, ℕ, IsTrue, List, length}
use Rattle.jk_model.specs.Flags.{has, STATIC}
use Rattle.jk_model.specs.declared.identifiers.MemberId.{MemberId}
use Rattle.jk_model.specs.declared.values.Value.{Value}
use Rattle.jk_model_classes.specs.declared.records.Body.TheVariants as Does
use Rattle.jk_model_classes.specs.declared.records.LinkedCode.{LinkedCode}
use Rattle.jk_model_classes.specs.declared.records.MethodRecord.{MethodRecord}
use Rattle.jk_model_classes.specs.Lookups.{MethodIs}
use Rattle.jk_model_classes.specs.Worlds.{IsNamed}
use Rattle.jk_model_frames.specs.Frames.{locals_of}
use Rattle.jk_model_heaps.specs.RunningCode.{RunsCode}
use Rattle.jk_model_heaps.specs.Workings.{Outcome, Setting, Working}
use Rattle.jk_model_call_rows.specs.CallRows.{CallRow, CallsSystem, IsOfCalls, MethodCall}
use Rattle.jk_model_call_rows.specs.Targets.{Runs}
use Rattle.jk_model_sealing.specs.SealedInsides.{Surroundings}
use Rattle.heap_laws.specs.FittingOutcomes.{AreOfTypes, FitsOutcome}
use Rattle.heap_laws.specs.KeptInsides.{IsKept}
use Rattle.heap_laws.specs.RunningFrames.{RunsWell}
use Rattle.row_laws.specs.CallOperands.{BeginMethod}

-- what is named, what is given, and what that comes to
abbrev pub CallsAreFound : Type 0
CallsAreFound =
    (around : Surroundings) (x : Setting) (w : Working) → RunsWell around x w → (code : RunsCode around.classes w.frame)
    → IsOfCalls code.instr → MethodCall x code.scope code.instr w

-- What is known of a method that a call runs: the domain knows its class, and it begins with what is given. It has the parameters of the
-- method that is named, wherever it was selected.
pub record RunsKnownMethod (around : Surroundings) (w : Working) (m : MemberId) (given : List Value) : Type 0 where
  pub method : MethodRecord
  pub is_method : MethodIs around.classes m method
  pub named : IsNamed around.table m.class
  pub begins :
      (IsTrue (has method.flags STATIC) × AreOfTypes around w.inside.heap method.params given)
      ⊎ BeginMethod around w.inside.heap m method given
  -- it has code, with room for what is given, or it is one of the system
  pub body :
      ((code : LinkedCode) × (method.body ≡ Does.Linked code) × (length (locals_of given) ≤ code.max_locals))
      ⊎ ((n : ℕ) × (method.body ≡ Does.System n))

abbrev pub CalledMethodsAreKnown : Type 0
CalledMethodsAreKnown =
    (around : Surroundings) (x : Setting) (w : Working) → RunsWell around x w → (code : RunsCode around.classes w.frame)
    → (call : MethodCall x code.scope code.instr w) (m : MemberId) → call.target ≡ Runs m → RunsKnownMethod around w m call.given

-- a method with code runs, or the call fails or crosses; or it is one of the system
abbrev pub CallRowsAreThere : Type 0
CallRowsAreThere =
    (around : Surroundings) (x : Setting) (w : Working) → RunsWell around x w → (code : RunsCode around.classes w.frame)
    → IsOfCalls code.instr
    → ((new : Working) × (outcome : Outcome) × CallRow x code.scope code.instr w new outcome) ⊎ CallsSystem x code.scope code.instr w

abbrev pub CallRowsKeep : Type 0
CallRowsKeep =
    (around : Surroundings) (x : Setting) (w new : Working) (outcome : Outcome) → RunsWell around x w
    → (code : RunsCode around.classes w.frame) → CallRow x code.scope code.instr w new outcome
    → IsKept around x w new × FitsOutcome around x code.scope new outcome
