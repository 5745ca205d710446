-- What begins a method of the system is as the method's meaning asks, and then there is a row of the method.
use Rattle.std.specs.Prelude.{◌≡◌, ◌⊎◌, ℕ, IsTrue, List, Some}
use Rattle.jk_model.specs.Flags.{has, STATIC}
use Rattle.jk_model.specs.declared.identifiers.MemberId.{MemberId}
use Rattle.jk_model.specs.declared.values.Value.{Value}
use Rattle.jk_model_classes.specs.declared.records.Body.TheVariants as Does
use Rattle.jk_model_classes.specs.declared.records.MethodRecord.{MethodRecord}
use Rattle.jk_model_classes.specs.Lookups.{MethodIs}
use Rattle.jk_model_domains.specs.NumberRows.{IsOnTop}
use Rattle.jk_model_domains.specs.Objects.{NamedObject}
use Rattle.jk_model_heaps.specs.Workings.{Inside, Outcome, Setting, Working}
use Rattle.jk_model_sealing.specs.SealedInsides.{IsSealedInside, Surroundings}
use Rattle.jk_model_system_rows.specs.declared.meanings.SystemMeaning.{SystemMeaning}
use Rattle.jk_model_system_rows.specs.Meanings.{meaning_of}
use Rattle.jk_model_system_rows.specs.SystemCalls.{DoesSystem}
use Rattle.heap_laws.specs.FittingOutcomes.{AreOfTypes}
use Rattle.heap_laws.specs.RunningFrames.{IsKnownSetting}
use Rattle.row_laws.specs.CallOperands.{BeginMethod}
use Rattle.row_laws.specs.GivenValues.{GivenFor}

-- the values begin the method, with a receiver or without one
abbrev pub BeginsMethod : Surroundings → List NamedObject → MemberId → MethodRecord → List Value → Type 0
BeginsMethod around heap m method given =
    (IsTrue (has method.flags STATIC) × AreOfTypes around heap method.params given) ⊎ BeginMethod around heap m method given

-- the method has a meaning, and what begins it is of that meaning's kinds
abbrev pub GivenIsByMeaning : Type 0
GivenIsByMeaning =
    (around : Surroundings) (x : Setting) (quota : ℕ) (inside : Inside) (m : MemberId) (method : MethodRecord) (number : ℕ) (given : List Value)
    → IsKnownSetting around x → IsSealedInside around quota inside → MethodIs around.classes m method → method.body ≡ Does.System number
    → BeginsMethod around inside.heap m method given
    → (meaning : SystemMeaning) × (meaning_of m ≡ Some meaning) × GivenFor inside.heap meaning given

-- whatever else is so
abbrev pub GivenHasRow : Type 0
GivenHasRow =
    (x : Setting) (w : Working) (m : MemberId) (meaning : SystemMeaning) (given : List Value) → meaning_of m ≡ Some meaning
    → GivenFor w.inside.heap meaning given → IsOnTop w.frame given → (new : Working) × (outcome : Outcome) × DoesSystem x m given w new outcome
