-- What a call finds on the stack of a frame that fits, what fits when it has left the frame, and when its answer has come.
use Rattle.std.specs.Prelude.{◌≡◌, ◌≢◌, ◌≤◌, ◌⊎◌, IsFalse, IsTrue, List, [], ◌∷◌, length, Option}
use Rattle.jk_model.specs.Flags.{has, STATIC}
use Rattle.jk_model.specs.declared.identifiers.ClassId.{ClassId}
use Rattle.jk_model.specs.declared.identifiers.MemberId.{MemberId}
use Rattle.jk_model.specs.declared.opcodes.TheConstants.{INVOKESTATIC}
use Rattle.jk_model.specs.declared.values.Value.{Value}
use Rattle.jk_model_classes.specs.declared.records.Body.TheVariants as Does
use Rattle.jk_model_classes.specs.declared.records.LinkedCode.{LinkedCode}
use Rattle.jk_model_classes.specs.declared.records.MethodRecord.{MethodRecord}
use Rattle.jk_model_classes.specs.declared.records.TypeRef.{TypeRef}
use Rattle.jk_model_classes.specs.Classes.{IsSubclass}
use Rattle.jk_model_classes.specs.Lookups.{MethodIs}
use Rattle.jk_model_frames.specs.Frames.{FrameState, locals_of}
use Rattle.jk_model_domains.specs.NumberRows.{IsOnTop, Replaces}
use Rattle.jk_model_domains.specs.Objects.{NamedObject}
use Rattle.jk_model_heaps.specs.CalledFrames.{IsCalledFrame, resumed}
use Rattle.jk_model_heaps.specs.Instances.{RunsAs}
use Rattle.jk_model_heaps.specs.RunningCode.{NamesMethod, RunsCode}
use Rattle.jk_model_heaps.specs.Workings.{Setting, Working}
use Rattle.jk_model_call_rows.specs.CallRows.{given_count}
use Rattle.jk_model_sealing.specs.AnsweringFrames.{AwaitsResult}
use Rattle.jk_model_sealing.specs.FittingFrames.{FitsAsTop, FitsAtCall, FitsHere, IsCall}
use Rattle.jk_model_sealing.specs.SealedInsides.{Surroundings}
use Rattle.heap_laws.specs.FittingOutcomes.{AreOfTypes, IsResult}
use Rattle.heap_laws.specs.RunningFrames.{IsKnownSetting, RunsWell}

-- ---- What a call is given: for invokestatic the arguments, and else the receiver before them.

abbrev pub StaticCallsAreGiven : Type 0
StaticCallsAreGiven =
    (around : Surroundings) (x : Setting) (w : Working) → RunsWell around x w → (code : RunsCode around.classes w.frame)
    → code.instr.op ≡ INVOKESTATIC
    → (found : MemberId) × (method : MethodRecord) × (given : List Value) × NamesMethod code.scope code.instr found method
    × IsOnTop w.frame given × AreOfTypes around w.inside.heap method.params given

abbrev pub CallsAreGiven : Type 0
CallsAreGiven =
    (around : Surroundings) (x : Setting) (w : Working) → RunsWell around x w → (code : RunsCode around.classes w.frame)
    → IsCall code.instr → code.instr.op ≢ INVOKESTATIC
    → (found : MemberId) × (method : MethodRecord) × (receiver : Value) × (given : List Value)
    × NamesMethod code.scope code.instr found method × IsOnTop w.frame (receiver ∷ given) × AreOfTypes around w.inside.heap method.params given

-- ---- The frame that is called. The class at which the method was selected is the receiver's, and the method is of that class or of one above.

-- the values begin a method of the class: a receiver of the class or below it, unless it is static, and arguments of its parameters' types
abbrev pub BeginMethod : Surroundings → List NamedObject → MemberId → MethodRecord → List Value → Type 0
BeginMethod around heap m method (receiver ∷ given) =
    (IsFalse (has method.flags STATIC)
    × ((class : ClassId) × RunsAs heap receiver class × IsSubclass around.classes class m.class) × AreOfTypes around heap method.params given)
BeginMethod around heap m method [] = ⊥

abbrev pub CalledFramesFit : Type 0
CalledFramesFit =
    (around : Surroundings) (x : Setting) (heap : List NamedObject) (m : MemberId) (method : MethodRecord) (code : LinkedCode)
    (given : List Value) (called : FrameState) → IsKnownSetting around x → MethodIs around.classes m method → method.body ≡ Does.Linked code
    → BeginMethod around heap m method given → IsCalledFrame m code given called → FitsAsTop around.classes heap called

abbrev pub StaticFramesFit : Type 0
StaticFramesFit =
    (around : Surroundings) (x : Setting) (heap : List NamedObject) (m : MemberId) (method : MethodRecord) (code : LinkedCode)
    (given : List Value) (called : FrameState) → IsKnownSetting around x → MethodIs around.classes m method → method.body ≡ Does.Linked code
    → IsTrue (has method.flags STATIC) → AreOfTypes around heap method.params given → IsCalledFrame m code given called
    → FitsAsTop around.classes heap called

-- what begins a method with code has room in its locals
abbrev pub ArgumentsHaveRoom : Type 0
ArgumentsHaveRoom =
    (around : Surroundings) (x : Setting) (heap : List NamedObject) (m : MemberId) (method : MethodRecord) (code : LinkedCode)
    (given : List Value) → IsKnownSetting around x → MethodIs around.classes m method → method.body ≡ Does.Linked code
    → (IsTrue (has method.flags STATIC) × AreOfTypes around heap method.params given) ⊎ BeginMethod around heap m method given
    → length (locals_of given) ≤ code.max_locals

-- ---- The frame that calls.

-- without what the call is given, it stands at its call
abbrev pub CallersFit : Type 0
CallersFit =
    (around : Surroundings) (x : Setting) (w : Working) (g : FrameState) (found : MemberId) (method : MethodRecord) (given : List Value)
    → RunsWell around x w → (code : RunsCode around.classes w.frame) → IsCall code.instr → NamesMethod code.scope code.instr found method
    → length given ≡ given_count code.instr.op method → Replaces w.frame g given []
    → FitsAtCall around.classes w.inside.heap g × AwaitsResult around.classes g method.result

-- it goes on after its call, with the answer
abbrev pub ResumedFramesFit : Type 0
ResumedFramesFit =
    (around : Surroundings) (x : Setting) (heap : List NamedObject) (f : FrameState) (result : Option TypeRef) (v : Option Value)
    → IsKnownSetting around x → FitsAtCall around.classes heap f → AwaitsResult around.classes f result → IsResult around heap result v
    → FitsHere around.classes heap (resumed v f)
