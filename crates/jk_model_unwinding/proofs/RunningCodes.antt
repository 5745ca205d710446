-- The code that a frame runs: there is one, and no other.
use Rattle.std.proofs.Common.{◌≡◌, ℕ, zero, suc, List, Option, Some, None, slice_get, option_and_then, refl, sym, ap, subst, ◌∙◌, arith}
use Rattle.std.proofs.lemmas.Option.{none-some, same_Some}
use Rattle.jk_model.specs.declared.identifiers.MemberId.{MemberId}
use Rattle.jk_model.specs.declared.instructions.Instr.{Instr}
use Rattle.jk_model.specs.declared.values.Value.{Value}
use Rattle.jk_model_classes.specs.declared.records.Body.{Body}
use Rattle.jk_model_classes.specs.declared.records.Body.TheVariants.{Linked}
use Rattle.jk_model_classes.specs.declared.records.Caught.{Caught}
use Rattle.jk_model_classes.specs.declared.records.ClassRecord.{ClassRecord}
use Rattle.jk_model_classes.specs.declared.records.LinkedCode.{LinkedCode}
use Rattle.jk_model_classes.specs.declared.records.MethodRecord.{MethodRecord}
use Rattle.jk_model_classes.specs.Classes.{record_of}
use Rattle.jk_model_typing.specs.Scopes.{CodeScope, IsScopeOf}
use Rattle.jk_model_typing.specs.Typing.{Covers}
use Rattle.jk_model_frames.specs.Frames.{FrameState}
use Rattle.jk_model_domains.specs.NumberRows.{ARITHMETIC_EXCEPTION}
use Rattle.jk_model_domains.specs.Objects.{NamedObject}
use Rattle.jk_model_heaps.specs.RunningCode.{RunsCode}
use Rattle.jk_model_unwinding.specs.Examples.{MAIN, RUNTIME_EXCEPTION, careful, classes, frame, handler, main, setting}
use Rattle.jk_model_unwinding.specs.Unwinding.{CatchesNot, HasCaughtClass}

abbrev linked : Body → Option LinkedCode
linked (Linked code) = Some code
linked body = None

abbrev code_in : ℕ → ClassRecord → Option LinkedCode
code_in index r = option_and_then (λ (method : MethodRecord). linked method.body) (slice_get r.methods index)

abbrev pub code_at : List ClassRecord → MemberId → Option LinkedCode
code_at all m = option_and_then (code_in m.index) (record_of all m.class)

code_of_scope : (all : List ClassRecord) (m : MemberId) (s : CodeScope) → IsScopeOf all m s → code_at all m ≡ Some s.code
code_of_scope all m s is =
    ap (option_and_then (code_in m.index)) is.class_is
    ∙ ap (option_and_then (λ (method : MethodRecord). linked method.body)) is.method
    ∙ ap linked is.body

-- a frame that runs this method runs the code that the method has
pub one_code : (all : List ClassRecord) (m : MemberId) (c : LinkedCode) (f : FrameState) → f.head.method ≡ Some m → code_at all m ≡ Some c
    → (running : RunsCode all f) → running.scope.code ≡ c
one_code all m c f runs has running =
    let same : m ≡ running.method = same_Some m running.method (sym runs ∙ running.is_method) in
    same_Some running.scope.code c
    (sym (code_of_scope all running.method running.scope running.is_scope) ∙ sym (ap (code_at all) same) ∙ has)

-- a method of the examples' class runs its code
pub runs : (index at : ℕ) (method : MethodRecord) (code : LinkedCode) → slice_get main.methods index ≡ Some method
    → method.body ≡ Linked code → IsScopeOf classes (record { class = MAIN; index = index })
    (record { classes = classes; self = MAIN; links = main.links; method = method; code = code })
runs index at method code is body = record { all = refl; self = refl; class = main; class_is = refl; links = refl; method = is; body = body }

-- a frame of a method of the class runs its code
abbrev pub frame_runs : (index at : ℕ) (stack : List Value) (method : MethodRecord) (code : LinkedCode) (instr : Instr)
    → slice_get main.methods index ≡ Some method → method.body ≡ Linked code → slice_get code.instrs at ≡ Some instr
    → RunsCode classes (frame index at stack)
frame_runs index at stack method code instr is body stands = record {
  method = record { class = MAIN; index = index };
  is_method = refl;
  scope = record { classes = classes; self = MAIN; links = main.links; method = method; code = code };
  is_scope = runs index at method code is body;
  instr = instr;
  stands = stands;
}

-- a frame catches nothing where each handler of its code fails
pub catches_none : (quota : ℕ) (heap : List NamedObject) (a index at : ℕ) (stack : List Value) (code : LinkedCode)
    → code_at classes (record { class = MAIN; index = index }) ≡ Some code
    → ((place : ℕ) (h : Caught) → slice_get code.handlers place ≡ Some h → Covers h at → HasCaughtClass (setting quota) heap a h → ⊥)
    → CatchesNot (setting quota) heap (frame index at stack) a
catches_none quota heap a index at stack code is fails h catches =
    let same : catches.code.scope.code ≡ code =
    one_code classes (record { class = MAIN; index = index }) code (frame index at stack) refl is catches.code in
    let listed : slice_get code.handlers catches.place ≡ Some h =
    sym (ap (λ (k : LinkedCode). slice_get k.handlers catches.place) same) ∙ catches.listed in
    fails catches.place h listed catches.covers catches.of_class

-- both handlers of the first method end at its second instruction
pub none_covers : (place : ℕ) (h : Caught) → slice_get careful.handlers place ≡ Some h → Covers h 1 → ⊥
none_covers zero h at covers =
    let covered : Covers (handler RUNTIME_EXCEPTION 1) 1 =
    subst (λ (g : Caught). Covers g 1) (sym (same_Some (handler RUNTIME_EXCEPTION 1) h at)) covers in
    absurd (omega (arith, covered.1))
none_covers (suc zero) h at covers =
    let covered : Covers (handler ARITHMETIC_EXCEPTION 2) 1 =
    subst (λ (g : Caught). Covers g 1) (sym (same_Some (handler ARITHMETIC_EXCEPTION 2) h at)) covers in
    absurd (omega (arith, covered.1))
none_covers (suc (suc place)) h at covers = absurd (none-some h at)
