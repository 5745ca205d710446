-- What the instructions of call do (the Java Virtual Machine Specification, 6, invokevirtual, invokespecial, invokestatic,
-- invokeinterface). A method with code gets a frame of its own. A method of the system runs in the same step, without a frame, and a
-- call through a capability is handed on: for both the receiver and the arguments still stand on the stack.
use Rattle.std.specs.Prelude.{◌≡◌, ℕ, ◌+◌, ◌==◌, ◌<◌, ◌≤◌, ◌⊎◌, List, [], ◌∷◌, length, if◌then◌else◌}
use Rattle.jk_model.specs.declared.identifiers.MemberId.{MemberId}
use Rattle.jk_model.specs.declared.instructions.Instr.{Instr}
use Rattle.jk_model.specs.declared.opcodes.TheConstants.{INVOKEINTERFACE, INVOKESPECIAL, INVOKESTATIC, INVOKEVIRTUAL}
use Rattle.jk_model.specs.declared.steps.Raise.TheVariants as Raised
use Rattle.jk_model.specs.declared.steps.Standing.TheVariants as Stands
use Rattle.jk_model.specs.declared.values.Value.{Value}
use Rattle.jk_model.specs.declared.values.Value.TheVariants as Held
use Rattle.jk_model_classes.specs.declared.records.Body.TheVariants as Does
use Rattle.jk_model_classes.specs.declared.records.LinkedCode.{LinkedCode}
use Rattle.jk_model_classes.specs.declared.records.MethodRecord.{MethodRecord}
use Rattle.jk_model_classes.specs.Lookups.{MethodIs}
use Rattle.jk_model_typing.specs.Scopes.{CodeScope}
use Rattle.jk_model_frames.specs.Frames.{FrameState, head_chunks}
use Rattle.jk_model_domains.specs.NumberRows.{IsOnTop, Replaces}
use Rattle.jk_model_heaps.specs.CalledFrames.{IsCalledFrame, call_head}
use Rattle.jk_model_heaps.specs.RunningCode.{NamesMethod}
use Rattle.jk_model_heaps.specs.SystemClasses.{NULL_POINTER_EXCEPTION}
use Rattle.jk_model_heaps.specs.Workings.{Calls, Crosses, Outcome, RaisesHere, Setting, Working}
use Rattle.jk_model_call_rows.specs.Targets.{Fails, InterfaceTarget, Runs, SpecialTarget, Target, Through, VirtualTarget}

-- ---- What is called, with what, and what that comes to.

-- how many entries a call is given: one for each parameter, and the receiver but for invokestatic
abbrev pub given_count : ℕ → MethodRecord → ℕ
given_count op method = if op == INVOKESTATIC then length method.params else 1 + length method.params

-- the receiver is the first of what is given; where it is null nothing else is asked
abbrev pub AtReceiver : (Value → Target → Type 0) → List Value → Target → Type 0
AtReceiver ComesTo (Held.Null ∷ arguments) target = target ≡ Fails NULL_POINTER_EXCEPTION
AtReceiver ComesTo (receiver ∷ arguments) target = ComesTo receiver target
AtReceiver ComesTo [] target = ⊥

pub record MethodCall (x : Setting) (s : CodeScope) (i : Instr) (w : Working) : Type 0 where
  -- the method that was found for what the instruction names
  pub found : MemberId
  pub method : MethodRecord
  pub names : NamesMethod s i found method
  -- the receiver, where there is one, and then the arguments
  pub given : List Value
  pub as_many : length given ≡ given_count i.op method
  pub on_top : IsOnTop w.frame given
  pub target : Target
  pub comes_to :
      ((i.op ≡ INVOKESTATIC) × (target ≡ Runs found))
      ⊎ ((i.op ≡ INVOKEVIRTUAL) × AtReceiver (λ receiver. VirtualTarget x.classes w.inside.heap receiver found) given target)
      ⊎ ((i.op ≡ INVOKESPECIAL) × AtReceiver (λ receiver. SpecialTarget x.classes s.self found method) given target)
      ⊎ ((i.op ≡ INVOKEINTERFACE) × AtReceiver (λ receiver. InterfaceTarget x.classes w.inside.heap receiver found) given target)

-- ---- Calls of methods with code, calls that fail, and calls through capabilities.

-- What is given leaves the stack, and a frame begins with it; where the frame's chunks don't fit, nothing changes.
pub record RunsMethod (x : Setting) (m : MemberId) (given : List Value) (w new : Working) (outcome : Outcome) : Type 0 where
  pub method : MethodRecord
  pub is_method : MethodIs x.classes m method
  pub code : LinkedCode
  pub body : method.body ≡ Does.Linked code
  pub does :
      ((called : FrameState) × (head_chunks (call_head m code) ≤ x.chunks) × IsCalledFrame m code given called
      × Replaces w.frame new.frame given [] × (new.inside ≡ w.inside) × (outcome ≡ Calls called))
      ⊎ ((x.chunks < head_chunks (call_head m code)) × RaisesHere w (Raised.Standing Stands.StackOverflowError) new outcome)

abbrev pub FollowsTarget : Setting → Target → List Value → Working → Working → Outcome → Type 0
FollowsTarget x (Runs m) given w new outcome = RunsMethod x m given w new outcome
FollowsTarget x (Fails c) given w new outcome = RaisesHere w (Raised.Fresh c) new outcome
FollowsTarget x (Through k m) given w new outcome = (new ≡ w) × (outcome ≡ Crosses k m)

pub record CallRow (x : Setting) (s : CodeScope) (i : Instr) (w new : Working) (outcome : Outcome) : Type 0 where
  pub call : MethodCall x s i w
  pub follows : FollowsTarget x call.target call.given w new outcome

-- ---- Calls of methods of the system, whose own rows say what they do with what is given.

pub record CallsSystem (x : Setting) (s : CodeScope) (i : Instr) (w : Working) : Type 0 where
  pub call : MethodCall x s i w
  pub member : MemberId
  pub runs : call.target ≡ Runs member
  pub method : MethodRecord
  pub is_method : MethodIs x.classes member method
  pub number : ℕ
  pub of_system : method.body ≡ Does.System number

-- ---- Which instructions these are.

-- invokevirtual, invokespecial, invokestatic, invokeinterface
abbrev pub IsOfCalls : Instr → Type 0
IsOfCalls i = (INVOKEVIRTUAL ≤ i.op) × (i.op ≤ INVOKEINTERFACE)
