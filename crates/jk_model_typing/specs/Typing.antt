-- When frame types are a typing of a method, and which typing is the least; the rules C23 and C24.
use Rattle.std.specs.Prelude.{◌≡◌, ℕ, ◌+◌, ◌*◌, ◌-◌, ◌<◌, ◌≤◌, ◌⊎◌, ◌&&◌, ◌||◌, ◌==◌, Bool, not, pos, ℤ, IsTrue, List, [], ◌∷◌, ◌++◌, length, flat_map, replicate, Contains, Option, Some, None, slice_get, nat_le}
use Rattle.jk_model.specs.declared.identifiers.ClassId.{ClassId}
use Rattle.jk_model.specs.declared.identifiers.MemberId.{MemberId}
use Rattle.jk_model.specs.declared.instructions.Instr.{Instr}
use Rattle.jk_model.specs.declared.opcodes.TheConstants.{ISTORE, LSTORE, ASTORE, IINC, GOTO, IRETURN, RETURN, ATHROW}
use Rattle.jk_model_classes.specs.declared.records.Body.TheVariants.{Linked}
use Rattle.jk_model_classes.specs.declared.records.Caught.{Caught}
use Rattle.jk_model_classes.specs.declared.records.ClassRecord.{ClassRecord}
use Rattle.jk_model_classes.specs.declared.records.LinkedCode.{LinkedCode}
use Rattle.jk_model_classes.specs.declared.records.MethodRecord.{MethodRecord}
use Rattle.jk_model_classes.specs.Classes.{record_of}
use Rattle.jk_model_classes.specs.MemberCode.{is_switch, LeadsTo}
use Rattle.jk_model_typing.specs.declared.frames.VType.{VType}
use Rattle.jk_model_typing.specs.declared.frames.VType.TheVariants.{Unusable, Long}
use Rattle.jk_model_typing.specs.declared.frames.FrameType.{FrameType}
use Rattle.jk_model_typing.specs.FrameTypes.{FrameFits, IsFrameOf, of_class, throwable}
use Rattle.jk_model_typing.specs.Rows.{Row}
use Rattle.jk_model_typing.specs.Scopes.{CodeScope, IsScopeOf, own_receiver, parameter_values, is_static, is_init}

-- ---- Where control goes.

-- goto, the switches, the returns, athrow: control doesn't go on to the next instruction
abbrev pub leaves_line : ℕ → Bool
leaves_line op = op == GOTO || is_switch op || (nat_le IRETURN op && nat_le op RETURN) || op == ATHROW

-- control may go on here after the instruction at this place: at the next one, at a jump's target, at a switch's cases and
-- default
abbrev pub GoesOnAt : ℕ → Instr → ℤ → Type 0
GoesOnAt place i next = (IsTrue (not (leaves_line i.op)) × (next ≡ pos (place + 1))) ⊎ LeadsTo i next

abbrev pub Covers : Caught → ℕ → Type 0
Covers h place = (h.start ≤ place) × (place < h.end)

-- istore, lstore, astore, iinc
abbrev pub is_store : ℕ → Bool
is_store op = op == ISTORE || op == LSTORE || op == ASTORE || op == IINC

-- what a handler has on the stack
abbrev pub caught_value : CodeScope → Caught → VType
caught_value s h = elim h.class as (λ _. VType) [ Some c ↦ of_class s.classes c | None ↦ throwable ]

-- the frame with which a handler begins, where these were the locals and the flag
abbrev pub handler_frame : CodeScope → Caught → List VType → Bool → FrameType
handler_frame s h locals fresh = record { locals = locals; stack = caught_value s h ∷ []; fresh = fresh }

-- ---- Typings. Each instruction has a frame, or none.

abbrev pub FrameAt : List (Option FrameType) → ℕ → FrameType → Type 0
FrameAt frames place f = slice_get frames place ≡ Some (Some f)

-- the instruction at this place has a frame which this one fits
abbrev pub FitsAt : CodeScope → List (Option FrameType) → ℕ → FrameType → Type 0
FitsAt s frames place f = (g : FrameType) × FrameAt frames place g × FrameFits s.classes f g

-- a value in the locals: a long takes two
abbrev pub as_locals : VType → List VType
as_locals Long = Long ∷ Unusable ∷ []
as_locals v = v ∷ []

-- the frame with which the method begins: its receiver and arguments, in front of locals that can't be used yet
pub record IsStart (s : CodeScope) (f : FrameType) : Type 0 where
  pub given : List VType
  pub given_is : given ≡ own_receiver s ++ flat_map as_locals (parameter_values s s.method)
  pub room : length given ≤ s.code.max_locals
  pub locals : f.locals ≡ given ++ replicate (s.code.max_locals - length given) Unusable
  pub stack : f.stack ≡ []
  pub fresh : f.fresh ≡ (not (is_static s.method) && is_init s.method)

-- The instruction may begin with its frame, and wherever control goes from it there is a frame that is fitted: by what it
-- leaves; and at each handler that covers it by what was there before, and where it stores into a local by what is after.
pub record GoesWell (s : CodeScope) (frames : List (Option FrameType)) (place : ℕ) (i : Instr) (f : FrameType) : Type 0 where
  pub after : FrameType
  pub row : Row s place i f after
  pub goes_on : (next : ℤ) → GoesOnAt place i next → (n : ℕ) × (next ≡ pos n) × FitsAt s frames n after
  pub caught : (h : Caught) → Contains s.code.handlers h → Covers h place → FitsAt s frames h.handler (handler_frame s h f.locals f.fresh)
  pub caught_after : (h : Caught) → Contains s.code.handlers h → Covers h place → IsTrue (is_store i.op)
      → FitsAt s frames h.handler (handler_frame s h after.locals f.fresh)

pub record IsTyping (classes : List ClassRecord) (m : MemberId) (frames : List (Option FrameType)) : Type 0 where
  pub scope : CodeScope
  pub scope_is : IsScopeOf classes m scope
  pub as_many : length frames ≡ length scope.code.instrs
  pub sized : (place : ℕ) (f : FrameType) → FrameAt frames place f → IsFrameOf scope.code f
  pub start : FrameType
  pub start_is : IsStart scope start
  pub first : FitsAt scope frames 0 start
  pub each : (place : ℕ) (i : Instr) (f : FrameType) → slice_get scope.code.instrs place ≡ Some i → FrameAt frames place f
      → GoesWell scope frames place i f

-- it has a frame only where each typing has one, and its frames fit theirs
pub record IsLeastTyping (classes : List ClassRecord) (m : MemberId) (frames : List (Option FrameType)) : Type 0 where
  pub typing : IsTyping classes m frames
  pub least : (other : List (Option FrameType)) → IsTyping classes m other → (place : ℕ) (f : FrameType) → FrameAt frames place f
      → (g : FrameType) × FrameAt other place g × FrameFits classes f g

-- ---- The rules on the code of a class's methods. Members are numbered from 1, fields first.

-- the method of a class with this number has code
pub record CodeOf (classes : List ClassRecord) (c : ClassId) (number : ℕ) (m : MemberId) (code : LinkedCode) : Type 0 where
  pub class : ClassRecord
  pub class_is : record_of classes c ≡ Some class
  pub method : MethodRecord
  pub method_is : slice_get class.methods m.index ≡ Some method
  pub of_class : m.class ≡ c
  pub body : method.body ≡ Linked code
  pub number_is : number ≡ length class.fields + m.index + 1

-- C24: a typing would have more slots than this
abbrev pub MOST_SLOTS : ℕ
MOST_SLOTS = 4194304

abbrev pub BreaksC24 : List ClassRecord → ClassId → ℕ → Type 0
BreaksC24 classes c number =
    (m : MemberId) × (code : LinkedCode) × CodeOf classes c number m code
    × (MOST_SLOTS < length code.instrs * (code.max_locals + code.max_stack))

-- C23: a method's code has no typing
abbrev pub BreaksC23 : List ClassRecord → ClassId → ℕ → Type 0
BreaksC23 classes c number =
    (m : MemberId) × (code : LinkedCode) × CodeOf classes c number m code
    × ((frames : List (Option FrameType)) → IsTyping classes m frames → ⊥)
