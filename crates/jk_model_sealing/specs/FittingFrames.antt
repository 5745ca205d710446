-- Which frames fit where they stand: the top frame of a segment and a frame that an initialiser interrupts fit their method's least
-- typing; every other frame stands at a call, whose arguments are off its stack and whose result isn't on it yet.
use Rattle.std.specs.Prelude.{◌≡◌, ◌≢◌, ◌⊎◌, ⊤, List, [], ◌∷◌, ◌++◌, Option, Some, None, slice_get}
use Rattle.jk_model.specs.declared.identifiers.ClassId.{ClassId}
use Rattle.jk_model.specs.declared.identifiers.MemberId.{MemberId}
use Rattle.jk_model.specs.declared.instructions.Instr.{Instr}
use Rattle.jk_model.specs.declared.opcodes.TheConstants.{INVOKEINTERFACE, INVOKESPECIAL, INVOKESTATIC, INVOKEVIRTUAL}
use Rattle.jk_model_classes.specs.declared.records.ClassRecord.{ClassRecord}
use Rattle.jk_model_classes.specs.declared.records.LinkedCode.{LinkedCode}
use Rattle.jk_model_classes.specs.declared.records.MethodRecord.{MethodRecord}
use Rattle.jk_model_typing.specs.declared.frames.FrameType.{FrameType}
use Rattle.jk_model_typing.specs.declared.frames.VType.{VType}
use Rattle.jk_model_typing.specs.Rows.{Row}
use Rattle.jk_model_typing.specs.Scopes.{CodeScope, IsScopeOf, result_values}
use Rattle.jk_model_typing.specs.Typing.{FrameAt, IsLeastTyping}
use Rattle.jk_model_frames.specs.Frames.{FrameState}
use Rattle.jk_model_domains.specs.Objects.{NamedObject}
use Rattle.jk_model_domains.specs.ValueTypes.{EachValueFits, FrameHolds}
use Rattle.jk_model_heaps.specs.RunningCode.{HasNoClinit, IsClinitOf, NamesMethod}

-- ---- A frame at an instruction.

-- What a frame's method is judged in, and what the least typing of its code says of the place where the frame stands.
pub record HasTyping (classes : List ClassRecord) (f : FrameState) : Type 0 where
  pub method : MemberId
  pub is_method : f.head.method ≡ Some method
  pub scope : CodeScope
  pub is_scope : IsScopeOf classes method scope
  pub room : (f.head.max_locals ≡ scope.code.max_locals) × (f.head.max_stack ≡ scope.code.max_stack)
  pub frames : List (Option FrameType)
  pub is_least : IsLeastTyping classes method frames
  pub type : FrameType
  pub stands : FrameAt frames f.head.at type

abbrev pub FitsHere : List ClassRecord → List NamedObject → FrameState → Type 0
FitsHere classes heap f = (t : HasTyping classes f) × FrameHolds t.scope heap f t.type

-- invokevirtual, invokespecial, invokestatic, invokeinterface
abbrev pub IsCall : Instr → Type 0
IsCall i = (i.op ≡ INVOKEVIRTUAL) ⊎ (i.op ≡ INVOKESPECIAL) ⊎ (i.op ≡ INVOKESTATIC) ⊎ (i.op ≡ INVOKEINTERFACE)

-- The frame stands at a call that has left it: what is on its stack fits what the call leaves there below its result, and its locals
-- fit what is known before the call and after it.
pub record FitsAtCall (classes : List ClassRecord) (heap : List NamedObject) (f : FrameState) : Type 0 where
  pub no_need : f.head.need ≡ None
  pub typing : HasTyping classes f
  pub instr : Instr
  pub is_instr : slice_get typing.scope.code.instrs f.head.at ≡ Some instr
  pub is_call : IsCall instr
  pub member : MemberId
  pub called : MethodRecord
  pub names : NamesMethod typing.scope instr member called
  pub after : FrameType
  pub row : Row typing.scope f.head.at instr typing.type after
  -- the types that are left on the stack below the result
  pub below : List VType
  pub left : after.stack ≡ below ++ result_values typing.scope called
  pub stack : EachValueFits typing.scope heap f.stack below
  pub locals : EachValueFits typing.scope heap f.locals after.locals
  pub locals_before : EachValueFits typing.scope heap f.locals typing.type.locals

-- ---- Needs, and initialiser frames.

-- a frame with a need stands at its method's first instruction
abbrev pub StandsWell : FrameState → Type 0
StandsWell f = (f.head.need ≡ None) ⊎ ((f.head.need ≢ None) × (f.head.at ≡ 0))

-- an initialiser frame without code has a need, and nothing that would fit anything
pub record IsEmptyFrame (f : FrameState) : Type 0 where
  pub no_method : f.head.method ≡ None
  pub need : f.head.need ≢ None
  pub at : f.head.at ≡ 0
  pub no_locals : (f.head.max_locals ≡ 0) × (f.locals ≡ [])
  pub no_stack : (f.head.max_stack ≡ 0) × (f.stack ≡ [])

-- the frame that runs, or that an initialiser frame interrupts
abbrev pub FitsAsTop : List ClassRecord → List NamedObject → FrameState → Type 0
FitsAsTop classes heap f = IsEmptyFrame f ⊎ (StandsWell f × FitsHere classes heap f)

-- a frame that initialises a class runs its `<clinit>`, and has no method exactly where there is none; every other frame has a method
abbrev pub InitialisesWell : List ClassRecord → FrameState → Type 0
InitialisesWell classes f =
    ((f.head.initialises ≡ None) × (f.head.method ≢ None))
    ⊎ ((c : ClassId) × (m : MemberId) × (code : LinkedCode) × (f.head.initialises ≡ Some c) × (f.head.method ≡ Some m)
    × IsClinitOf classes c m code)
    ⊎ ((c : ClassId) × (f.head.initialises ≡ Some c) × (f.head.method ≡ None) × HasNoClinit classes c)

-- ---- Frames in a row. What is asked of the last one depends on where the segment stands.

-- directly below another frame: it runs again when that one has initialised a class, or it has called that one's method
abbrev pub FitsAsCaller : List ClassRecord → List NamedObject → FrameState → FrameState → Type 0
FitsAsCaller classes heap f above =
    ((above.head.initialises ≢ None) × FitsAsTop classes heap f)
    ⊎ ((above.head.initialises ≡ None) × FitsAtCall classes heap f)

abbrev pub FramesFit : (FrameState → Type 0) → List ClassRecord → List NamedObject → List FrameState → Type 0
FramesFit Top classes heap [] = ⊤
FramesFit Top classes heap (f ∷ []) = Top f
FramesFit Top classes heap (f ∷ above ∷ more) = FitsAsCaller classes heap f above × FramesFit Top classes heap (above ∷ more)
