-- The frame of a method that is run: how it begins, that it fits its method's typing, and what an instruction leaves. The heap is one
-- that no code holds; it only says to which objects the names among the arguments lead.
use Rattle.std.specs.Prelude.{◌≡◌, ℕ, ◌<◌, ◌^◌, List, [], ◌∷◌, length, map, Option, Some, None, slice_get}
use Rattle.jk_model.specs.declared.frames.FrameHead.{FrameHead}
use Rattle.jk_model.specs.declared.identifiers.MemberId.{MemberId}
use Rattle.jk_model.specs.declared.identifiers.SegmentNo.{SegmentNo}
use Rattle.jk_model.specs.declared.instructions.Instr.{Instr}
use Rattle.jk_model.specs.declared.instructions.SwitchCase.{SwitchCase}
use Rattle.jk_model.specs.Instructions.{Rises}
use Rattle.jk_model.specs.declared.steps.After.{After}
use Rattle.jk_model.specs.declared.steps.After.TheVariants.{Goto}
use Rattle.jk_model.specs.declared.values.Value.{Value}
use Rattle.jk_model_classes.specs.declared.records.ClassRecord.{ClassRecord}
use Rattle.jk_model_classes.specs.Classes.{OBJECT}
use Rattle.jk_model_typing.specs.declared.frames.FrameType.{FrameType}
use Rattle.jk_model_typing.specs.Scopes.{CodeScope, IsScopeOf}
use Rattle.jk_model_typing.specs.Typing.{FrameAt}
use Rattle.jk_model_frames.specs.Frames.{FrameState}
use Rattle.jk_model_domains.specs.NumberRows.{IsOfNumbers}
use Rattle.jk_model_domains.specs.Objects.{NamedObject, Plain}
use Rattle.jk_model_domains.specs.ValueTypes.{EachValueFits}
use Rattle.frame_store.specs.FrameContents.{FrameContent, HasTop, TopFrame}
use Rattle.number_check.specs.TypedFrames.{FitsHere}

-- two objects of java/lang/Object
abbrev pub HEAP : List NamedObject
HEAP = record { name = 1; object = Plain OBJECT [] } ∷ record { name = 2; object = Plain OBJECT [] } ∷ []

-- The segment's top frame has this head, and nothing is on its stack.
pub record IsBegun (c : FrameContent) (s : SegmentNo) (head : FrameHead) : Type 0 where
  pub frame : FrameState
  pub top : TopFrame c s frame
  pub head_is : frame.head ≡ head
  pub stack : frame.stack ≡ []

-- The first instruction has a frame type that such locals and an empty stack fit.
pub record AreFirst (frames : List (Option FrameType)) (locals : List Value) : Type 0 where
  pub type : FrameType
  pub is_type : FrameAt frames 0 type
  pub locals_fit : (s : CodeScope) → EachValueFits s HEAP locals type.locals
  pub stack : type.stack ≡ []

-- the frame runs the method whose code this scope has
abbrev pub RunsCodeOf : List ClassRecord → CodeScope → FrameState → Type 0
RunsCodeOf classes scope f = (m : MemberId) × (f.head.method ≡ Some m) × IsScopeOf classes m scope

-- The segment's top frame runs the code of this scope, and fits its typing.
pub record RunsIn (c : FrameContent) (classes : List ClassRecord) (s : SegmentNo) (scope : CodeScope) : Type 0 where
  pub frame : FrameState
  pub top : TopFrame c s frame
  pub runs : RunsCodeOf classes scope frame
  pub fits : FitsHere classes HEAP frame
  pub short : length scope.code.instrs < 2 ^ 32

-- This instruction on numbers stands at a place of the code.
pub record HasNumbersAt (scope : CodeScope) (place : ℕ) (i : Instr) : Type 0 where
  pub stands : slice_get scope.code.instrs place ≡ Some i
  pub of_numbers : IsOfNumbers scope i
  pub keys : Rises (map (λ (c : SwitchCase). c.key) i.cases)

-- the frame stands at another place, and needs no class
abbrev pub gone_to : FrameState → ℕ → FrameState
gone_to f place = record f { head = record f.head { at = place; need = None } }

-- What an instruction leaves: a frame that fits where it goes on, or one with which nothing more is done.
abbrev pub LeadsOn : FrameContent → List ClassRecord → SegmentNo → CodeScope → After → Type 0
LeadsOn c classes s scope (Goto place) =
    (f : FrameState) × TopFrame c s f × RunsCodeOf classes scope f × FitsHere classes HEAP (gone_to f place)
    × (length scope.code.instrs < 2 ^ 32)
LeadsOn c classes s scope _ = HasTop c s
