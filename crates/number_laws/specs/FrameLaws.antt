-- When a frame fits the frame types before and after an instruction, and when a value fits what a method answers; and a frame whose
-- head is another one.
use Rattle.std.specs.Prelude.{◌≡◌, ℕ, List, Some}
use Rattle.jk_model.specs.declared.values.Value.{Value}
use Rattle.jk_model_classes.specs.declared.records.TypeRef.{TypeRef}
use Rattle.jk_model.specs.declared.frames.FrameHead.{FrameHead}
use Rattle.jk_model.specs.declared.instructions.Instr.{Instr}
use Rattle.jk_model_typing.specs.declared.frames.FrameType.{FrameType}
use Rattle.jk_model_typing.specs.FrameTypes.{IsFrameOf, value_of}
use Rattle.jk_model_typing.specs.Rows.{Row}
use Rattle.jk_model_typing.specs.Scopes.{CodeScope}
use Rattle.jk_model_frames.specs.Frames.{FrameState}
use Rattle.jk_model_domains.specs.Objects.{NamedObject}
use Rattle.jk_model_domains.specs.ValueTypes.{FrameHolds, ValueFits}

-- The frame holds values of a frame type with which the instruction may begin, and typing leaves another one.
pub record IsTyped (s : CodeScope) (heap : List NamedObject) (place : ℕ) (i : Instr) (f : FrameState) (before after : FrameType) : Type 0 where
  pub sized : IsFrameOf s.code before
  pub row : Row s place i before after
  pub holds : FrameHolds s heap f before

-- the method's result is of a type that the value fits
abbrev pub FitsResult : CodeScope → List NamedObject → Value → Type 0
FitsResult s heap v = (t : TypeRef) × (s.method.result ≡ Some t) × ValueFits s heap v (value_of s.classes t)

-- the frame with this head
abbrev pub with_head : FrameState → FrameHead → FrameState
with_head f h = record f { head = h }
