-- What a line of instructions leaves, place by place, while a typing of all places is made from the frames of leaders.
use Rattle.std.specs.Prelude.{◌≡◌, ℕ, ◌⊎◌, not, IsTrue, Option, Some, None}
use Rattle.jk_model.specs.declared.instructions.Instr.{Instr}
use Rattle.jk_model_typing.specs.declared.frames.FrameType.{FrameType}
use Rattle.jk_model_typing.specs.FrameTypes.{IsFrameOf}
use Rattle.jk_model_typing.specs.Rows.{Row}
use Rattle.jk_model_typing.specs.Scopes.{CodeScope}
use Rattle.jk_model_typing.specs.Typing.{leaves_line}

-- what the next place begins with, where control comes there from this instruction alone
abbrev pub Leaves : CodeScope → ℕ → Instr → Option FrameType → Option FrameType → Type 0
Leaves s place i None left = left ≡ None
Leaves s place i (Some f) left =
    (IsTrue (leaves_line i.op) × (left ≡ None))
    ⊎ (IsTrue (not (leaves_line i.op)) × ((g : FrameType) × (left ≡ Some g) × Row s place i f g))

-- the instruction may begin with the frame, where there is one
pub record MayBegin (s : CodeScope) (place : ℕ) (i : Instr) (frame : Option FrameType) : Type 0 where
  pub sized : (f : FrameType) → frame ≡ Some f → IsFrameOf s.code f
  pub steps : (f : FrameType) → frame ≡ Some f → (after : FrameType) × Row s place i f after
