-- Typings of a code in a scope. The code may be another than that of the scope's method.
use Rattle.std.specs.Prelude.{◌≡◌, ℕ, List, length, Option, slice_get, Some}
use Rattle.jk_model.specs.declared.instructions.Instr.{Instr}
use Rattle.jk_model_typing.specs.declared.frames.FrameType.{FrameType}
use Rattle.jk_model_typing.specs.FrameTypes.{FrameFits, IsFrameOf}
use Rattle.jk_model_typing.specs.Scopes.{CodeScope}
use Rattle.jk_model_typing.specs.Typing.{FitsAt, FrameAt, GoesWell, IsStart}

pub record IsTypingIn (s : CodeScope) (frames : List (Option FrameType)) : Type 0 where
  pub as_many : length frames ≡ length s.code.instrs
  pub sized : (place : ℕ) (f : FrameType) → FrameAt frames place f → IsFrameOf s.code f
  pub start : FrameType
  pub start_is : IsStart s start
  pub first : FitsAt s frames 0 start
  pub each : (place : ℕ) (i : Instr) (f : FrameType) → slice_get s.code.instrs place ≡ Some i → FrameAt frames place f
      → GoesWell s frames place i f

-- it has a frame only where each typing has one, and its frames fit theirs
pub record IsLeastTypingIn (s : CodeScope) (frames : List (Option FrameType)) : Type 0 where
  pub typing : IsTypingIn s frames
  pub least : (other : List (Option FrameType)) → IsTypingIn s other → (place : ℕ) (f : FrameType) → FrameAt frames place f
      → (g : FrameType) × FrameAt other place g × FrameFits s.classes f g
