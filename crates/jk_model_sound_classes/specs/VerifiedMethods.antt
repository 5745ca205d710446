-- Which typing a verified method has. Frames of running methods are compared with it.
use Rattle.std.specs.Prelude.{◌≡◌, ℕ, ◌⊎◌, List, length, take, Option}
use Rattle.jk_model.specs.declared.identifiers.MemberId.{MemberId}
use Rattle.jk_model_classes.specs.declared.records.ClassRecord.{ClassRecord}
use Rattle.jk_model_typing.specs.declared.frames.FrameType.{FrameType}
use Rattle.jk_model_typing.specs.Typing.{IsLeastTyping, IsTyping}
use Rattle.class_growth.specs.ClosedClasses.{IsClosed}

-- A method's code has this typing, and it is the least one among all classes, or among some first ones that mention no other, as
-- those do that stood when the method's folder was loaded. So no later class can come into a frame.
pub record IsVerified (classes : List ClassRecord) (method : MemberId) (frames : List (Option FrameType)) : Type 0 where
  pub typing : IsTyping classes method frames
  pub stood : ℕ
  pub enough : (stood ≡ length classes) ⊎ IsClosed (take stood classes)
  pub is_least : IsLeastTyping (take stood classes) method frames
