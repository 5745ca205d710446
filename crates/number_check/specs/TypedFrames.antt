-- The typing of a method, where a frame of it stands, and that the frame fits there.
use Rattle.std.specs.Prelude.{◌≡◌, List, Option, Some}
use Rattle.jk_model.specs.declared.identifiers.MemberId.{MemberId}
use Rattle.jk_model_classes.specs.declared.records.ClassRecord.{ClassRecord}
use Rattle.jk_model_typing.specs.declared.frames.FrameType.{FrameType}
use Rattle.jk_model_typing.specs.Scopes.{CodeScope, IsScopeOf}
use Rattle.jk_model_typing.specs.Typing.{FrameAt}
use Rattle.jk_model_frames.specs.Frames.{FrameState}
use Rattle.jk_model_domains.specs.Objects.{NamedObject}
use Rattle.jk_model_domains.specs.ValueTypes.{FrameHolds}
use Rattle.jk_model_sound_classes.specs.VerifiedMethods.{IsVerified}

-- What a frame's method is judged in, and its typing.
pub record HasTyping (classes : List ClassRecord) (f : FrameState) : Type 0 where
  pub method : MemberId
  pub is_method : f.head.method ≡ Some method
  pub scope : CodeScope
  pub is_scope : IsScopeOf classes method scope
  pub room : (f.head.max_locals ≡ scope.code.max_locals) × (f.head.max_stack ≡ scope.code.max_stack)
  pub frames : List (Option FrameType)
  pub is_verified : IsVerified classes method frames
  -- what is known where it stands
  pub type : FrameType
  pub stands : FrameAt frames f.head.at type

-- the frame fits what is known where it stands
abbrev pub FitsHere : List ClassRecord → List NamedObject → FrameState → Type 0
FitsHere classes heap f = (t : HasTyping classes f) × FrameHolds t.scope heap f t.type
