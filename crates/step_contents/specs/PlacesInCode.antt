-- Where a frame stands in its method's code.
use Rattle.std.specs.Prelude.{◌≡◌, List, Some, slice_get}
use Rattle.jk_model.specs.declared.frames.FrameHead.{FrameHead}
use Rattle.jk_model.specs.declared.identifiers.MemberId.{MemberId}
use Rattle.jk_model.specs.declared.instructions.Instr.{Instr}
use Rattle.jk_model_classes.specs.declared.records.ClassRecord.{ClassRecord}
use Rattle.jk_model_typing.specs.Scopes.{CodeScope, IsScopeOf}

-- what code with references to a class table has at hand of a place: the frame's head, what its method's code is judged in, and the
-- instruction there
pub record PlaceInCode : Type 0 where
  pub head : FrameHead
  pub scope : CodeScope
  pub instr : Instr

-- A frame with this head stands there.
pub record IsPlaceIn (classes : List ClassRecord) (at : PlaceInCode) : Type 0 where
  pub method : MemberId
  pub is_method : at.head.method ≡ Some method
  pub is_scope : IsScopeOf classes method at.scope
  pub stands : slice_get at.scope.code.instrs at.head.at ≡ Some at.instr
