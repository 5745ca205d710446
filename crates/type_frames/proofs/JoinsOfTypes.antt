-- The join of two types is that of the second and the first.
use Rattle.std.proofs.Common.{List}
use Rattle.jk_model_classes.specs.declared.records.ClassRecord.{ClassRecord}
use Rattle.jk_model_typing.specs.declared.frames.VType.{VType}
use Rattle.jk_model_typing.specs.FrameTypes.{IsJoin}

module _ (classes : List ClassRecord) where
  pub IsJoin-swap : (a b c : VType) → IsJoin classes a b c → IsJoin classes b a c
  IsJoin-swap a b c h = record { left = h.right; right = h.left; least = λ d bd ad. h.least d ad bd }
