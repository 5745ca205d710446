-- What stands above types of classes and arrays: of two bases the nearest class, and of an array the arrays with fewer
-- dimensions.
use Rattle.std.specs.Prelude.{◌≡◌, ◌⊎◌, ℕ, zero, suc, List}
use Rattle.jk_model.specs.declared.identifiers.ClassId.{ClassId}
use Rattle.jk_model_classes.specs.declared.records.BaseRef.{BaseRef}
use Rattle.jk_model_classes.specs.declared.records.BaseRef.TheVariants as Base
use Rattle.jk_model_classes.specs.declared.records.ClassRecord.{ClassRecord}
use Rattle.jk_model_classes.specs.Classes.{IsSubclass, OBJECT}
use Rattle.jk_model_typing.specs.declared.frames.VType.{VType}
use Rattle.jk_model_typing.specs.declared.frames.VType.TheVariants.{Unusable, Ref}
use Rattle.jk_model_typing.specs.FrameTypes.{IsClassBelow, array_type}

-- the class is above both, and below each that is
pub record IsNearest (classes : List ClassRecord) (a b c : ClassId) : Type 0 where
  pub left : IsSubclass classes a c
  pub right : IsSubclass classes b c
  pub nearest : (d : ClassId) → IsSubclass classes a d → IsSubclass classes b d → IsSubclass classes c d

-- arrays of as many dimensions, of this and of that, fit
abbrev pub BaseFits : List ClassRecord → BaseRef → BaseRef → Type 0
BaseFits classes a b = (a ≡ b) ⊎ IsClassBelow classes a b

abbrev pub HaveNoBase : List ClassRecord → BaseRef → BaseRef → Type 0
HaveNoBase classes a b = (c : BaseRef) → BaseFits classes a c → BaseFits classes b c → ⊥

pub record IsNearestBase (classes : List ClassRecord) (a b : BaseRef) (c : ClassId) : Type 0 where
  pub left : BaseFits classes a (Base.Class c)
  pub right : BaseFits classes b (Base.Class c)
  pub nearest : (d : BaseRef) → BaseFits classes a d → BaseFits classes b d → BaseFits classes (Base.Class c) d

-- java/lang/Object, or an array of it
abbrev pub objects : ℕ → VType
objects dims = Ref (array_type dims (Base.Class OBJECT))

-- the least type of those that an array of this many dimensions fits whatever it is of
abbrev pub fewer_dims : ℕ → VType
fewer_dims zero = Unusable
fewer_dims (suc dims) = objects dims
