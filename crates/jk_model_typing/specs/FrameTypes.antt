-- Types of values and frames, and which fits which. A type that fits another says as much or more. What instructions push
-- has interfaces read as java/lang/Object, so that of classes below it any two have one least class above both.
use Rattle.std.specs.Prelude.{◌≡◌, ℕ, zero, suc, ◌+◌, ◌<◌, ◌≤◌, ◌⊎◌, ⊤, IsTrue, List, [], ◌∷◌, length, sum_by, Some, slice_get, if◌then◌else◌}
use Rattle.std.specs.List.{AllByRecursion}
use Rattle.jk_model.specs.declared.identifiers.ClassId.{ClassId}
use Rattle.jk_model_classes.specs.declared.records.BaseRef.{BaseRef}
use Rattle.jk_model_classes.specs.declared.records.BaseRef.TheVariants as Base
use Rattle.jk_model_classes.specs.declared.records.ClassRecord.{ClassRecord}
use Rattle.jk_model_classes.specs.declared.records.LinkedCode.{LinkedCode}
use Rattle.jk_model_classes.specs.declared.records.TypeRef.{TypeRef}
use Rattle.jk_model_classes.specs.Classes.{record_of, is_interface_record, IsSubclass, OBJECT}
use Rattle.jk_model_typing.specs.declared.frames.VType.{VType}
use Rattle.jk_model_typing.specs.declared.frames.VType.TheVariants.{Unusable, Int, Long, Null, Ref}
use Rattle.jk_model_typing.specs.declared.frames.FrameType.{FrameType}

-- ---- Types of values, from the types of fields, parameters and results.

-- an interface is read as java/lang/Object
abbrev pub erased_class : List ClassRecord → ClassId → ClassId
erased_class classes c = if is_interface_record (record_of classes c) then OBJECT else c

abbrev pub erased_base : List ClassRecord → BaseRef → BaseRef
erased_base classes (Base.Class c) = Base.Class (erased_class classes c)
erased_base classes base = base

abbrev pub erased : List ClassRecord → TypeRef → TypeRef
erased classes t = record { dims = t.dims; base = erased_base classes t.base }

abbrev pub array_type : ℕ → BaseRef → TypeRef
array_type dims base = record { dims = dims; base = base }

-- null, or an object or array of this type
abbrev pub of_type : List ClassRecord → TypeRef → VType
of_type classes t = Ref (erased classes t)

abbrev pub of_class : List ClassRecord → ClassId → VType
of_class classes c = of_type classes (array_type 0 (Base.Class c))

-- the system classes java/lang/String and java/lang/Throwable, by their places in the system table
abbrev pub STRING : ClassId
STRING = record { 0 = 3 }

abbrev pub THROWABLE : ClassId
THROWABLE = record { 0 = 9 }

abbrev pub string : VType
string = Ref (array_type 0 (Base.Class STRING))

abbrev pub throwable : VType
throwable = Ref (array_type 0 (Base.Class THROWABLE))

-- what is no array: long is long, the other whole numbers are int
abbrev pub base_value : List ClassRecord → BaseRef → VType
base_value classes Base.Long = Long
base_value classes (Base.Class c) = of_class classes c
base_value classes base = Int

abbrev pub dims_value : List ClassRecord → ℕ → BaseRef → VType
dims_value classes zero base = base_value classes base
dims_value classes (suc dims) base = of_type classes (array_type (suc dims) base)

-- a value of this type
abbrev pub value_of : List ClassRecord → TypeRef → VType
value_of classes t = dims_value classes t.dims t.base

-- ---- Which type fits which.

abbrev pub IsClassBelow : List ClassRecord → BaseRef → BaseRef → Type 0
IsClassBelow classes (Base.Class a) (Base.Class b) = IsSubclass classes a b
IsClassBelow classes _ _ = ⊥

-- Of classes and arrays: equal ones; a class and one above it, or arrays of as many dimensions of such classes; what has
-- more dimensions than an array of java/lang/Object, or than java/lang/Object itself, whatever it is of.
abbrev pub RefFits : List ClassRecord → TypeRef → TypeRef → Type 0
RefFits classes a b =
    (a ≡ b)
    ⊎ ((a.dims ≡ b.dims) × IsClassBelow classes a.base b.base)
    ⊎ ((b.dims < a.dims) × (b.base ≡ Base.Class OBJECT))

-- every type fits `Unusable`, and itself; null fits each reference that isn't fresh
abbrev pub Fits : List ClassRecord → VType → VType → Type 0
Fits classes a Unusable = ⊤
Fits classes Null (Ref b) = ⊤
Fits classes (Ref a) (Ref b) = RefFits classes a b
Fits classes a b = a ≡ b

-- the least type that both fit
pub record IsJoin (classes : List ClassRecord) (a b c : VType) : Type 0 where
  pub left : Fits classes a c
  pub right : Fits classes b c
  pub least : (d : VType) → Fits classes a d → Fits classes b d → Fits classes c d

-- as many, each of which fits the one at its place
abbrev pub EachFits : List ClassRecord → List VType → List VType → Type 0
EachFits classes [] [] = ⊤
EachFits classes (a ∷ xs) (b ∷ ys) = Fits classes a b × EachFits classes xs ys
EachFits classes _ _ = ⊥

-- ---- Frames.

abbrev pub IsUsable : VType → Type 0
IsUsable Unusable = ⊥
IsUsable _ = ⊤

-- Stacks are equally high, and their entries can be used. A frame with the flag fits only frames with the flag.
pub record FrameFits (classes : List ClassRecord) (a b : FrameType) : Type 0 where
  pub locals : EachFits classes a.locals b.locals
  pub stack : EachFits classes a.stack b.stack
  pub usable : AllByRecursion IsUsable b.stack
  pub fresh : IsTrue a.fresh → IsTrue b.fresh

-- how many slots a value takes
abbrev pub slots_of : VType → ℕ
slots_of Long = 2
slots_of _ = 1

abbrev pub slots : List VType → ℕ
slots stack = sum_by slots_of stack

-- a frame that a code with this room may have
pub record IsFrameOf (code : LinkedCode) (f : FrameType) : Type 0 where
  pub locals : length f.locals ≡ code.max_locals
  pub stack : slots f.stack ≤ code.max_stack
  pub usable : AllByRecursion IsUsable f.stack
  -- after a long comes its second half, which can't be used by itself
  pub halves : (n : ℕ) → slice_get f.locals n ≡ Some Long → slice_get f.locals (n + 1) ≡ Some Unusable
