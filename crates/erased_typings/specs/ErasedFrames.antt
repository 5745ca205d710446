-- Frames without interfaces: what stands in them is read as java/lang/Object where a class file names an interface.
use Rattle.std.specs.Prelude.{◌≡◌, ℕ, ⊤, List, length, take, Option, Some}
use Rattle.std.specs.List.{AllByRecursion}
use Rattle.jk_model.specs.declared.identifiers.ClassId.{ClassId}
use Rattle.jk_model.specs.declared.identifiers.MemberId.{MemberId}
use Rattle.jk_model.specs.SystemTable.{system_classes}
use Rattle.jk_model_classes.specs.declared.records.BaseRef.{BaseRef}
use Rattle.jk_model_classes.specs.declared.records.BaseRef.TheVariants as Base
use Rattle.jk_model_classes.specs.declared.records.ClassRecord.{ClassRecord}
use Rattle.jk_model_classes.specs.Classes.{record_of, AreOrdered, IsInterface}
use Rattle.jk_model_classes.specs.SystemRecords.{AreSystemRecords}
use Rattle.jk_model_typing.specs.declared.frames.FrameType.{FrameType}
use Rattle.jk_model_typing.specs.declared.frames.VType.{VType}
use Rattle.jk_model_typing.specs.declared.frames.VType.TheVariants.{Ref}
use Rattle.jk_model_typing.specs.Typing.{FrameAt, IsLeastTyping}

-- no parent of a class is an interface
abbrev pub HaveClassParents : List ClassRecord → Type 0
HaveClassParents classes =
    (c p : ClassId) (r : ClassRecord) → record_of classes c ≡ Some r → r.parent ≡ Some p → IsInterface classes p → ⊥

-- what an array is of, or a value that is no array: it isn't of an interface
abbrev pub IsErasedBase : List ClassRecord → BaseRef → Type 0
IsErasedBase classes (Base.Class c) = IsInterface classes c → ⊥
IsErasedBase classes _ = ⊤

abbrev pub IsErasedType : List ClassRecord → VType → Type 0
IsErasedType classes (Ref t) = IsErasedBase classes t.base
IsErasedType classes _ = ⊤

pub record IsErasedFrame (classes : List ClassRecord) (f : FrameType) : Type 0 where
  pub locals : AllByRecursion (IsErasedType classes) f.locals
  pub stack : AllByRecursion (IsErasedType classes) f.stack

-- of a method of ordered classes with the system classes in front
abbrev pub LeastTypingsAreErased : Type 0
LeastTypingsAreErased =
    (classes : List ClassRecord) (m : MemberId) (frames : List (Option FrameType)) (place : ℕ) (f : FrameType)
    → AreOrdered classes → AreSystemRecords (take (length system_classes) classes) → HaveClassParents classes
    → IsLeastTyping classes m frames → FrameAt frames place f → IsErasedFrame classes f

-- the system classes by themselves
abbrev pub SystemParentsAreClasses : Type 0
SystemParentsAreClasses = (classes : List ClassRecord) → AreSystemRecords classes → HaveClassParents classes
