-- Which values fit which types: those of locals and of entries of the operand stack, and those that fields, elements
-- and static fields hold.
use Rattle.std.specs.Prelude.{◌≡◌, ⊤, List, [], ◌∷◌, Some}
use Rattle.jk_model.specs.declared.identifiers.ClassId.{ClassId}
use Rattle.jk_model.specs.declared.values.Value.{Value}
use Rattle.jk_model.specs.declared.values.Value.TheVariants as Held
use Rattle.jk_model_classes.specs.declared.records.ClassRecord.{ClassRecord}
use Rattle.jk_model_classes.specs.declared.records.TypeRef.{TypeRef}
use Rattle.jk_model_classes.specs.Classes.{IsSubclass}
use Rattle.jk_model_typing.specs.declared.frames.FrameType.{FrameType}
use Rattle.jk_model_typing.specs.declared.frames.VType.{VType}
use Rattle.jk_model_typing.specs.declared.frames.VType.TheVariants.{Unusable, Int, Long, Null, Ref, Fresh, FreshThis}
use Rattle.jk_model_typing.specs.FrameTypes.{RefFits, value_of}
use Rattle.jk_model_typing.specs.Rows.{MakesAt}
use Rattle.jk_model_typing.specs.Scopes.{CodeScope}
use Rattle.jk_model_frames.specs.Frames.{FrameState}
use Rattle.jk_model_domains.specs.Objects.{NamedObject, Object, Plain, CAPABILITY, class_type, object_named, type_of}

-- ---- In a frame of a method, whose code is judged in a scope.

-- a plain object of this class
abbrev pub IsPlainOf : ClassId → Object → Type 0
IsPlainOf c object = (fields : List Value) × (object ≡ Plain c fields)

-- an object whose constructor has not been called yet is of the very class that `new` made; `this` of a constructor is of
-- the method's class or below it
abbrev pub ObjectFits : CodeScope → Object → VType → Type 0
ObjectFits s object (Ref t) = RefFits s.classes (type_of object) t
ObjectFits s object (Fresh place) = (c : ClassId) × MakesAt s place c × IsPlainOf c object
ObjectFits s object FreshThis = (c : ClassId) × IsPlainOf c object × IsSubclass s.classes c s.self
ObjectFits s object _ = ⊥

-- every value fits `Unusable`, and an unset one nothing else; null fits each reference that isn't fresh; a capability
-- fits as an object of jk/Capability does
abbrev pub ValueFits : CodeScope → List NamedObject → Value → VType → Type 0
ValueFits s heap v Unusable = ⊤
ValueFits s heap (Held.Int n) Int = ⊤
ValueFits s heap (Held.Long n) Long = ⊤
ValueFits s heap Held.Null Null = ⊤
ValueFits s heap Held.Null (Ref t) = ⊤
ValueFits s heap (Held.Obj a) t = (object : Object) × (object_named heap a ≡ Some object) × ObjectFits s object t
ValueFits s heap (Held.Cap k) (Ref t) = RefFits s.classes (class_type CAPABILITY) t
ValueFits s heap _ _ = ⊥

-- as many, each of which fits the type at its place
abbrev pub EachValueFits : CodeScope → List NamedObject → List Value → List VType → Type 0
EachValueFits s heap [] [] = ⊤
EachValueFits s heap (v ∷ vs) (t ∷ ts) = ValueFits s heap v t × EachValueFits s heap vs ts
EachValueFits s heap _ _ = ⊥

-- The values of a frame fit a frame type.
pub record FrameHolds (s : CodeScope) (heap : List NamedObject) (f : FrameState) (t : FrameType) : Type 0 where
  pub locals : EachValueFits s heap f.locals t.locals
  pub stack : EachValueFits s heap f.stack t.stack

-- ---- In a field, an element or a static field of a declared type, an interface being read as java/lang/Object.

abbrev HoldsType : List ClassRecord → List NamedObject → Value → VType → Type 0
HoldsType classes heap (Held.Int n) Int = ⊤
HoldsType classes heap (Held.Long n) Long = ⊤
HoldsType classes heap Held.Null (Ref t) = ⊤
HoldsType classes heap (Held.Obj a) (Ref t) =
    (object : Object) × (object_named heap a ≡ Some object) × RefFits classes (type_of object) t
HoldsType classes heap (Held.Cap k) (Ref t) = RefFits classes (class_type CAPABILITY) t
HoldsType classes heap _ _ = ⊥

abbrev pub HoldsDeclared : List ClassRecord → List NamedObject → Value → TypeRef → Type 0
HoldsDeclared classes heap v declared = HoldsType classes heap v (value_of classes declared)
