-- What is an instance of what, by the real hierarchy, interfaces included (the Java Virtual Machine Specification, 6, checkcast,
-- instanceof, aastore). Typing reads interfaces as java/lang/Object; this doesn't.
use Rattle.std.specs.Prelude.{◌≡◌, ◌<◌, ◌⊎◌, List, Some}
use Rattle.jk_model.specs.declared.identifiers.ClassId.{ClassId}
use Rattle.jk_model.specs.declared.values.Value.{Value}
use Rattle.jk_model.specs.declared.values.Value.TheVariants as Held
use Rattle.jk_model_classes.specs.declared.records.BaseRef.{BaseRef}
use Rattle.jk_model_classes.specs.declared.records.BaseRef.TheVariants as Base
use Rattle.jk_model_classes.specs.declared.records.ClassRecord.{ClassRecord}
use Rattle.jk_model_classes.specs.declared.records.TypeRef.{TypeRef}
use Rattle.jk_model_classes.specs.Classes.{Implements, IsSubclass, OBJECT}
use Rattle.jk_model_typing.specs.FrameTypes.{STRING}
use Rattle.jk_model_domains.specs.Objects.{NamedObject, Object, Array, Plain, Task, Text, CAPABILITY, TASK, object_named, type_of}
use Rattle.jk_model_heaps.specs.Capabilities.{CapabilityIsA, KnownCapabilities}
use Rattle.jk_model_heaps.specs.SystemClasses.{CLONEABLE, SERIALIZABLE}

-- ---- Types.

-- every array is an instance of these
abbrev pub IsAboveArrays : BaseRef → Type 0
IsAboveArrays base = (base ≡ Base.Class OBJECT) ⊎ (base ≡ Base.Class SERIALIZABLE) ⊎ (base ≡ Base.Class CLONEABLE)

abbrev pub IsClassA : List ClassRecord → BaseRef → BaseRef → Type 0
IsClassA classes (Base.Class a) (Base.Class b) = IsSubclass classes a b ⊎ Implements classes a b
IsClassA classes _ _ = ⊥

-- What is of the first type is an instance of the second: they are the same; as many dimensions, and the class of the first is the
-- other's or below it, or implements it; or the first has more dimensions, and the other's class is one that every array is of.
abbrev pub IsA : List ClassRecord → TypeRef → TypeRef → Type 0
IsA classes a b = (a ≡ b) ⊎ ((a.dims ≡ b.dims) × IsClassA classes a.base b.base) ⊎ ((b.dims < a.dims) × IsAboveArrays b.base)

-- ---- Values. Null is an instance of nothing.

abbrev pub IsInstance : List ClassRecord → KnownCapabilities → List NamedObject → Value → TypeRef → Type 0
IsInstance classes caps heap (Held.Obj a) t = (object : Object) × (object_named heap a ≡ Some object) × IsA classes (type_of object) t
IsInstance classes caps heap (Held.Cap k) t = CapabilityIsA classes caps k t
IsInstance classes caps heap v t = ⊥

-- ---- The class at which the method that a call runs is looked for.

abbrev pub run_class : Object → ClassId
run_class (Plain class fields) = class
run_class (Array element items) = OBJECT
run_class (Text units) = STRING
run_class (Task segment) = TASK

abbrev pub RunsAs : List NamedObject → Value → ClassId → Type 0
RunsAs heap (Held.Obj a) class = (object : Object) × (object_named heap a ≡ Some object) × (class ≡ run_class object)
RunsAs heap (Held.Cap k) class = class ≡ CAPABILITY
RunsAs heap v class = ⊥
