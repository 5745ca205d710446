-- What holds of a domain's inside at every moment: each name in it is one of its own heap, each capability was given out, each value
-- fits its declared type, and all objects together keep within the quota.
use Rattle.std.specs.Prelude.{◌≡◌, ◌≢◌, ℕ, ◌≤◌, ⊤, List, length, Contains, Some, slice_get}
use Rattle.std.specs.List.{AllByRecursion}
use Rattle.jk_model.specs.declared.identifiers.ClassId.{ClassId}
use Rattle.jk_model.specs.declared.identifiers.MemberId.{MemberId}
use Rattle.jk_model.specs.declared.steps.Standing.{Standing}
use Rattle.jk_model.specs.declared.values.Value.{Value}
use Rattle.jk_model.specs.declared.values.Value.TheVariants.{Obj, Cap}
use Rattle.jk_model_classes.specs.declared.records.BaseRef.{BaseRef}
use Rattle.jk_model_classes.specs.declared.records.BaseRef.TheVariants as Base
use Rattle.jk_model_classes.specs.declared.records.ClassRecord.{ClassRecord}
use Rattle.jk_model_classes.specs.declared.records.FieldRecord.{FieldRecord}
use Rattle.jk_model_classes.specs.Lookups.{FieldIs}
use Rattle.jk_model_classes.specs.Worlds.{IsNamed, NamedClass}
use Rattle.jk_model_typing.specs.FrameTypes.{STRING}
use Rattle.jk_model_domains.specs.Objects.{NamedObject, Object, Array, Plain, Task, Text, CAPABILITY, PRINT_STREAM, TASK, object_named}
use Rattle.jk_model_domains.specs.OwnStates.{IsOwnState, Literal, static_of}
use Rattle.jk_model_domains.specs.ValueTypes.{HoldsDeclared}
use Rattle.jk_model_heaps.specs.Capabilities.{CapRange, IsGivenOut}
use Rattle.jk_model_heaps.specs.Heaps.{field_records, heap_words}
use Rattle.jk_model_heaps.specs.SystemClasses.{REMOTE}
use Rattle.jk_model_heaps.specs.Throwables.{IsStanding, standing_class}
use Rattle.jk_model_heaps.specs.Workings.{Inside}

-- What a domain is judged in: all classes, what its names mean, and the capabilities of all domains.
pub record Surroundings : Type 0 where
  pub classes : List ClassRecord
  pub table : List NamedClass
  pub caps : List CapRange

-- ---- Values.

-- a name is one of the heap, and a capability was given out
abbrev pub IsKnownValue : List CapRange → List NamedObject → Value → Type 0
IsKnownValue caps heap (Obj a) = (object : Object) × (object_named heap a ≡ Some object)
IsKnownValue caps heap (Cap k) = IsGivenOut caps k
IsKnownValue caps heap v = ⊤

-- ---- Objects.

-- as many values as the class has instance fields, each of which fits its field's type
pub record HasFields (around : Surroundings) (heap : List NamedObject) (class : ClassId) (values : List Value) : Type 0 where
  pub as_many : length values ≡ length (field_records around.classes class)
  pub each : (i : ℕ) (v : Value) (field : FieldRecord) → slice_get values i ≡ Some v
      → slice_get (field_records around.classes class) i ≡ Some field
      → HoldsDeclared around.classes heap v field.kind × IsKnownValue around.caps heap v

-- the class of an array's elements is one that the domain's names mean
abbrev pub IsNamedBase : List NamedClass → BaseRef → Type 0
IsNamedBase table (Base.Class c) = IsNamed table c
IsNamedBase table base = ⊤

-- The class of an object, or of its elements, is one of those that the domain's names mean, and its values fit. Texts, tasks and
-- capabilities aren't plain objects, and none is of the interface jk/Remote itself.
abbrev pub IsSealedObject : Surroundings → List NamedObject → Object → Type 0
IsSealedObject around heap (Plain class values) =
    IsNamed around.table class × (class ≢ STRING) × (class ≢ TASK) × (class ≢ CAPABILITY) × (class ≢ REMOTE)
    × HasFields around heap class values
IsSealedObject around heap (Array element items) =
    IsNamedBase around.table element.base × (element.dims ≤ 254)
    × AllByRecursion (λ v. HoldsDeclared around.classes heap v element × IsKnownValue around.caps heap v) items
IsSealedObject around heap (Text units) = IsNamed around.table STRING
IsSealedObject around heap (Task segment) = IsNamed around.table TASK

-- the object of this name is a plain one of this class
abbrev pub IsOfClass : List NamedObject → ℕ → ClassId → Type 0
IsOfClass heap a c = (fields : List Value) × (object_named heap a ≡ Some (Plain c fields))

-- ---- The inside, within a quota of words.

pub record IsSealedInside (around : Surroundings) (quota : ℕ) (inside : Inside) : Type 0 where
  pub names_differ : (i j : ℕ) (a b : NamedObject) → slice_get inside.heap i ≡ Some a → slice_get inside.heap j ≡ Some b
      → a.name ≡ b.name → i ≡ j
  pub own : IsOwnState around.classes around.table inside.own
  pub objects : (e : NamedObject) → Contains inside.heap e → IsSealedObject around inside.heap e.object
  -- the nine objects that stand from the opening on
  pub out : IsOfClass inside.heap inside.own.out PRINT_STREAM
  pub standing : (s : Standing) → (a : ℕ) × IsStanding inside.own s a × IsOfClass inside.heap a (standing_class s)
  pub literals : (l : Literal) → Contains inside.own.literals l → object_named inside.heap l.name ≡ Some (Text l.text)
  pub statics : (m : MemberId) (v : Value) (field : FieldRecord) → static_of inside.own m ≡ Some v → FieldIs around.classes m field
      → HoldsDeclared around.classes inside.heap v field.kind × IsKnownValue around.caps inside.heap v
  pub words : heap_words around.classes inside.heap ≤ quota
