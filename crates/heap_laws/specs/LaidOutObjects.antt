-- Sealed objects as a store has them.
use Rattle.std.specs.Prelude.{◌≡◌, ◌<◌, ◌^◌, ℕ, List}
use Rattle.jk_model.specs.declared.identifiers.CapId.{CapId}
use Rattle.jk_model.specs.declared.identifiers.DomainId.{DomainId}
use Rattle.jk_model.specs.declared.values.Value.{Value}
use Rattle.jk_model_classes.specs.declared.records.ClassRecord.{ClassRecord}
use Rattle.jk_model_classes.specs.declared.records.TypeRef.{TypeRef}
use Rattle.jk_model_domains.specs.Objects.{NamedObject, Object, Text}
use Rattle.jk_model_domains.specs.ValueTypes.{HoldsDeclared}
use Rattle.jk_model_heaps.specs.declared.shapes.Shape.{Shape}
use Rattle.jk_model_heaps.specs.Capabilities.{CapRange, IsGivenOut}
use Rattle.jk_model_heaps.specs.Heaps.{IsAlike}
use Rattle.jk_model_sealing.specs.SealedInsides.{IsKnownValue, IsSealedObject, Surroundings}
use Rattle.heap_laws.specs.SealedChanges.{IsNamedShape}
use Rattle.object_store.specs.HeapContents.{HeapContent, AreOfKind, HasShapeClasses, IsHeapContent, IsLaidOut, IsSmall, IsWritten}
use Rattle.heap_laws.specs.SoundTables.{IsSoundTable}

abbrev pub SealedObjectsAreLaidOut : Type 0
SealedObjectsAreLaidOut =
    (around : Surroundings) (heap : List NamedObject) (object : Object) → IsSealedObject around heap object → IsLaidOut around.classes object

-- values of one type are of one kind
abbrev pub OneTypeIsOneKind : Type 0
OneTypeIsOneKind =
    (classes : List ClassRecord) (heap : List NamedObject) (t : TypeRef) (v w : Value) → HoldsDeclared classes heap v t
    → HoldsDeclared classes heap w t → AreOfKind v w

-- capabilities whose numbers fit 24 bits
abbrev pub AreSmallNumbers : List CapRange → Type 0
AreSmallNumbers caps = (k : CapId) → IsGivenOut caps k → k.0 < 2 ^ 24

-- a value that is known in a heap of a store fits 32 bits
abbrev pub KnownValuesAreSmall : Type 0
KnownValuesAreSmall =
    (c : HeapContent) (d : DomainId) (caps : List CapRange) (v : Value) → IsHeapContent c → AreSmallNumbers caps
    → IsKnownValue caps (c.heap d) v → IsSmall v

-- an object that gets another value is alike, unless it is a text, whose units never change once it has a name in a program
abbrev pub WrittenObjectsAreAlike : Type 0
WrittenObjectsAreAlike =
    (object new : Object) (i : ℕ) (v : Value) → ((units : List ℕ) → object ≡ Text units → ⊥) → IsWritten object i v new → IsAlike object new

-- what a domain may make has its classes
abbrev pub NamedShapesHaveClasses : Type 0
NamedShapesHaveClasses =
    (around : Surroundings) (shape : Shape) → IsSoundTable around.classes around.table → IsNamedShape around.table shape
    → HasShapeClasses around.classes shape
