-- What a heap has under a name after objects were made in it, or after one became another.
use Rattle.std.specs.Prelude.{◌≡◌, ◌≢◌, ◌⊎◌, ℕ, List, Contains, Some, slice_get}
use Rattle.jk_model_classes.specs.declared.records.ClassRecord.{ClassRecord}
use Rattle.jk_model_domains.specs.Objects.{NamedObject, Object, object_named}
use Rattle.jk_model_heaps.specs.Heaps.{Makes, named, with_object}

-- ---- Objects were made.

abbrev pub OldObjectsStay : Type 0
OldObjectsStay =
    (classes : List ClassRecord) (quota : ℕ) (heap made new : List NamedObject) (a : ℕ) (object : Object)
    → Makes classes quota heap made new → object_named heap a ≡ Some object → object_named new a ≡ Some object

abbrev pub MadeObjectsAreThere : Type 0
MadeObjectsAreThere =
    (classes : List ClassRecord) (quota : ℕ) (heap made new : List NamedObject) (e : NamedObject)
    → Makes classes quota heap made new → Contains made e → object_named new e.name ≡ Some e.object

abbrev pub NothingElseIsThere : Type 0
NothingElseIsThere =
    (classes : List ClassRecord) (quota : ℕ) (heap made new : List NamedObject) (a : ℕ) (object : Object)
    → Makes classes quota heap made new → object_named new a ≡ Some object
    → (object_named heap a ≡ Some object) ⊎ Contains made (named a object)

-- ---- One object became another.

abbrev pub WrittenObjectsAreThere : Type 0
WrittenObjectsAreThere =
    (heap : List NamedObject) (a : ℕ) (old new : Object) → object_named heap a ≡ Some old → object_named (with_object a new heap) a ≡ Some new

abbrev pub OtherObjectsStay : Type 0
OtherObjectsStay =
    (heap : List NamedObject) (a b : ℕ) (new : Object) → b ≢ a → object_named (with_object a new heap) b ≡ object_named heap b

-- ---- Names that differ still do.

abbrev pub NamesDiffer : List NamedObject → Type 0
NamesDiffer heap =
    (i j : ℕ) (a b : NamedObject) → slice_get heap i ≡ Some a → slice_get heap j ≡ Some b → a.name ≡ b.name → i ≡ j

abbrev pub MadeNamesDiffer : Type 0
MadeNamesDiffer =
    (classes : List ClassRecord) (quota : ℕ) (heap made new : List NamedObject) → NamesDiffer heap → Makes classes quota heap made new
    → NamesDiffer new

abbrev pub WrittenNamesDiffer : Type 0
WrittenNamesDiffer = (heap : List NamedObject) (a : ℕ) (new : Object) → NamesDiffer heap → NamesDiffer (with_object a new heap)
