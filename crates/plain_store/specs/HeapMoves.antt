-- What the calls of a domain's heap do.
use Rattle.std.specs.Prelude.{◌≡◌, ◌≢◌, ℕ, ◌+◌, ◌^◌, ◌<◌, ◌≤◌, List, [], ◌∷◌, ◌++◌, length, Option, Some, None, slice_get}
use Rattle.std.specs.Option.{option_map_or}
use Rattle.jk_model.specs.declared.values.Value.{Value}
use Rattle.jk_model_classes.specs.declared.records.ClassRecord.{ClassRecord}
use Rattle.jk_model_domains.specs.Objects.{NamedObject, Object, object_named, object_words}
use Rattle.jk_model_heaps.specs.Heaps.{named, with_object}
use Rattle.object_store.specs.HeapContents.{IsWritten, item_of}
use Rattle.plain_store.specs.declared.domain_heap.DomainHeap.{DomainHeap}
use Rattle.plain_store.specs.declared.domain_heap.Header.{Header}
use Rattle.plain_store.specs.Headers.{object_of}
use Rattle.plain_store.specs.NumberedObjects.{heap_of}

-- the objects, in the order of making
abbrev pub objects_of : DomainHeap → List NamedObject
objects_of x = heap_of (object_of x.values.items x.units.items) x.headers.items

-- 0 where there is no such object
abbrev pub mark_of : DomainHeap → ℕ → ℕ
mark_of x a = option_map_or (λ (h : Header). h.mark) (slice_get x.headers.items a) 0

abbrev pub IsObject : DomainHeap → ℕ → Object → Type 0
IsObject x a object = object_named (objects_of x) a ≡ Some object

abbrev pub IsNamed : DomainHeap → ℕ → Type 0
IsNamed x a = (object : Object) × IsObject x a object

-- The object of a name has a value at a place.
pub record HasItemAt (x : DomainHeap) (a i : ℕ) : Type 0 where
  pub object : Object
  pub is : IsObject x a object
  pub value : Value
  pub stands : item_of object i ≡ Some value

-- The object of a name may get this value at a place.
pub record TakesItemAt (x : DomainHeap) (a i : ℕ) (v : Value) : Type 0 where
  pub object : Object
  pub is : IsObject x a object
  pub new : Object
  pub written : IsWritten object i v new

-- A heap of so many words has no object.
pub record IsFresh (x : DomainHeap) (words : ℕ) : Type 0 where
  pub quota : x.words ≡ words
  pub unused : x.used ≡ 0
  pub none : x.headers.items ≡ []

-- The objects of a heap become these, and it uses so many words then; marks are as before.
pub record Becomes (old new : DomainHeap) (objects : List NamedObject) (used : ℕ) : Type 0 where
  pub words : new.words ≡ old.words
  pub becomes : objects_of new ≡ objects
  pub uses : new.used ≡ used
  pub mark : (a : ℕ) → mark_of new a ≡ mark_of old a

-- An object is made, under a name that the heap lacks.
pub record MakesIn (old new : DomainHeap) (classes : List ClassRecord) (a : ℕ) (object : Object) : Type 0 where
  pub fresh : object_named (objects_of old) a ≡ None
  pub small : a < 2 ^ 30
  pub unmarked : mark_of new a ≡ 0
  pub becomes : Becomes old new (objects_of old ++ named a object ∷ []) (old.used + object_words classes object)

-- The object of a name becomes this one.
abbrev pub WritesIn : DomainHeap → DomainHeap → ℕ → Object → Type 0
WritesIn old new a object = Becomes old new (with_object a object (objects_of old)) old.used

-- The mark of one object becomes this.
pub record MarksIn (old new : DomainHeap) (a m : ℕ) : Type 0 where
  pub words : new.words ≡ old.words
  pub used : new.used ≡ old.used
  pub objects : objects_of new ≡ objects_of old
  pub mark : mark_of new a ≡ m
  pub others : (b : ℕ) → b ≢ a → mark_of new b ≡ mark_of old b

-- above that place, where one is given, and the least such place
abbrev pub next_place : Option ℕ → ℕ
next_place above = option_map_or (λ a. a + 1) above 0

-- the least name above that one, or of all; none where there is none
abbrev pub IsNextIn : DomainHeap → Option ℕ → Option ℕ → Type 0
IsNextIn x above None = length x.headers.items ≤ next_place above
IsNextIn x above (Some a) = (a ≡ next_place above) × (a < length x.headers.items)
