-- What a heap costs, what is made in it, and how it may grow. A heap is a list of named objects in the order of making; it is
-- read by name alone, and nobody sees the order.
use Rattle.std.specs.Prelude.{◌≡◌, ℕ, zero, suc, ◌+◌, ◌-◌, ◌==◌, ◌<◌, ◌≤◌, not, List, [], ◌∷◌, ◌++◌, length, filter, flat_map, map, replicate, sum_by, Contains, Some, None, slice_get, if◌then◌else◌}
use Rattle.std.specs.Option.{option_map_or}
use Rattle.jk_model.specs.Flags.{has, STATIC}
use Rattle.jk_model.specs.declared.identifiers.ClassId.{ClassId}
use Rattle.jk_model.specs.declared.values.Value.{Value}
use Rattle.jk_model_classes.specs.declared.records.ClassRecord.{ClassRecord}
use Rattle.jk_model_classes.specs.declared.records.FieldRecord.{FieldRecord}
use Rattle.jk_model_classes.specs.Classes.{parents_of, record_of}
use Rattle.jk_model_classes.specs.Layouts.{InstanceField, type_words}
use Rattle.jk_model_classes.specs.Lookups.{FieldIs}
use Rattle.jk_model_domains.specs.Objects.{NamedObject, Object, Array, Plain, Task, Text, object_named, object_words}
use Rattle.jk_model_domains.specs.OwnStates.{zero_of}
use Rattle.jk_model_heaps.specs.declared.shapes.Shape.{Shape}
use Rattle.jk_model_heaps.specs.declared.shapes.Shape.TheVariants as Of

-- ---- Costs.

abbrev pub heap_words : List ClassRecord → List NamedObject → ℕ
heap_words classes heap = sum_by (λ (e : NamedObject). object_words classes e.object) heap

-- ---- Shapes: what an object is of, and how long it is.

abbrev pub shape_of : Object → Shape
shape_of (Plain class fields) = Of.Plain class
shape_of (Array element items) = Of.Array element (length items)
shape_of (Text units) = Of.Text (length units)
shape_of (Task segment) = Of.Task segment

-- the records of the class's own instance fields, in the order of the class file
abbrev pub own_field_records : List ClassRecord → ClassId → List FieldRecord
own_field_records classes c =
    option_map_or (λ (r : ClassRecord). filter (λ (f : FieldRecord). not (has f.flags STATIC)) r.fields) (record_of classes c) []

abbrev pub field_records_within : ℕ → List ClassRecord → ClassId → List FieldRecord
field_records_within zero classes c = []
field_records_within (suc height) classes c =
    flat_map (field_records_within height classes) (parents_of classes c) ++ own_field_records classes c

-- the records of the fields of an object of the class, those of the parents first, as `instance_fields` has their members
abbrev pub field_records : List ClassRecord → ClassId → List FieldRecord
field_records classes c = field_records_within (c.0 + 1) classes c

-- the record is that of the member, which takes as many words as a value of its type
abbrev pub IsFieldWith : List ClassRecord → InstanceField → FieldRecord → Type 0
IsFieldWith classes g f = FieldIs classes g.member f × (g.words ≡ type_words f.kind)

-- ---- New objects: zeros and nulls.

abbrev pub zero_fields : List ClassRecord → ClassId → List Value
zero_fields classes c = map (λ (f : FieldRecord). zero_of f.kind) (field_records classes c)

abbrev pub zero_object : List ClassRecord → Shape → Object
zero_object classes (Of.Plain class) = Plain class (zero_fields classes class)
zero_object classes (Of.Array element n) = Array element (replicate n (zero_of element))
zero_object classes (Of.Text n) = Text (replicate n 0)
zero_object classes (Of.Task segment) = Task segment

-- Objects are made together, as many as there are: under names that the heap lacks and that differ from one another, where they
-- fit together. Which names is free.
pub record Makes (classes : List ClassRecord) (quota : ℕ) (heap made new : List NamedObject) : Type 0 where
  pub fresh : (e : NamedObject) → Contains made e → object_named heap e.name ≡ None
  pub differ : (i j : ℕ) (a b : NamedObject) → slice_get made i ≡ Some a → slice_get made j ≡ Some b → a.name ≡ b.name → i ≡ j
  pub fits : heap_words classes heap + heap_words classes made ≤ quota
  pub grown : new ≡ heap ++ made

abbrev pub named : ℕ → Object → NamedObject
named a object = record { name = a; object = object }

-- one object is made
abbrev pub MakesOne : List ClassRecord → ℕ → List NamedObject → ℕ → Object → List NamedObject → Type 0
MakesOne classes quota heap a object new = Makes classes quota heap (named a object ∷ []) new

abbrev pub free_words : List ClassRecord → ℕ → List NamedObject → ℕ
free_words classes quota heap = quota - heap_words classes heap

-- so many words don't fit
abbrev pub Lacks : List ClassRecord → ℕ → List NamedObject → ℕ → Type 0
Lacks classes quota heap words = quota < heap_words classes heap + words

-- ---- A heap with other contents.

-- with this object in the place of the one of this name
abbrev pub with_object : ℕ → Object → List NamedObject → List NamedObject
with_object a object heap = map (λ (e : NamedObject). if e.name == a then named a object else e) heap

-- the same class, element type and length, and of a text the same units: what never changes of an object
abbrev pub IsAlike : Object → Object → Type 0
IsAlike (Plain c values) (Plain d others) = (c ≡ d) × (length values ≡ length others)
IsAlike (Array t items) (Array u others) = (t ≡ u) × (length items ≡ length others)
IsAlike (Text units) (Text others) = units ≡ others
IsAlike (Task s) (Task t) = s ≡ t
IsAlike _ _ = ⊥

-- each name keeps an object that is alike; contents may change, and names may come
pub record IsGrown (old new : List NamedObject) : Type 0 where
  pub kept : (a : ℕ) (object : Object) → object_named old a ≡ Some object
      → (other : Object) × (object_named new a ≡ Some other) × IsAlike object other
