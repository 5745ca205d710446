-- What a store of objects holds: the heap of each domain, how many words each uses, and a mark for each object; and what its
-- calls make of that. A page of the store's pool, where it has one, has 64 words.
use Rattle.std.specs.Prelude.{◌≡◌, ◌≢◌, ℕ, pos, ◌+◌, ◌-◌, ◌/◌, ◌^◌, ◌<◌, ◌≤◌, ◌==◌, ⊤, Bool, List, [], ◌∷◌, ◌++◌, length, Option, Some, None, IsSome, option_map, slice_get, slice_set}
use Rattle.std.specs.Option.{option_map_or}
use Rattle.std.specs.List.{AllByRecursion, IsDistinct}
use Rattle.jk_model.specs.declared.identifiers.DomainId.{DomainId}
use Rattle.jk_model.specs.declared.values.Value.{Value}
use Rattle.jk_model.specs.declared.values.Value.TheVariants as Held
use Rattle.jk_model_classes.specs.declared.records.BaseRef.{BaseRef}
use Rattle.jk_model_classes.specs.declared.records.BaseRef.TheVariants as Base
use Rattle.jk_model_classes.specs.declared.records.ClassRecord.{ClassRecord}
use Rattle.jk_model_classes.specs.declared.records.FieldRecord.{FieldRecord}
use Rattle.jk_model_classes.specs.Classes.{HasClass}
use Rattle.jk_model_domains.specs.Objects.{NamedObject, Object, Array, Plain, Task, Text, object_named, object_words}
use Rattle.jk_model_domains.specs.OwnStates.{zero_of}
use Rattle.jk_model_frames.specs.Pools.{Pool, IsPlaceFor, IsPlaced}
use Rattle.jk_model_heaps.specs.declared.shapes.Shape.{Shape}
use Rattle.jk_model_heaps.specs.declared.shapes.Shape.TheVariants as Of
use Rattle.jk_model_heaps.specs.Heaps.{field_records, named, with_object, zero_object}

pub record HeapContent : Type 0 where
  -- how many pages the store's pool has, where it has one
  pub pages : Option ℕ
  -- whether it took all its memory when it was made
  pub took_all : Bool
  -- how many words an admitted domain may have; none of a domain that isn't admitted
  pub quota : DomainId → Option ℕ
  -- the first page of an admitted domain, where the store has a pool
  pub first_page : DomainId → Option ℕ
  -- how many words a domain uses
  pub used : DomainId → ℕ
  -- in the order of making; none of a domain that isn't admitted
  pub heap : DomainId → List NamedObject
  -- 0 where there is no such object
  pub mark : DomainId → ℕ → ℕ

-- how many pages so many words take
abbrev pub pages_for : ℕ → ℕ
pages_for words = (words + 63) / 64

-- the store's pool
abbrev pub pool_of : HeapContent → Pool
pool_of c = record { pages = c.pages; quota = λ d. option_map pages_for (c.quota d); first_page = c.first_page }

abbrev pub IsAdmitted : HeapContent → DomainId → Type 0
IsAdmitted c d = IsSome (c.quota d)

-- how many words a domain may still use
abbrev pub words_left : HeapContent → DomainId → ℕ
words_left c d = option_map_or (λ q. q - c.used d) (c.quota d) 0

-- the domain's object of this name
abbrev pub IsLive : HeapContent → DomainId → ℕ → Object → Type 0
IsLive c d a object = object_named (c.heap d) a ≡ Some object

abbrev pub IsName : HeapContent → DomainId → ℕ → Type 0
IsName c d a = (object : Object) × IsLive c d a object

-- ---- Names in their order.

-- above that name, where one is given
abbrev pub IsAbove : Option ℕ → ℕ → Type 0
IsAbove None a = ⊤
IsAbove (Some b) a = b < a

-- the least of these names; none where there is none
abbrev pub IsNextName : HeapContent → DomainId → Option ℕ → Option ℕ → Type 0
IsNextName c d above None = (a : ℕ) → IsName c d a → IsAbove above a → ⊥
IsNextName c d above (Some a) = IsName c d a × IsAbove above a × ((b : ℕ) → IsName c d b → IsAbove above b → a ≤ b)

-- ---- What an object may be of, and what it costs.

abbrev pub HasBase : List ClassRecord → BaseRef → Type 0
HasBase classes (Base.Class c) = HasClass classes c
HasBase classes base = ⊤

-- the class of an object, or of its elements, is there
abbrev pub HasShapeClasses : List ClassRecord → Shape → Type 0
HasShapeClasses classes (Of.Plain c) = HasClass classes c
HasShapeClasses classes (Of.Array t n) = HasBase classes t.base
HasShapeClasses classes shape = ⊤

-- what a new object of a shape costs
abbrev pub shape_words : List ClassRecord → Shape → ℕ
shape_words classes shape = object_words classes (zero_object classes shape)

-- ---- Values of an object, by their places. A unit of a text is an int from 0 to 65535.

abbrev pub size_of : Object → ℕ
size_of (Plain c fields) = length fields
size_of (Array t items) = length items
size_of (Text units) = length units
size_of (Task s) = 0

abbrev pub item_of : Object → ℕ → Option Value
item_of (Plain c fields) i = slice_get fields i
item_of (Array t items) i = slice_get items i
item_of (Text units) i = option_map (λ (u : ℕ). Held.Int (pos u)) (slice_get units i)
item_of (Task s) i = None

abbrev pub IsReference : Value → Type 0
IsReference Held.Null = ⊤
IsReference (Held.Obj a) = ⊤
IsReference (Held.Cap k) = ⊤
IsReference v = ⊥

-- of one kind: both ints, both longs, or both references
abbrev pub AreOfKind : Value → Value → Type 0
AreOfKind (Held.Int m) (Held.Int n) = ⊤
AreOfKind (Held.Long m) (Held.Long n) = ⊤
AreOfKind v w = IsReference v × IsReference w

-- the name of an object and the number of a capability are small, so that a reference fits 32 bits
abbrev pub IsSmall : Value → Type 0
IsSmall (Held.Obj a) = a < 2 ^ 30
IsSmall (Held.Cap k) = k.0 < 2 ^ 24
IsSmall v = ⊤

-- these are the values of fields with these records, by their kinds
abbrev pub AreOfFields : List FieldRecord → List Value → Type 0
AreOfFields [] [] = ⊤
AreOfFields (f ∷ fs) (v ∷ vs) = AreOfKind (zero_of f.kind) v × AreOfFields fs vs
AreOfFields fs vs = ⊥

-- an object of a class has a value for each field, by its kind
abbrev pub IsLaidOut : List ClassRecord → Object → Type 0
IsLaidOut classes (Plain c fields) = AreOfFields (field_records classes c) fields
IsLaidOut classes object = ⊤

-- values of a list, of which the one at a place becomes another one of its kind
pub record IsPut (values : List Value) (i : ℕ) (v : Value) (new : List Value) : Type 0 where
  pub before : Value
  pub stands : slice_get values i ≡ Some before
  pub kind : AreOfKind before v
  pub small : IsSmall v
  pub becomes : new ≡ slice_set values i v

-- the object that has this value at a place and is else as before
abbrev pub IsWritten : Object → ℕ → Value → Object → Type 0
IsWritten (Plain c fields) i v new = (values : List Value) × IsPut fields i v values × (new ≡ Plain c values)
IsWritten (Array t items) i v new = (values : List Value) × IsPut items i v values × (new ≡ Array t values)
IsWritten (Text units) i (Held.Int (pos u)) new = (i < length units) × (u < 65536) × (new ≡ Text (slice_set units i u))
IsWritten object i v new = ⊥

-- what an object of a store has: small values, in an array of the kind of its elements, and in a text units of 16 bits
abbrev pub IsStored : Object → Type 0
IsStored (Plain c fields) = AllByRecursion IsSmall fields
IsStored (Array t items) = AllByRecursion (λ (v : Value). AreOfKind (zero_of t) v × IsSmall v) items
IsStored (Text units) = AllByRecursion (λ (u : ℕ). u < 65536) units
IsStored (Task s) = ⊤

-- The domain's object of a name has a value at a place.
pub record HasItem (c : HeapContent) (classes : List ClassRecord) (d : DomainId) (a i : ℕ) : Type 0 where
  pub object : Object
  pub live : IsLive c d a object
  pub laid_out : IsLaidOut classes object
  pub value : Value
  pub stands : item_of object i ≡ Some value

-- The domain's object of a name may get this value at a place.
pub record TakesItem (c : HeapContent) (classes : List ClassRecord) (d : DomainId) (a i : ℕ) (v : Value) : Type 0 where
  pub object : Object
  pub live : IsLive c d a object
  pub laid_out : IsLaidOut classes object
  pub new : Object
  pub written : IsWritten object i v new

-- ---- Changes.

-- The pool and the domains are as before.
pub record KeepsDomains (old new : HeapContent) : Type 0 where
  pub pages : new.pages ≡ old.pages
  pub took_all : new.took_all ≡ old.took_all
  pub quota : (d : DomainId) → new.quota d ≡ old.quota d
  pub first_page : (d : DomainId) → new.first_page d ≡ old.first_page d

-- All is as before.
pub record IsSame (old new : HeapContent) : Type 0 where
  pub domains : KeepsDomains old new
  pub used : (d : DomainId) → new.used d ≡ old.used d
  pub heap : (d : DomainId) → new.heap d ≡ old.heap d
  pub mark : (d : DomainId) (a : ℕ) → new.mark d a ≡ old.mark d a

-- The heap of a domain becomes this, and it uses so many words then; all else is as before, marks too.
pub record HeapBecomes (old new : HeapContent) (d : DomainId) (heap : List NamedObject) (used : ℕ) : Type 0 where
  pub domains : KeepsDomains old new
  pub becomes : new.heap d ≡ heap
  pub others : (e : DomainId) → e ≢ d → new.heap e ≡ old.heap e
  pub uses : new.used d ≡ used
  pub other_uses : (e : DomainId) → e ≢ d → new.used e ≡ old.used e
  pub mark : (e : DomainId) (a : ℕ) → new.mark e a ≡ old.mark e a

-- An object is made, under a name that the heap lacks.
pub record MakesObject (old new : HeapContent) (classes : List ClassRecord) (d : DomainId) (a : ℕ) (object : Object) : Type 0 where
  pub fresh : object_named (old.heap d) a ≡ None
  pub small : a < 2 ^ 30
  pub unmarked : new.mark d a ≡ 0
  pub becomes : HeapBecomes old new d (old.heap d ++ named a object ∷ []) (old.used d + object_words classes object)

-- The object of a name becomes this one, of the same cost.
abbrev pub WritesObject : HeapContent → HeapContent → DomainId → ℕ → Object → Type 0
WritesObject old new d a object = HeapBecomes old new d (with_object a object (old.heap d)) (old.used d)

-- The mark of one object becomes this.
pub record Marks (old new : HeapContent) (d : DomainId) (a m : ℕ) : Type 0 where
  pub domains : KeepsDomains old new
  pub used : (e : DomainId) → new.used e ≡ old.used e
  pub heap : (e : DomainId) → new.heap e ≡ old.heap e
  pub mark : new.mark d a ≡ m
  pub other_domains : (e : DomainId) (b : ℕ) → e ≢ d → new.mark e b ≡ old.mark e b
  pub others : (b : ℕ) → b ≢ a → new.mark d b ≡ old.mark d b

-- ---- Domains.

-- What other domains have is as before.
pub record KeepsOthers (old new : HeapContent) (d : DomainId) : Type 0 where
  pub quota : (e : DomainId) → e ≢ d → new.quota e ≡ old.quota e
  pub first_page : (e : DomainId) → e ≢ d → new.first_page e ≡ old.first_page e
  pub used : (e : DomainId) → e ≢ d → new.used e ≡ old.used e
  pub heap : (e : DomainId) → e ≢ d → new.heap e ≡ old.heap e
  pub mark : (e : DomainId) (a : ℕ) → e ≢ d → new.mark e a ≡ old.mark e a

-- A domain has no object.
pub record HasNoObject (c : HeapContent) (d : DomainId) : Type 0 where
  pub unused : c.used d ≡ 0
  pub heap : c.heap d ≡ []
  pub mark : (a : ℕ) → c.mark d a ≡ 0

-- A domain is admitted, with an empty heap.
pub record Admits (old new : HeapContent) (d : DomainId) (words : ℕ) : Type 0 where
  pub pages : new.pages ≡ old.pages
  pub took_all : new.took_all ≡ old.took_all
  pub quota : new.quota d ≡ Some words
  pub place : IsPlaceFor (pool_of old) (pages_for words) (new.first_page d)
  pub empty : HasNoObject new d
  pub others : KeepsOthers old new d

-- A domain goes, with its objects.
pub record Closes (old new : HeapContent) (d : DomainId) : Type 0 where
  pub pages : new.pages ≡ old.pages
  pub took_all : new.took_all ≡ old.took_all
  pub quota : new.quota d ≡ None
  pub place : new.first_page d ≡ None
  pub empty : HasNoObject new d
  pub others : KeepsOthers old new d

-- fewer domains than this may be admitted at a time
abbrev pub MOST_DOMAINS : ℕ
MOST_DOMAINS = 140000

abbrev pub HasFewDomains : HeapContent → Type 0
HasFewDomains c =
    (domains : List DomainId) → IsDistinct (λ (d e : DomainId). d.0 == e.0) domains → AllByRecursion (IsAdmitted c) domains
    → length domains < MOST_DOMAINS

-- ---- What holds of each content.

pub record IsHeapContent (c : HeapContent) : Type 0 where
  -- nobody uses more than it may
  pub within : (d : DomainId) (q : ℕ) → c.quota d ≡ Some q → (c.used d ≤ q) × (1 ≤ q) × (q ≤ 16777216)
  pub unused : (d : DomainId) → c.quota d ≡ None → HasNoObject c d × (c.first_page d ≡ None)
  pub unmarked : (d : DomainId) (a : ℕ) → object_named (c.heap d) a ≡ None → c.mark d a ≡ 0
  -- no name is there twice, and each is small
  pub differ : (d : DomainId) (i j : ℕ) (a b : NamedObject) → slice_get (c.heap d) i ≡ Some a → slice_get (c.heap d) j ≡ Some b
      → a.name ≡ b.name → i ≡ j
  pub small : (d : DomainId) (a : ℕ) (object : Object) → IsLive c d a object → a < 2 ^ 30
  -- an object's places and length fit 32 bits, and sums of three of them don't wrap
  pub sized : (d : DomainId) (a : ℕ) (object : Object) → IsLive c d a object → size_of object + 4 ≤ c.used d
  -- what is read may be written
  pub stored : (d : DomainId) (a : ℕ) (object : Object) → IsLive c d a object → IsStored object
  -- domains of a store with a pool have a place in it, and others none
  pub placed : (d : DomainId) (q : ℕ) → c.quota d ≡ Some q → IsPlaced (pool_of c) d (pages_for q)
