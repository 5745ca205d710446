-- When one graph of objects is a copy of another: the same shapes, the same numbers, and references that lead from copy to copy as they
-- lead from object to object. The names of the copies are free. Pairs are of an object's name and its copy's.
use Rattle.std.specs.Prelude.{◌≡◌, ℕ, ⊤, List, [], ◌∷◌, ◌++◌, Contains, MatchBool, None, Some, slice_get}
use Rattle.std.specs.List.{AllZip}
use Rattle.jk_model.specs.declared.values.Value.{Value}
use Rattle.jk_model.specs.declared.values.Value.TheVariants as Held
use Rattle.jk_model_classes.specs.declared.records.ClassRecord.{ClassRecord}
use Rattle.jk_model_classes.specs.declared.records.FieldRecord.{FieldRecord}
use Rattle.jk_model_domains.specs.Objects.{NamedObject, Object, Array, Plain, Task, Text, object_named}
use Rattle.jk_model_domains.specs.OwnStates.{zero_of}
use Rattle.jk_model_graphs.specs.Followed.{is_left_empty}
use Rattle.jk_model_graphs.specs.Reach.{Graph, Reach}
use Rattle.jk_model_heaps.specs.Heaps.{field_records}

-- ---- Values.

-- equal numbers, null and null, one capability, or the names of a pair
abbrev pub Corresponds : List (ℕ × ℕ) → Value → Value → Type 0
Corresponds pairs (Held.Obj a) (Held.Obj b) = Contains pairs (a, b)
Corresponds pairs (Held.Obj a) w = ⊥
Corresponds pairs v (Held.Obj b) = ⊥
Corresponds pairs v w = v ≡ w

-- as many, each of which corresponds to the one at its place
abbrev pub EachCorresponds : List (ℕ × ℕ) → List Value → List Value → Type 0
EachCorresponds pairs vs ws = AllZip (Corresponds pairs) vs ws

-- of the values of these fields: a transient field of the copy is 0 or null, as its type says
abbrev pub FieldsCorrespond : List (ℕ × ℕ) → List FieldRecord → List Value → List Value → Type 0
FieldsCorrespond pairs [] [] [] = ⊤
FieldsCorrespond pairs (f ∷ fields) (v ∷ vs) (w ∷ ws) =
    MatchBool (is_left_empty f) (w ≡ zero_of f.kind) (Corresponds pairs v w) × FieldsCorrespond pairs fields vs ws
FieldsCorrespond pairs _ _ _ = ⊥

-- ---- Objects.

-- the second is a copy of the first: of the same class, or element type and length, or units
abbrev pub IsCopied : List ClassRecord → List (ℕ × ℕ) → Object → Object → Type 0
IsCopied classes pairs (Plain c vs) (Plain d ws) = (c ≡ d) × FieldsCorrespond pairs (field_records classes c) vs ws
IsCopied classes pairs (Array t vs) (Array u ws) = (t ≡ u) × EachCorresponds pairs vs ws
IsCopied classes pairs (Text units) (Text others) = units ≡ others
IsCopied classes pairs (Task s) (Task t) = s ≡ t
IsCopied classes pairs _ _ = ⊥

-- both have their objects, of which the second is a copy of the first
pub record ArePaired (classes : List ClassRecord) (heap made : List NamedObject) (pairs : List (ℕ × ℕ)) (a b : ℕ) : Type 0 where
  pub object : Object
  pub is_object : object_named heap a ≡ Some object
  pub copy : Object
  pub is_copy : object_named made b ≡ Some copy
  pub same : IsCopied classes pairs object copy

-- ---- Graphs.

pub record IsOneToOne (pairs : List (ℕ × ℕ)) : Type 0 where
  pub one_copy : (a b c : ℕ) → Contains pairs (a, b) → Contains pairs (a, c) → b ≡ c
  pub one_source : (a b c : ℕ) → Contains pairs (a, c) → Contains pairs (b, c) → a ≡ b

-- What the values of a graph reach is copied into a heap: that was `before`, and is the copy's heap after it. The two heaps may be one
-- heap, `before` being the heap of the source.
pub record IsCopy (classes : List ClassRecord) (source : Graph) (before : List NamedObject) (copy : Graph) (pairs : List (ℕ × ℕ)) : Type 0 where
  -- behind the objects that were there stand those that were made, under names that were free and differ from one another
  pub made : List NamedObject
  pub grown : copy.heap ≡ before ++ made
  pub fresh : (e : NamedObject) → Contains made e → object_named before e.name ≡ None
  pub differ : (i j : ℕ) (a b : NamedObject) → slice_get made i ≡ Some a → slice_get made j ≡ Some b → a.name ≡ b.name → i ≡ j
  -- the pairs are one to one between what is reached and what was made, with none left over on either side
  pub one_to_one : IsOneToOne pairs
  pub each_reached : (a b : ℕ) → Contains pairs (a, b) → Reach classes source a
  pub all_reached : (a : ℕ) → Reach classes source a → (b : ℕ) × Contains pairs (a, b)
  pub each_made : (a b : ℕ) → Contains pairs (a, b) → ArePaired classes source.heap made pairs a b
  pub all_made : (e : NamedObject) → Contains made e → (a : ℕ) × Contains pairs (a, e.name)
  pub values : EachCorresponds pairs source.values copy.values
