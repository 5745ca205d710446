-- What stands in a copy: for the name of an object that of its copy, by the object's mark, and any other value itself; a transient field is
-- left 0 or null.
use Rattle.std.specs.Prelude.{◌≡◌, ℕ, ◌-◌, ◌^◌, ◌<◌, ◌≤◌, List, [], ◌∷◌, ◌++◌, Contains, None, Option, map, if◌then◌else◌}
use Rattle.jk_model.specs.declared.identifiers.DomainId.{DomainId}
use Rattle.jk_model.specs.declared.values.Value.{Value}
use Rattle.jk_model.specs.declared.values.Value.TheVariants as Held
use Rattle.jk_model_classes.specs.declared.records.ClassRecord.{ClassRecord}
use Rattle.jk_model_classes.specs.declared.records.FieldRecord.{FieldRecord}
use Rattle.jk_model_domains.specs.Objects.{NamedObject, Object, Array, Plain, Task, Text, object_named}
use Rattle.jk_model_domains.specs.OwnStates.{zero_of}
use Rattle.jk_model_graphs.specs.Followed.{followed, is_left_empty}
use Rattle.jk_model_heaps.specs.Heaps.{field_records, shape_of}
use Rattle.object_store.specs.HeapContents.{HasShapeClasses, HeapBecomes, HeapContent, IsLaidOut, IsLive, IsName}
use Rattle.graph_copy.specs.Chains.{IsChain, IsCopyIn, first_source}
use Rattle.graph_copy.specs.Laid.{empty_copy, names_of}

-- ---- Values.

abbrev pub image_of : (ℕ → ℕ) → Value → Value
image_of mark (Held.Obj a) = Held.Obj (mark a - 1)
image_of mark v = v

-- the mark of the object of this name leads to a copy
pub record HasImage (c : HeapContent) (d : DomainId) (a : ℕ) : Type 0 where
  pub is_name : IsName c d a
  pub marked : 0 < c.mark d a
  pub small : c.mark d a ≤ 2 ^ 30

abbrev pub HaveImages : HeapContent → DomainId → List Value → Type 0
HaveImages c d values = (a : ℕ) → Contains values (Held.Obj a) → HasImage c d a

-- ---- Objects.

abbrev pub copied_fields : (ℕ → ℕ) → List FieldRecord → List Value → List Value
copied_fields mark (f ∷ fields) (v ∷ values) =
    (if is_left_empty f then zero_of f.kind else image_of mark v) ∷ copied_fields mark fields values
copied_fields mark _ _ = []

abbrev pub copied_object : List ClassRecord → (ℕ → ℕ) → Object → Object
copied_object classes mark (Plain c values) = Plain c (copied_fields mark (field_records classes c) values)
copied_object classes mark (Array t items) = Array t (map (image_of mark) items)
copied_object classes mark (Text units) = Text units
copied_object classes mark (Task s) = Task s

-- ---- One copy.

-- the object of the second name is an empty copy of that of the first, and is not the same one
pub record MayFillOne (c : HeapContent) (classes : List ClassRecord) (from to : DomainId) (a b : ℕ) : Type 0 where
  pub object : Object
  pub live : IsLive c from a object
  pub laid_out : IsLaidOut classes object
  pub has_classes : HasShapeClasses classes (shape_of object)
  pub images : HaveImages c from (followed classes object)
  pub empty : IsLive c to b (empty_copy classes object)
  pub apart : from ≡ to → a ≡ b → ⊥

-- ---- All copies of a chain.

pub record MayFill (c : HeapContent) (classes : List ClassRecord) (from to : DomainId) (first : Option ℕ) : Type 0 where
  pub pairs : List (ℕ × ℕ)
  pub chain : IsChain c from to pairs
  pub is_first : first ≡ first_source pairs
  pub each : (a b : ℕ) → Contains pairs (a, b) → MayFillOne c classes from to a b

-- a heap in two parts, of which the second alone changes, and has the same names still
pub record HasParts (before made heap : List NamedObject) : Type 0 where
  pub new : List NamedObject
  pub becomes : heap ≡ before ++ new
  pub names : names_of new ≡ names_of made

-- Each copy has what its source has, and nothing but copies changes.
pub record Fills (old new : HeapContent) (classes : List ClassRecord) (from to : DomainId) (pairs : List (ℕ × ℕ)) : Type 0 where
  pub becomes : HeapBecomes old new to (new.heap to) (old.used to)
  pub filled : (a b : ℕ) (object : Object) → Contains pairs (a, b) → IsLive old from a object
      → IsLive new to b (copied_object classes (old.mark from) object)
  pub others : (b : ℕ) → (IsCopyIn pairs b → ⊥) → object_named (new.heap to) b ≡ object_named (old.heap to) b
  pub names : (e : DomainId) (x : ℕ) → IsName old e x → IsName new e x
  pub parts : (before made : List NamedObject) → old.heap to ≡ before ++ made → ((b : ℕ) → IsCopyIn pairs b → object_named before b ≡ None)
      → HasParts before made (new.heap to)
