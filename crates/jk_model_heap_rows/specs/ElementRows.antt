-- Elements of arrays, and lengths of arrays (the Java Virtual Machine Specification, 6, iaload to saload, iastore to sastore,
-- arraylength). Null is met first, then an index that is none of the array's, and then a value that the array doesn't take.
use Rattle.std.specs.Prelude.{◌≡◌, ℕ, ◌==◌, ◌⊎◌, ◌||◌, Bool, IsTrue, ℤ, pos, negsuc, List, [], ◌∷◌, length, Option, Some, None, slice_get, slice_set, nat_lt, if◌then◌else◌}
use Rattle.jk_model.specs.declared.instructions.Instr.{Instr}
use Rattle.jk_model.specs.declared.opcodes.TheConstants.{AALOAD, AASTORE, ARRAYLENGTH, BALOAD, BASTORE, CALOAD, CASTORE, IALOAD, IASTORE, LALOAD, LASTORE, SALOAD, SASTORE}
use Rattle.jk_model.specs.declared.steps.Raise.TheVariants as Raised
use Rattle.jk_model.specs.declared.values.Value.{Value}
use Rattle.jk_model.specs.declared.values.Value.TheVariants as Held
use Rattle.jk_model_classes.specs.declared.records.TypeRef.{TypeRef}
use Rattle.jk_model_domains.specs.NumberRows.{IsOnTop}
use Rattle.jk_model_domains.specs.Objects.{Array, NamedObject}
use Rattle.jk_model_heaps.specs.Heaps.{with_object}
use Rattle.jk_model_heaps.specs.References.{IsHeapArray, IsNullOrInstance}
use Rattle.jk_model_heaps.specs.StoredValues.{stored}
use Rattle.jk_model_heaps.specs.SystemClasses.{ARRAY_INDEX_EXCEPTION, ARRAY_STORE_EXCEPTION}
use Rattle.jk_model_heaps.specs.Workings.{GoesOnWith, Outcome, RaisesHere, Setting, Working, with_heap}
use Rattle.jk_model_heap_rows.specs.NullReferences.{FailsAtNull}

-- the place that an index means; nothing where it is below 0 or not below the length
abbrev pub place_at : List Value → ℤ → Option ℕ
place_at items (pos n) = if nat_lt n (length items) then Some n else None
place_at items (negsuc n) = None

-- the index is none of the array's
abbrev pub FailsAtIndex : List Value → ℤ → Working → Working → Outcome → Type 0
FailsAtIndex items index w new outcome = (place_at items index ≡ None) × RaisesHere w (Raised.Fresh ARRAY_INDEX_EXCEPTION) new outcome

-- ---- Loads.

-- iaload, laload, aaload, baload, caload, saload
abbrev pub is_element_load : ℕ → Bool
is_element_load op = op == IALOAD || op == LALOAD || op == AALOAD || op == BALOAD || op == CALOAD || op == SALOAD

pub record LoadsElement (i : Instr) (w new : Working) (outcome : Outcome) : Type 0 where
  pub op : IsTrue (is_element_load i.op)
  pub array : Value
  pub index : ℤ
  pub on_top : IsOnTop w.frame (array ∷ Held.Int index ∷ [])
  pub does :
      FailsAtNull array w new outcome
      ⊎ ((a : IsHeapArray w.inside.heap array) × FailsAtIndex a.items index w new outcome)
      ⊎ ((a : IsHeapArray w.inside.heap array) × (place : ℕ) × (item : Value) × (place_at a.items index ≡ Some place)
      × (slice_get a.items place ≡ Some item) × GoesOnWith w (array ∷ Held.Int index ∷ []) (item ∷ []) w.inside new outcome)

-- ---- Stores.

-- iastore, lastore, aastore, bastore, castore, sastore
abbrev pub is_element_store : ℕ → Bool
is_element_store op = op == IASTORE || op == LASTORE || op == AASTORE || op == BASTORE || op == CASTORE || op == SASTORE

-- the heap with another item at a place of that array
abbrev pub with_item : {heap : List NamedObject} {v : Value} → IsHeapArray heap v → ℕ → Value → List NamedObject
with_item {heap = heap} a place item = with_object a.name (Array a.element (slice_set a.items place item)) heap

pub record StoresElement (x : Setting) (i : Instr) (w new : Working) (outcome : Outcome) : Type 0 where
  pub op : IsTrue (is_element_store i.op)
  pub array : Value
  pub index : ℤ
  pub value : Value
  pub on_top : IsOnTop w.frame (array ∷ Held.Int index ∷ value ∷ [])
  pub does :
      FailsAtNull array w new outcome
      ⊎ ((a : IsHeapArray w.inside.heap array) × FailsAtIndex a.items index w new outcome)
      -- aastore asks for null or an instance of the array's own element type, and the others store every value
      ⊎ ((a : IsHeapArray w.inside.heap array) × (place : ℕ) × (place_at a.items index ≡ Some place) × (i.op ≡ AASTORE)
      × (IsNullOrInstance x w.inside.heap value a.element → ⊥) × RaisesHere w (Raised.Fresh ARRAY_STORE_EXCEPTION) new outcome)
      ⊎ ((a : IsHeapArray w.inside.heap array) × (place : ℕ) × (place_at a.items index ≡ Some place)
      × (i.op ≡ AASTORE → IsNullOrInstance x w.inside.heap value a.element)
      × GoesOnWith w (array ∷ Held.Int index ∷ value ∷ []) [] (with_heap w.inside (with_item a place (stored a.element value))) new outcome)

-- ---- Lengths.

pub record ArrayLength (i : Instr) (w new : Working) (outcome : Outcome) : Type 0 where
  pub op : i.op ≡ ARRAYLENGTH
  pub array : Value
  pub on_top : IsOnTop w.frame (array ∷ [])
  pub does :
      FailsAtNull array w new outcome
      ⊎ ((a : IsHeapArray w.inside.heap array) × GoesOnWith w (array ∷ []) (Held.Int (pos (length a.items)) ∷ []) w.inside new outcome)
