-- java/lang/System.arraycopy: items of an array take the places of items of another, or of the same one. They are copied as if through a
-- second array: what is read is read before anything is written.
use Rattle.std.specs.Prelude.{◌≡◌, ℕ, ◌+◌, ◌<◌, ◌≤◌, ◌==◌, ◌||◌, IsFalse, IsTrue, ℤ, pos, List, [], ◌∷◌, ◌++◌, length, take, drop, Option, Some, None, MatchOption, slice_get, if◌then◌else◌}
use Rattle.jk_model.specs.declared.values.Value.{Value}
use Rattle.jk_model.specs.declared.values.Value.TheVariants as Held
use Rattle.jk_model_classes.specs.declared.records.BaseRef.{BaseRef}
use Rattle.jk_model_classes.specs.declared.records.BaseRef.TheVariants as Base
use Rattle.jk_model_classes.specs.declared.records.TypeRef.{TypeRef}
use Rattle.jk_model_domains.specs.NumberRows.{is_null}
use Rattle.jk_model_domains.specs.Objects.{NamedObject, Array}
use Rattle.jk_model_heaps.specs.Heaps.{with_object}
use Rattle.jk_model_heaps.specs.References.{IsHeapArray, IsNullOrInstance}
use Rattle.jk_model_heaps.specs.SystemClasses.{ARRAY_INDEX_EXCEPTION, ARRAY_STORE_EXCEPTION, NULL_POINTER_EXCEPTION}
use Rattle.jk_model_heaps.specs.Workings.{Inside, Setting, with_heap}
use Rattle.jk_model_system_rows.specs.Answers.{Answer, Answered, Answers, fails_by, gives_nothing, with_answer}

-- what is copied where, by the five arguments
pub record ArrayCopy : Type 0 where
  pub source : Value
  pub from : ℤ
  pub target : Value
  pub to : ℤ
  pub count : ℤ

-- ---- The arrays.

abbrev base_kind : BaseRef → Option BaseRef
base_kind (Base.Class c) = None
base_kind base = Some base

-- which whole numbers are of this type; none where references are
abbrev pub number_kind : TypeRef → Option BaseRef
number_kind t = if t.dims == 0 then base_kind t.base else None

-- Both are arrays, of one kind of whole numbers or both of references.
pub record ArrayPair (heap : List NamedObject) (c : ArrayCopy) : Type 0 where
  pub source : IsHeapArray heap c.source
  pub target : IsHeapArray heap c.target
  pub one_kind : number_kind source.element ≡ number_kind target.element

-- ---- The ranges.

-- Neither place is negative, nor is the count, and neither range passes the end of its array.
pub record CopyRange {heap : List NamedObject} {c : ArrayCopy} (p : ArrayPair heap c) : Type 0 where
  pub from : ℕ
  pub is_from : c.from ≡ pos from
  pub to : ℕ
  pub is_to : c.to ≡ pos to
  pub count : ℕ
  pub is_count : c.count ≡ pos count
  pub in_source : from + count ≤ length p.source.items
  pub in_target : to + count ≤ length p.target.items

-- ---- The items.

-- So many references in front fit, and the next one, if there is one, doesn't.
pub record IsFittingFront (x : Setting) (heap : List NamedObject) (t : TypeRef) (items : List Value) (front : ℕ) : Type 0 where
  pub within : front ≤ length items
  pub fit : (i : ℕ) (v : Value) → i < front → slice_get items i ≡ Some v → IsNullOrInstance x heap v t
  pub next : (v : Value) → slice_get items front ≡ Some v → IsNullOrInstance x heap v t → ⊥

-- how many of the items are copied into an array of this type: whole numbers all
abbrev pub IsFront : Setting → List NamedObject → TypeRef → List Value → ℕ → Type 0
IsFront x heap t items front = MatchOption (number_kind t) (IsFittingFront x heap t items front) (λ (kind : BaseRef). front ≡ length items)

-- the target's items after so many of the source's took the places of its own
abbrev pub copied : List Value → ℕ → List Value → ℕ → ℕ → List Value
copied source from target to count = take to target ++ take count (drop from source) ++ drop (to + count) target

-- where not all were copied, the next one doesn't fit
abbrev pub copy_answer : ℕ → ℕ → Answer
copy_answer front count = if front == count then gives_nothing else fails_by ARRAY_STORE_EXCEPTION

-- ---- All of it. The first case that applies is had; in the last one the front stays copied, also where the copy fails.

abbrev pub HasNull : ArrayCopy → Type 0
HasNull c = IsTrue (is_null c.source || is_null c.target)

abbrev pub HasNoNull : ArrayCopy → Type 0
HasNoNull c = IsFalse (is_null c.source || is_null c.target)

pub data CopiesItems (x : Setting) (c : ArrayCopy) (old : Inside) (done : Answered) : Type 0 where
  at_null : HasNull c → Answers old (fails_by NULL_POINTER_EXCEPTION) done → CopiesItems x c old done
  of_other_kinds : HasNoNull c → (ArrayPair old.heap c → ⊥) → Answers old (fails_by ARRAY_STORE_EXCEPTION) done → CopiesItems x c old done
  out_of_range : (p : ArrayPair old.heap c) → (CopyRange p → ⊥) → Answers old (fails_by ARRAY_INDEX_EXCEPTION) done → CopiesItems x c old done
  copies : (p : ArrayPair old.heap c) (r : CopyRange p) (front : ℕ)
      → IsFront x old.heap p.target.element (take r.count (drop r.from p.source.items)) front
      → done ≡ with_answer
      (with_heap old (with_object p.target.name (Array p.target.element (copied p.source.items r.from p.target.items r.to front)) old.heap))
      (copy_answer front r.count)
      → CopiesItems x c old done

abbrev pub CopiesArray : Setting → List Value → Inside → Answered → Type 0
CopiesArray x given old done =
    (c : ArrayCopy) × (given ≡ c.source ∷ Held.Int c.from ∷ c.target ∷ Held.Int c.to ∷ Held.Int c.count ∷ []) × CopiesItems x c old done
