-- What holds of the objects of one heap: each has a small name and is small, and its values are of their kinds.
use Rattle.std.proofs.Common.{◌≡◌, ℕ, zero, suc, ◌+◌, ◌^◌, ◌<◌, ◌≤◌, Bool, true, false, List, length, Option, Some, None, slice_get, refl, sym, ap, subst, ◌∙◌, arith}
use Rattle.std.specs.Option.{option_map, option_map_or}
use Rattle.std.proofs.lemmas.Option.{slice_get_within}
use Rattle.list_lemmas.proofs.ItemsByPlace.{comes_from}
use Rattle.std.proofs.lemmas.Option.{slice_get-map}
use Rattle.jk_model.specs.declared.values.Value.{Value}
use Rattle.jk_model.specs.declared.values.Value.TheVariants as Held
use Rattle.jk_model_classes.specs.declared.records.BaseRef.{BaseRef}
use Rattle.jk_model_classes.specs.declared.records.BaseRef.TheVariants as Base
use Rattle.jk_model_classes.specs.declared.records.TypeRef.{TypeRef}
use Rattle.jk_model_domains.specs.Objects.{NamedObject, Object, object_named}
use Rattle.jk_model_domains.specs.OwnStates.{zero_of}
use Rattle.jk_model_heaps.specs.declared.shapes.Shape.{Shape}
use Rattle.jk_model_heaps.specs.declared.shapes.Shape.TheVariants as Of
use Rattle.object_store.specs.HeapContents.{AreOfKind, IsSmall, IsStored, size_of}
use Rattle.plain_store.specs.declared.domain_heap.DomainHeap.{DomainHeap}
use Rattle.plain_store.specs.declared.domain_heap.Header.{Header}
use Rattle.plain_store.specs.Headers.{IsNarrow, is_text, kind_of, object_of, object_with, said_kind}
use Rattle.plain_store.specs.HeapMoves.{IsObject, mark_of, objects_of}
use Rattle.plain_store.specs.NumberedObjects.{get-heap, named-heap}
use Rattle.plain_store.specs.Pieces.{each_by_place, in_piece, piece, piece_short}

-- ---- Values.

pub small_by : (v : Value) → IsNarrow v → IsSmall v
small_by (Held.Obj a) h = h.name
small_by (Held.Cap k) h = h.number
small_by v h = tt

base_kind : (b : BaseRef) → (kind_of (zero_of (record { dims = 0; base = b })) < 3)
base_kind Base.Long = omega arith
base_kind (Base.Class c) = omega arith
base_kind b = omega arith

dims_kind : (dims : ℕ) (b : BaseRef) → kind_of (zero_of (record { dims = dims; base = b })) < 3
dims_kind zero b = base_kind b
dims_kind (suc dims) b = omega arith

zero_kind : (t : TypeRef) → kind_of (zero_of t) < 3
zero_kind t = dims_kind t.dims t.base

alike_by : (v w : Value) → kind_of v ≡ kind_of w → kind_of v < 3 → AreOfKind v w
alike_by (Held.Int m) (Held.Int n) e h = tt
alike_by (Held.Long m) (Held.Long n) e h = tt
alike_by Held.Null Held.Null e h = (tt, tt)
alike_by Held.Null (Held.Obj b) e h = (tt, tt)
alike_by Held.Null (Held.Cap l) e h = (tt, tt)
alike_by (Held.Obj a) Held.Null e h = (tt, tt)
alike_by (Held.Obj a) (Held.Obj b) e h = (tt, tt)
alike_by (Held.Obj a) (Held.Cap l) e h = (tt, tt)
alike_by (Held.Cap k) Held.Null e h = (tt, tt)
alike_by (Held.Cap k) (Held.Obj b) e h = (tt, tt)
alike_by (Held.Cap k) (Held.Cap l) e h = (tt, tt)
alike_by v w e h = absurd (omega arith)

-- ---- Objects by their shapes.

stored_with : (shape : Shape) (values : List Value) (units : List ℕ)
    → ((k : ℕ) (v : Value) → slice_get values k ≡ Some v → said_kind shape (kind_of v) ≡ kind_of v)
    → ((k : ℕ) (v : Value) → slice_get values k ≡ Some v → IsNarrow v)
    → ((k u : ℕ) → slice_get units k ≡ Some u → u < 65536) → IsStored (object_with shape values units)
stored_with (Of.Plain c) values units kinds narrow fit = each_by_place IsSmall values (λ k v e. small_by v (narrow k v e))
stored_with (Of.Array t n) values units kinds narrow fit =
    each_by_place (λ (v : Value). AreOfKind (zero_of t) v × IsSmall v) values
    (λ k v e. (alike_by (zero_of t) v (kinds k v e) (zero_kind t), small_by v (narrow k v e)))
stored_with (Of.Text n) values units kinds narrow fit = each_by_place (λ (u : ℕ). u < 65536) units fit
stored_with (Of.Task s) values units kinds narrow fit = tt

size_with : (shape : Shape) (values : List Value) (units : List ℕ) (len : ℕ) → length values ≤ len → length units ≤ len
    → size_of (object_with shape values units) ≤ len
size_with (Of.Plain c) values units len v u = v
size_with (Of.Array t n) values units len v u = v
size_with (Of.Text n) values units len v u = u
size_with (Of.Task s) values units len v u = omega arith

-- ---- Objects of a heap.

-- the header of an object
pub record HasHeader (x : DomainHeap) (a : ℕ) (object : Object) : Type 0 where
  pub header : Header
  pub at : slice_get x.headers.items a ≡ Some header
  pub is : object_of x.values.items x.units.items header ≡ object

pub header_of : (x : DomainHeap) (a : ℕ) (object : Object) → IsObject x a object → HasHeader x a object
header_of x a object is =
    let f : Header → Object = object_of x.values.items x.units.items in
    let from = comes_from f x.headers.items a object (slice_get-map f x.headers.items a ∙ sym (named-heap f x.headers.items a) ∙ is) in
    record { header = from.from; at = from.there; is = from.gives }

pub object_there : (x : DomainHeap) (a : ℕ) (h : Header) → slice_get x.headers.items a ≡ Some h → IsObject x a (object_of x.values.items x.units.items h)
object_there x a h at =
    let f : Header → Object = object_of x.values.items x.units.items in
    named-heap f x.headers.items a ∙ ap (option_map f) at

-- how long a payload is at most
len_by : (x : DomainHeap) (a : ℕ) (h : Header) → slice_get x.headers.items a ≡ Some h → (t : Bool) → is_text h.shape ≡ t → h.len + 4 ≤ x.used
len_by x a h at true text =
    let within = slice_get_within x.headers.items a h at in
    let there = (x.ok.placed a h at).in_units text in
    let paid = x.ok.paid in
    omega arith
len_by x a h at false text =
    let within = slice_get_within x.headers.items a h at in
    let there = (x.ok.placed a h at).in_values text in
    let paid = x.ok.paid in
    omega arith

pub object_sized : (x : DomainHeap) (a : ℕ) (object : Object) → IsObject x a object → size_of object + 4 ≤ x.used
object_sized x a object is =
    let has = header_of x a object is in
    let h = has.header in
    let size = size_with h.shape (piece x.values.items h.first h.len) (piece x.units.items h.first h.len) h.len
    (piece_short x.values.items h.first h.len) (piece_short x.units.items h.first h.len) in
    let len = len_by x a h has.at (is_text h.shape) refl in
    let P : Object → Type 0 = λ (o : Object). size_of o + 4 ≤ x.used in
    subst P has.is (omega (arith, size, len))

pub object_stored : (x : DomainHeap) (a : ℕ) (object : Object) → IsObject x a object → IsStored object
object_stored x a object is =
    let has = header_of x a object is in
    let h = has.header in
    subst IsStored has.is
    (stored_with h.shape (piece x.values.items h.first h.len) (piece x.units.items h.first h.len)
    (λ k v e. let at = in_piece x.values.items h.first h.len k v e in (x.ok.placed a h has.at).kinds k v at.0 at.1)
    (λ k v e. x.ok.narrow (h.first + k) v (in_piece x.values.items h.first h.len k v e).1)
    (λ k u e. x.ok.units_fit (h.first + k) u (in_piece x.units.items h.first h.len k u e).1))

pub object_small : (x : DomainHeap) (a : ℕ) (object : Object) → IsObject x a object → a < 2 ^ 30
object_small x a object is =
    let has = header_of x a object is in
    let within = slice_get_within x.headers.items a has.header has.at in
    let paid = x.ok.paid in
    let most = x.ok.most in
    let used = x.ok.within in
    omega arith

-- ---- Names that a heap lacks.

no_header : (x : DomainHeap) (a : ℕ) (o : Option Header) → slice_get x.headers.items a ≡ o
    → option_map (object_of x.values.items x.units.items) o ≡ None → option_map_or (λ (h : Header). h.mark) o 0 ≡ 0
no_header x a None at none = refl
no_header x a (Some h) at none = absurd cc

pub object_unmarked : (x : DomainHeap) (a : ℕ) → object_named (objects_of x) a ≡ None → mark_of x a ≡ 0
object_unmarked x a none =
    let f : Header → Object = object_of x.values.items x.units.items in
    no_header x a (slice_get x.headers.items a) refl (sym (named-heap f x.headers.items a) ∙ none)

name_by : (x : DomainHeap) (i : ℕ) (e : NamedObject) (o : Option Header)
    → option_map (λ (h : Header). let n : NamedObject = record { name = i; object = object_of x.values.items x.units.items h } in n) o ≡ Some e
    → e.name ≡ i
name_by x i e None at = absurd cc
name_by x i e (Some h) at = cc

pub object_by_place : (x : DomainHeap) (i : ℕ) (e : NamedObject) → slice_get (objects_of x) i ≡ Some e → e.name ≡ i
object_by_place x i e at =
    let f : Header → Object = object_of x.values.items x.units.items in
    name_by x i e (slice_get x.headers.items i) (sym (get-heap f x.headers.items i) ∙ at)
