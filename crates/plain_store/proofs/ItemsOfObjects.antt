-- The value at a place of an object, by the header of the object.
use Rattle.std.proofs.Common.{◌≡◌, ℕ, pos, ◌+◌, ◌<◌, ◌≤◌, Bool, true, false, List, length, set, Option, Some, None, slice_get, refl, sym, ap, subst, ◌∙◌, arith}
use Rattle.std.specs.Option.{option_map}
use Rattle.std.proofs.lemmas.Option.{same_Some, slice_get_within}
use Rattle.jk_model.specs.declared.values.Value.{Value}
use Rattle.jk_model.specs.declared.values.Value.TheVariants as Held
use Rattle.jk_model_domains.specs.Objects.{Object}
use Rattle.jk_model_heaps.specs.Heaps.{shape_of}
use Rattle.jk_model_heaps.specs.declared.shapes.Shape.{Shape}
use Rattle.jk_model_heaps.specs.declared.shapes.Shape.TheVariants as Of
use Rattle.object_store.specs.HeapContents.{AreOfKind, IsPut, IsReference, IsSmall, IsWritten, item_of}
use Rattle.plain_store.specs.declared.domain_heap.DomainHeap.{DomainHeap}
use Rattle.plain_store.specs.declared.domain_heap.Header.{Header}
use Rattle.plain_store.specs.Headers.{IsNarrow, IsUnit, is_text, kind_of, object_of, object_with, said_kind, said_len}
use Rattle.plain_store.specs.HeapMoves.{HasItemAt, IsObject, TakesItemAt}
use Rattle.plain_store.specs.Pieces.{get-piece, length-piece, piece, piece_short}
use Rattle.plain_store.specs.StoredObjects.{header_of}

-- ---- The header of an object.

pub is_object : (x : DomainHeap) (a : ℕ) (h : Header) (object : Object) → slice_get x.headers.items a ≡ Some h → IsObject x a object
    → object_of x.values.items x.units.items h ≡ object
is_object x a h object at is =
    let has = header_of x a object is in
    let same : h ≡ has.header = same_Some h has.header (sym at ∙ has.at) in
    ap (object_of x.values.items x.units.items) same ∙ has.is

pub name_within : (x : DomainHeap) (a : ℕ) (object : Object) → IsObject x a object → a < length x.headers.items
name_within x a object is = let has = header_of x a object is in slice_get_within x.headers.items a has.header has.at

shape_with : (shape : Shape) (vs : List Value) (us : List ℕ) (len : ℕ) → (is_text shape ≡ false → length vs ≡ len) → (is_text shape ≡ true → length us ≡ len)
    → said_len shape len ≡ len → shape_of (object_with shape vs us) ≡ shape
shape_with (Of.Plain c) vs us len value text said = refl
shape_with (Of.Array t n) vs us len value text said = ap (Of.Array t) (value refl ∙ sym said)
shape_with (Of.Text n) vs us len value text said = ap Of.Text (text refl ∙ sym said)
shape_with (Of.Task s) vs us len value text said = refl

pub shape_is : (x : DomainHeap) (a : ℕ) (h : Header) (object : Object) → slice_get x.headers.items a ≡ Some h → IsObject x a object
    → h.shape ≡ shape_of object
shape_is x a h object at is =
    let placed = x.ok.placed a h at in
    sym (shape_with h.shape (piece x.values.items h.first h.len) (piece x.units.items h.first h.len) h.len
    (λ value. length-piece x.values.items h.first h.len (placed.in_values value))
    (λ text. length-piece x.units.items h.first h.len (placed.in_units text)) placed.long)
    ∙ ap shape_of (is_object x a h object at is)

pub no_text : (shape : Shape) → ((n : ℕ) → shape ≡ Of.Text n → ⊥) → is_text shape ≡ false
no_text (Of.Plain c) h = refl
no_text (Of.Array t n) h = refl
no_text (Of.Text n) h = absurd (h n refl)
no_text (Of.Task s) h = refl

-- ---- Items by shapes.

unit_there : (o : Option ℕ) (v : Value) → option_map (λ (u : ℕ). Held.Int (pos u)) o ≡ Some v → (u : ℕ) × (o ≡ Some u)
unit_there None v e = absurd cc
unit_there (Some u) v e = (u, refl)

within_by : (shape : Shape) (vs : List Value) (us : List ℕ) (len i : ℕ) (v : Value) → length vs ≤ len → length us ≤ len
    → item_of (object_with shape vs us) i ≡ Some v → i < len
within_by (Of.Plain c) vs us len i v short_v short_u e = omega (arith, slice_get_within vs i v e)
within_by (Of.Array t n) vs us len i v short_v short_u e = omega (arith, slice_get_within vs i v e)
within_by (Of.Text n) vs us len i v short_v short_u e =
    let u = unit_there (slice_get us i) v e in omega (arith, slice_get_within us i u.0 u.1)
within_by (Of.Task s) vs us len i v short_v short_u e = absurd cc

item_text : (shape : Shape) (vs : List Value) (us : List ℕ) (i : ℕ) → is_text shape ≡ true
    → item_of (object_with shape vs us) i ≡ option_map (λ (u : ℕ). Held.Int (pos u)) (slice_get us i)
item_text (Of.Plain c) vs us i text = absurd cc
item_text (Of.Array t n) vs us i text = absurd cc
item_text (Of.Text n) vs us i text = refl
item_text (Of.Task s) vs us i text = absurd cc

item_value : (shape : Shape) (vs : List Value) (us : List ℕ) (i : ℕ) (v : Value) → is_text shape ≡ false
    → item_of (object_with shape vs us) i ≡ Some v → item_of (object_with shape vs us) i ≡ slice_get vs i
item_value (Of.Plain c) vs us i v value e = refl
item_value (Of.Array t n) vs us i v value e = refl
item_value (Of.Text n) vs us i v value e = absurd cc
item_value (Of.Task s) vs us i v value e = absurd cc

-- ---- An item that is read.

module _ (x : DomainHeap) (a i : ℕ) (h : Header) (at : slice_get x.headers.items a ≡ Some h) where
  abbrev values_of : List Value
  values_of = piece x.values.items h.first h.len

  abbrev units_of : List ℕ
  units_of = piece x.units.items h.first h.len

  -- the value stands in the object that the header stands for
  item_here : (has : HasItemAt x a i) → item_of (object_of x.values.items x.units.items h) i ≡ Some has.value
  item_here has = ap (λ (o : Object). item_of o i) (is_object x a h has.object at has.is) ∙ has.stands

  pub item_within : HasItemAt x a i → i < h.len
  item_within has =
      within_by h.shape values_of units_of h.len i has.value (piece_short x.values.items h.first h.len) (piece_short x.units.items h.first h.len)
      (item_here has)

  pub place_low : (t : Bool) → is_text h.shape ≡ t → i < h.len → h.first + i < 16777216
  place_low true text lt =
      let there = (x.ok.placed a h at).in_units text in
      omega (arith, x.ok.paid, x.ok.within, x.ok.most)
  place_low false value lt =
      let there = (x.ok.placed a h at).in_values value in
      omega (arith, x.ok.paid, x.ok.within, x.ok.most)

  pub in_units : is_text h.shape ≡ true → i < h.len → h.first + i < length x.units.items
  in_units text lt = omega (arith, (x.ok.placed a h at).in_units text)

  pub in_values : is_text h.shape ≡ false → i < h.len → h.first + i < length x.values.items
  in_values value lt = omega (arith, (x.ok.placed a h at).in_values value)

  pub read_unit : is_text h.shape ≡ true → i < h.len → (u : ℕ) → slice_get x.units.items (h.first + i) ≡ Some u
      → (object : Object) → IsObject x a object → item_of object i ≡ Some (Held.Int (pos u))
  read_unit text lt u there object is =
      sym (ap (λ (o : Object). item_of o i) (is_object x a h object at is))
      ∙ item_text h.shape values_of units_of i text
      ∙ ap (option_map (λ (w : ℕ). Held.Int (pos w))) (get-piece x.units.items h.first h.len i lt ∙ there)

  pub read_value : HasItemAt x a i → is_text h.shape ≡ false → (v : Value) → slice_get x.values.items (h.first + i) ≡ Some v
      → (object : Object) → IsObject x a object → item_of object i ≡ Some v
  read_value has value v there object is =
      sym (ap (λ (o : Object). item_of o i) (is_object x a h object at is))
      ∙ item_value h.shape values_of units_of i has.value value (item_here has)
      ∙ get-piece x.values.items h.first h.len i (item_within has) ∙ there

-- ---- An item that is written.

ref_kind : (v : Value) → IsReference v → kind_of v ≡ 2
ref_kind Held.Null h = refl
ref_kind (Held.Obj a) h = refl
ref_kind (Held.Cap k) h = refl
ref_kind (Held.Int n) h = absurd h
ref_kind (Held.Long n) h = absurd h
ref_kind Held.Unset h = absurd h

kind_same : (v w : Value) → AreOfKind v w → kind_of v ≡ kind_of w
kind_same (Held.Int m) (Held.Int n) h = refl
kind_same (Held.Int m) w h = absurd h.0
kind_same (Held.Long m) (Held.Long n) h = refl
kind_same (Held.Long m) w h = absurd h.0
kind_same v (Held.Int n) h = absurd h.1
kind_same v (Held.Long n) h = absurd h.1
kind_same v w h = ref_kind v h.0 ∙ sym (ref_kind w h.1)

narrow_by : (v : Value) → IsSmall v → IsNarrow v
narrow_by (Held.Obj a) h = record { name = h; number = omega arith }
narrow_by (Held.Cap k) h = record { name = omega arith; number = h }
narrow_by (Held.Int n) h = record { name = omega arith; number = omega arith }
narrow_by (Held.Long n) h = record { name = omega arith; number = omega arith }
narrow_by Held.Null h = record { name = omega arith; number = omega arith }
narrow_by Held.Unset h = record { name = omega arith; number = omega arith }

-- a value is written into an object that is no text
pub record WritesValue (shape : Shape) (vs : List Value) (us : List ℕ) (i : ℕ) (v : Value) (new : Object) : Type 0 where
  pub before : Value
  pub stands : slice_get vs i ≡ Some before
  pub kind : kind_of before ≡ kind_of v
  pub narrow : IsNarrow v
  pub is : new ≡ object_with shape (set vs i v) us

-- a unit is written into a text
pub record WritesUnit (shape : Shape) (vs : List Value) (us : List ℕ) (i : ℕ) (v : Value) (new : Object) : Type 0 where
  pub unit : ℕ
  pub value : v ≡ Held.Int (pos unit)
  pub within : i < length us
  pub small : unit < 65536
  pub is : new ≡ object_with shape vs (set us i unit)

put_in : (shape : Shape) (vs : List Value) (us : List ℕ) (i : ℕ) (v : Value) (values : List Value) (new : Object) → IsPut vs i v values
    → new ≡ object_with shape values us → WritesValue shape vs us i v new
put_in shape vs us i v values new put is =
    record {
      before = put.before;
      stands = put.stands;
      kind = kind_same put.before v put.kind;
      narrow = narrow_by v put.small;
      is = is ∙ ap (λ (xs : List Value). object_with shape xs us) put.becomes;
    }

pub writes_value : (shape : Shape) (vs : List Value) (us : List ℕ) (i : ℕ) (v : Value) (new : Object) → is_text shape ≡ false
    → IsWritten (object_with shape vs us) i v new → WritesValue shape vs us i v new
writes_value (Of.Plain c) vs us i v new value w = put_in (Of.Plain c) vs us i v w.0 new w.1 w.2
writes_value (Of.Array t n) vs us i v new value w = put_in (Of.Array t n) vs us i v w.0 new w.1 w.2
writes_value (Of.Text n) vs us i v new value w = absurd cc
writes_value (Of.Task s) vs us i v new value w = absurd w

unit_in : (n : ℕ) (vs : List Value) (us : List ℕ) (i : ℕ) (v : Value) (new : Object) → IsWritten (object_with (Of.Text n) vs us) i v new
    → WritesUnit (Of.Text n) vs us i v new
unit_in n vs us i (Held.Int (pos u)) new w = record { unit = u; value = refl; within = w.0; small = w.1; is = w.2 }
unit_in n vs us i v new w = absurd w

pub writes_unit : (shape : Shape) (vs : List Value) (us : List ℕ) (i : ℕ) (v : Value) (new : Object) → is_text shape ≡ true
    → IsWritten (object_with shape vs us) i v new → WritesUnit shape vs us i v new
writes_unit (Of.Plain c) vs us i v new text w = absurd cc
writes_unit (Of.Array t n) vs us i v new text w = absurd cc
writes_unit (Of.Text n) vs us i v new text w = unit_in n vs us i v new w
writes_unit (Of.Task s) vs us i v new text w = absurd w

module _ (x : DomainHeap) (a i : ℕ) (v : Value) (h : Header) (at : slice_get x.headers.items a ≡ Some h) where
  -- what is written into the object is written into what the header stands for
  pub written_here : (object new : Object) → IsObject x a object → IsWritten object i v new → IsWritten (object_of x.values.items x.units.items h) i v new
  written_here object new is w = subst (λ (o : Object). IsWritten o i v new) (sym (is_object x a h object at is)) w

  pub takes_unit : (takes : TakesItemAt x a i v) → is_text h.shape ≡ true
      → WritesUnit h.shape (values_of x a i h at) (units_of x a i h at) i v takes.new
  takes_unit takes text =
      writes_unit h.shape (values_of x a i h at) (units_of x a i h at) i v takes.new text (written_here takes.object takes.new takes.is takes.written)

  pub takes_value : (takes : TakesItemAt x a i v) → is_text h.shape ≡ false
      → WritesValue h.shape (values_of x a i h at) (units_of x a i h at) i v takes.new
  takes_value takes value =
      writes_value h.shape (values_of x a i h at) (units_of x a i h at) i v takes.new value (written_here takes.object takes.new takes.is takes.written)

  write_within_by : (takes : TakesItemAt x a i v) → (t : Bool) → is_text h.shape ≡ t → i < h.len
  write_within_by takes true text =
      omega (arith, (takes_unit takes text).within, piece_short x.units.items h.first h.len)
  write_within_by takes false value =
      let w = takes_value takes value in
      omega (arith, slice_get_within (values_of x a i h at) i w.before w.stands, piece_short x.values.items h.first h.len)

  pub write_within : TakesItemAt x a i v → i < h.len
  write_within takes = write_within_by takes (is_text h.shape) refl

  pub unit_taken : TakesItemAt x a i v → is_text h.shape ≡ true → IsUnit v
  unit_taken takes text = let w = takes_unit takes text in record { unit = w.unit; small = w.small; is = w.value }

  -- what is written is of the kind that the shape says
  pub kind_kept : TakesItemAt x a i v → is_text h.shape ≡ false → said_kind h.shape (kind_of v) ≡ kind_of v
  kind_kept takes value =
      let w = takes_value takes value in
      let stood = get-piece x.values.items h.first h.len i (write_within takes) in
      let before = (x.ok.placed a h at).kinds i w.before (write_within takes) (sym stood ∙ w.stands) in
      subst (λ (k : ℕ). said_kind h.shape k ≡ k) w.kind before

pub same_unit : (u w : ℕ) (v : Value) → v ≡ Held.Int (pos u) → v ≡ Held.Int (pos w) → u ≡ w
same_unit u w v e f = cc
