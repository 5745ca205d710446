-- A copy is filled place by place: up to one it has what it is to have, and behind that zeros and nulls still.
use Rattle.std.proofs.Common.{◌≡◌, ℕ, zero, suc, ◌^◌, ◌<◌, ◌≤◌, Bool, true, false, cond, not, pos, List, [], ◌∷◌, length, map, replicate, Contains, Option, Some, slice_get, slice_set, refl, sym, ap, ◌∙◌, subst, arith}
use Rattle.std.specs.Option.{option_map, option_map_or}
use Rattle.std.proofs.lemmas.List.{length-map, length-replicate}
use Rattle.std.proofs.lemmas.Option.{same_Some}
use Rattle.jk_model.specs.declared.identifiers.ClassId.{ClassId}
use Rattle.jk_model.specs.declared.values.Value.{Value}
use Rattle.jk_model.specs.declared.values.Value.TheVariants as Held
use Rattle.jk_model_classes.specs.declared.records.ClassRecord.{ClassRecord}
use Rattle.jk_model_classes.specs.declared.records.FieldRecord.{FieldRecord}
use Rattle.jk_model_domains.specs.Objects.{Object, Array, Plain, Task, Text}
use Rattle.jk_model_domains.specs.OwnStates.{zero_of}
use Rattle.jk_model_graphs.specs.Followed.{followed, is_left_empty}
use Rattle.jk_model_heaps.specs.Heaps.{field_records, shape_of}
use Rattle.list_lemmas.proofs.ItemsByPlace.{item_there, mapped_at}
use Rattle.list_lemmas.proofs.ItemsOfLists.{Contains-at, Contains-here, each-of}
use Rattle.list_lemmas.proofs.TestsAndOrders.{mapped_option}
use Rattle.object_store.specs.HeapContents.{AreOfFields, AreOfKind, IsLaidOut, IsSmall, IsStored, IsWritten, item_of}
use Rattle.object_store.proofs.KindsOfValues.{alike, turned}
use Rattle.graph_copy.specs.Filled.{copied_fields, copied_object, image_of}
use Rattle.graph_copy.specs.Laid.{empty_copy}
use Rattle.graph_copy.specs.Places.{is_kept_at, place_count}
use Rattle.graph_copy.proofs.FieldsByPlace.{field_at}
use Rattle.graph_copy.proofs.PlacesWalked.{as_many_values, followed_in, one_followed}

-- ---- Lists that are filled from the front.

abbrev pub filled : {X : Type 0} → ℕ → List X → List X → List X
filled zero full empty = empty
filled (suc i) (x ∷ full) (e ∷ empty) = x ∷ filled i full empty
filled (suc i) full empty = empty

module _ {X : Type 0} where
  pub next_is_empty : (i : ℕ) (full empty : List X) → slice_get (filled i full empty) i ≡ slice_get empty i
  next_is_empty zero full empty = refl
  next_is_empty (suc i) [] empty = refl
  next_is_empty (suc i) (x ∷ full) [] = refl
  next_is_empty (suc i) (x ∷ full) (e ∷ empty) = next_is_empty i full empty

  pub one_filled : (i : ℕ) (full empty : List X) (x : X) → length full ≡ length empty → slice_get full i ≡ Some x
      → filled (suc i) full empty ≡ slice_set (filled i full empty) i x
  one_filled i [] empty x as_many at = absurd cc
  one_filled i (y ∷ full) [] x as_many at = absurd (omega (arith, as_many))
  one_filled zero (y ∷ full) (e ∷ empty) x as_many at = ap (λ (z : X). z ∷ empty) (same_Some y x at)
  one_filled (suc i) (y ∷ full) (e ∷ empty) x as_many at =
      ap (λ (zs : List X). y ∷ zs) (one_filled i full empty x (omega (arith, as_many)) at)

  pub none_filled : (i : ℕ) (full empty : List X) (x : X) → length full ≡ length empty → slice_get full i ≡ Some x → slice_get empty i ≡ Some x
      → filled (suc i) full empty ≡ filled i full empty
  none_filled i [] empty x as_many at was = absurd cc
  none_filled i (y ∷ full) [] x as_many at was = absurd (omega (arith, as_many))
  none_filled zero (y ∷ full) (e ∷ empty) x as_many at was = ap (λ (z : X). z ∷ empty) (same_Some y x at ∙ sym (same_Some e x was))
  none_filled (suc i) (y ∷ full) (e ∷ empty) x as_many at was =
      ap (λ (zs : List X). y ∷ zs) (none_filled i full empty x (omega (arith, as_many)) at was)

  pub all_filled : (full empty : List X) → length full ≡ length empty → filled (length full) full empty ≡ full
  all_filled [] [] as_many = refl
  all_filled [] (e ∷ empty) as_many = absurd (omega (arith, as_many))
  all_filled (x ∷ full) [] as_many = absurd (omega (arith, as_many))
  all_filled (x ∷ full) (e ∷ empty) as_many = ap (λ (zs : List X). x ∷ zs) (all_filled full empty (omega (arith, as_many)))

  pub filled_length : (i : ℕ) (full empty : List X) → length (filled i full empty) ≡ length empty
  filled_length zero full empty = refl
  filled_length (suc i) [] empty = refl
  filled_length (suc i) (x ∷ full) [] = refl
  filled_length (suc i) (x ∷ full) (e ∷ empty) = ap suc (filled_length i full empty)

-- ---- Objects.

abbrev pub zeros_of : List FieldRecord → List Value
zeros_of fs = map (λ (f : FieldRecord). zero_of f.kind) fs

-- a copy whose places up to one are filled
abbrev pub partly : List ClassRecord → (ℕ → ℕ) → Object → ℕ → Object
partly classes mark (Plain c values) i =
    Plain c (filled i (copied_fields mark (field_records classes c) values) (zeros_of (field_records classes c)))
partly classes mark (Array t items) i = Array t (filled i (map (image_of mark) items) (replicate (length items) (zero_of t)))
partly classes mark (Text units) i = Text (filled i units (replicate (length units) 0))
partly classes mark (Task s) i = Task s

pub nothing_filled : (classes : List ClassRecord) (mark : ℕ → ℕ) (object : Object) → partly classes mark object 0 ≡ empty_copy classes object
nothing_filled classes mark (Plain c values) = refl
nothing_filled classes mark (Array t items) = refl
nothing_filled classes mark (Text units) = refl
nothing_filled classes mark (Task s) = refl

copied_length : (mark : ℕ → ℕ) (fs : List FieldRecord) (vs : List Value) → AreOfFields fs vs → length (copied_fields mark fs vs) ≡ length fs
copied_length mark [] [] of = refl
copied_length mark [] (v ∷ vs) of = absurd of
copied_length mark (f ∷ fs) [] of = absurd of
copied_length mark (f ∷ fs) (v ∷ vs) of = ap suc (copied_length mark fs vs of.1)

fields_as_many : (mark : ℕ → ℕ) (fs : List FieldRecord) (vs : List Value) → AreOfFields fs vs
    → length (copied_fields mark fs vs) ≡ length (zeros_of fs)
fields_as_many mark fs vs of = omega (arith, copied_length mark fs vs of, length-map fs (λ (f : FieldRecord). zero_of f.kind))

items_as_many : (mark : ℕ → ℕ) (items : List Value) (z : Value) → length (map (image_of mark) items) ≡ length (replicate (length items) z)
items_as_many mark items z = omega (arith, length-map items (image_of mark), length-replicate (length items) z)

units_as_many : (units : List ℕ) → length units ≡ length {A = ℕ} (replicate (length units) 0)
units_as_many units = omega (arith, length-replicate {A = ℕ} (length units) 0)

pub wholly_filled : (classes : List ClassRecord) (mark : ℕ → ℕ) (object : Object) → IsLaidOut classes object
    → partly classes mark object (place_count classes (shape_of object)) ≡ copied_object classes mark object
wholly_filled classes mark (Plain c values) laid =
    let full = copied_fields mark (field_records classes c) values in
    ap (λ (n : ℕ). Plain c (filled n full (zeros_of (field_records classes c)))) (sym (copied_length mark (field_records classes c) values laid))
    ∙ ap (Plain c) (all_filled full (zeros_of (field_records classes c)) (fields_as_many mark (field_records classes c) values laid))
wholly_filled classes mark (Array t items) laid =
    let full = map (image_of mark) items in
    ap (λ (n : ℕ). Array t (filled n full (replicate (length items) (zero_of t)))) (sym (length-map items (image_of mark)))
    ∙ ap (Array t) (all_filled full (replicate (length items) (zero_of t)) (items_as_many mark items (zero_of t)))
wholly_filled classes mark (Text units) laid = ap Text (all_filled units (replicate (length units) 0) (units_as_many units))
wholly_filled classes mark (Task s) laid = refl

-- ---- Values of fields, by their places.

is_empty_field : (t : Bool) → not t ≡ false → t ≡ true
is_empty_field true is = refl
is_empty_field false is = absurd cc

is_kept_field : (t : Bool) → not t ≡ true → t ≡ false
is_kept_field true is = absurd cc
is_kept_field false is = refl

abbrev copied_field : (ℕ → ℕ) → FieldRecord → Value → Value
copied_field mark f v = cond (is_left_empty f) (zero_of f.kind) (image_of mark v)

copied_at : (mark : ℕ → ℕ) (fs : List FieldRecord) (vs : List Value) (i : ℕ) (f : FieldRecord) (v : Value) → slice_get fs i ≡ Some f
    → slice_get vs i ≡ Some v → slice_get (copied_fields mark fs vs) i ≡ Some (copied_field mark f v)
copied_at mark [] vs i f v at_f at_v = absurd cc
copied_at mark (g ∷ fs) [] i f v at_f at_v = absurd cc
copied_at mark (g ∷ fs) (w ∷ vs) zero f v at_f at_v =
    ap (λ (h : FieldRecord). Some (copied_field mark h w)) (same_Some g f at_f) ∙ ap (λ (u : Value). Some (copied_field mark f u)) (same_Some w v at_v)
copied_at mark (g ∷ fs) (w ∷ vs) (suc i) f v at_f at_v = copied_at mark fs vs i f v at_f at_v

field_kind : (fs : List FieldRecord) (vs : List Value) (i : ℕ) (f : FieldRecord) (v : Value) → AreOfFields fs vs → slice_get fs i ≡ Some f
    → slice_get vs i ≡ Some v → AreOfKind (zero_of f.kind) v
field_kind [] vs i f v of at_f at_v = absurd cc
field_kind (g ∷ fs) [] i f v of at_f at_v = absurd of
field_kind (g ∷ fs) (w ∷ vs) zero f v of at_f at_v =
    subst (λ (h : FieldRecord). AreOfKind (zero_of h.kind) v) (same_Some g f at_f)
    (subst (λ (u : Value). AreOfKind (zero_of g.kind) u) (same_Some w v at_v) of.0)
field_kind (g ∷ fs) (w ∷ vs) (suc i) f v of at_f at_v = field_kind fs vs i f v of.1 at_f at_v

value_there : (fs : List FieldRecord) (vs : List Value) (i : ℕ) → AreOfFields fs vs → i < length fs → (v : Value) × (slice_get vs i ≡ Some v)
value_there fs vs i of within = item_there vs i (let as_many = as_many_values fs vs of in omega (arith, as_many, within))

zero_at : (fs : List FieldRecord) (i : ℕ) (f : FieldRecord) → slice_get fs i ≡ Some f → slice_get (zeros_of fs) i ≡ Some (zero_of f.kind)
zero_at fs i f at = mapped_at (λ (g : FieldRecord). zero_of g.kind) fs i f at

replicated_at : {X : Type 0} (n i : ℕ) (x : X) → i < n → slice_get (replicate n x) i ≡ Some x
replicated_at zero i x within = absurd (omega (arith, within))
replicated_at (suc n) zero x within = refl
replicated_at (suc n) (suc i) x within = replicated_at n i x (omega (arith, within))

-- ---- Images are of the kinds of their values.

-- what names no object stands for itself
pub other_image : (mark : ℕ → ℕ) (v : Value) → ((a : ℕ) → v ≡ Held.Obj a → ⊥) → v ≡ image_of mark v
other_image mark (Held.Obj a) none = absurd (none a refl)
other_image mark (Held.Int n) none = refl
other_image mark (Held.Long n) none = refl
other_image mark Held.Null none = refl
other_image mark (Held.Cap k) none = refl
other_image mark Held.Unset none = refl

pub image_kind : (mark : ℕ → ℕ) (z v : Value) → AreOfKind z v → AreOfKind z (image_of mark v)
image_kind mark (Held.Int n) (Held.Obj a) of = absurd of.0
image_kind mark (Held.Long n) (Held.Obj a) of = absurd of.0
image_kind mark z (Held.Obj a) of = (of.0, tt)
image_kind mark z (Held.Int n) of = of
image_kind mark z (Held.Long n) of = of
image_kind mark z Held.Null of = of
image_kind mark z (Held.Cap k) of = of
image_kind mark z Held.Unset of = of

pub image_small : (mark : ℕ → ℕ) (v : Value) → ((a : ℕ) → v ≡ Held.Obj a → mark a ≤ 2 ^ 30) → ((a : ℕ) → v ≡ Held.Obj a → 0 < mark a) → IsSmall v
    → IsSmall (image_of mark v)
image_small mark (Held.Obj a) most some small = omega (arith, most a refl, some a refl)
image_small mark (Held.Int n) most some small = small
image_small mark (Held.Long n) most some small = small
image_small mark Held.Null most some small = small
image_small mark (Held.Cap k) most some small = small
image_small mark Held.Unset most some small = small

-- ---- The object stays laid out.

zero_kind : (z v : Value) → AreOfKind z v → AreOfKind z z
zero_kind z v of = alike v z z (turned z v of) (turned z v of)

zeros_of_fields : (fs : List FieldRecord) (vs : List Value) → AreOfFields fs vs → AreOfFields fs (zeros_of fs)
zeros_of_fields [] [] of = tt
zeros_of_fields [] (v ∷ vs) of = absurd of
zeros_of_fields (f ∷ fs) [] of = absurd of
zeros_of_fields (f ∷ fs) (v ∷ vs) of = (zero_kind (zero_of f.kind) v of.0, zeros_of_fields fs vs of.1)

copied_kind : (t : Bool) (mark : ℕ → ℕ) (z v : Value) → AreOfKind z v → AreOfKind z (cond t z (image_of mark v))
copied_kind true mark z v of = zero_kind z v of
copied_kind false mark z v of = image_kind mark z v of

copied_of_fields : (mark : ℕ → ℕ) (fs : List FieldRecord) (vs : List Value) → AreOfFields fs vs → AreOfFields fs (copied_fields mark fs vs)
copied_of_fields mark [] [] of = tt
copied_of_fields mark [] (v ∷ vs) of = absurd of
copied_of_fields mark (f ∷ fs) [] of = absurd of
copied_of_fields mark (f ∷ fs) (v ∷ vs) of = (copied_kind (is_left_empty f) mark (zero_of f.kind) v of.0, copied_of_fields mark fs vs of.1)

filled_of_fields : (i : ℕ) (fs : List FieldRecord) (full empty : List Value) → AreOfFields fs full → AreOfFields fs empty
    → AreOfFields fs (filled i full empty)
filled_of_fields zero fs full empty of also = also
filled_of_fields (suc i) fs [] empty of also = also
filled_of_fields (suc i) fs (x ∷ full) [] of also = also
filled_of_fields (suc i) [] (x ∷ full) (e ∷ empty) of also = absurd of
filled_of_fields (suc i) (f ∷ fs) (x ∷ full) (e ∷ empty) of also = (of.0, filled_of_fields i fs full empty of.1 also.1)

pub partly_laid_out : (classes : List ClassRecord) (mark : ℕ → ℕ) (object : Object) (i : ℕ) → IsLaidOut classes object
    → IsLaidOut classes (partly classes mark object i)
partly_laid_out classes mark (Plain c values) i laid =
    filled_of_fields i (field_records classes c) (copied_fields mark (field_records classes c) values) (zeros_of (field_records classes c))
    (copied_of_fields mark (field_records classes c) values laid) (zeros_of_fields (field_records classes c) values laid)
partly_laid_out classes mark (Array t items) i laid = tt
partly_laid_out classes mark (Text units) i laid = tt
partly_laid_out classes mark (Task s) i laid = tt

-- ---- One place more.

pub item_at_place : (classes : List ClassRecord) (object : Object) (i : ℕ) → IsLaidOut classes object → i < place_count classes (shape_of object)
    → (v : Value) × (item_of object i ≡ Some v)
item_at_place classes (Plain c values) i laid within = value_there (field_records classes c) values i laid within
item_at_place classes (Array t items) i laid within = item_there items i within
item_at_place classes (Text units) i laid within =
    let u = item_there units i within in (Held.Int (pos u.0), ap (option_map (λ (n : ℕ). Held.Int (pos n))) u.1)
item_at_place classes (Task s) i laid within = absurd (omega (arith, within))

kept_by : (classes : List ClassRecord) (c : ClassId) (i : ℕ) (f : FieldRecord) (b : Bool) → slice_get (field_records classes c) i ≡ Some f
    → is_kept_at classes (shape_of (Plain c [])) i ≡ b → not (is_left_empty f) ≡ b
kept_by classes c i f b at is =
    sym (ap (λ (o : Option FieldRecord). option_map_or (λ (g : FieldRecord). not (is_left_empty g)) o false) at) ∙ is

left_field : (t : Bool) (z v : Value) → t ≡ true → cond t z v ≡ z
left_field true z v is = refl
left_field false z v is = absurd cc

kept_field : (t : Bool) (z v : Value) → t ≡ false → cond t z v ≡ v
kept_field true z v is = absurd cc
kept_field false z v is = refl

pub place_left_empty : (classes : List ClassRecord) (mark : ℕ → ℕ) (object : Object) (i : ℕ) → IsLaidOut classes object
    → i < place_count classes (shape_of object) → is_kept_at classes (shape_of object) i ≡ false
    → partly classes mark object (suc i) ≡ partly classes mark object i
place_left_empty classes mark (Plain c values) i laid within is =
    let f = field_at classes c i within in
    let v = value_there (field_records classes c) values i laid within in
    let left = is_empty_field (is_left_empty f.0) (kept_by classes c i f.0 false f.1 is) in
    ap (Plain c) (none_filled i (copied_fields mark (field_records classes c) values) (zeros_of (field_records classes c)) (zero_of f.0.kind)
    (fields_as_many mark (field_records classes c) values laid)
    (copied_at mark (field_records classes c) values i f.0 v.0 f.1 v.1
    ∙ ap (λ (u : Value). Some u) (left_field (is_left_empty f.0) (zero_of f.0.kind) (image_of mark v.0) left))
    (zero_at (field_records classes c) i f.0 f.1))
place_left_empty classes mark (Array t items) i laid within is = absurd cc
place_left_empty classes mark (Text units) i laid within is = absurd cc
place_left_empty classes mark (Task s) i laid within is = absurd cc

pub place_filled : (classes : List ClassRecord) (mark : ℕ → ℕ) (object : Object) (i : ℕ) (v : Value) → IsLaidOut classes object → IsStored object
    → i < place_count classes (shape_of object) → is_kept_at classes (shape_of object) i ≡ true → item_of object i ≡ Some v
    → ((a : ℕ) → v ≡ Held.Obj a → mark a ≤ 2 ^ 30) → ((a : ℕ) → v ≡ Held.Obj a → 0 < mark a)
    → IsWritten (partly classes mark object i) i (image_of mark v) (partly classes mark object (suc i))
place_filled classes mark (Plain c values) i v laid stored within is at most some =
    let f = field_at classes c i within in
    let kept = is_kept_field (is_left_empty f.0) (kept_by classes c i f.0 true f.1 is) in
    let full = copied_fields mark (field_records classes c) values in
    let there : slice_get full i ≡ Some (image_of mark v) =
    copied_at mark (field_records classes c) values i f.0 v f.1 at
    ∙ ap (λ (u : Value). Some u) (kept_field (is_left_empty f.0) (zero_of f.0.kind) (image_of mark v) kept) in (
      filled (suc i) full (zeros_of (field_records classes c)),
      record {
        before = zero_of f.0.kind;
        stands = next_is_empty i full (zeros_of (field_records classes c)) ∙ zero_at (field_records classes c) i f.0 f.1;
        kind = image_kind mark (zero_of f.0.kind) v (field_kind (field_records classes c) values i f.0 v laid f.1 at);
        small = image_small mark v most some (each-of IsSmall values v stored (Contains-at values i v at));
        becomes = one_filled i full (zeros_of (field_records classes c)) (image_of mark v)
            (fields_as_many mark (field_records classes c) values laid) there;
      },
      refl,
    )
place_filled classes mark (Array t items) i v laid stored within is at most some =
    let full = map (image_of mark) items in
    let empty = replicate (length items) (zero_of t) in
    let one = each-of (λ (w : Value). AreOfKind (zero_of t) w × IsSmall w) items v stored (Contains-at items i v at) in (
      filled (suc i) full empty,
      record {
        before = zero_of t;
        stands = next_is_empty i full empty ∙ replicated_at (length items) i (zero_of t) within;
        kind = image_kind mark (zero_of t) v one.0;
        small = image_small mark v most some one.1;
        becomes = one_filled i full empty (image_of mark v) (items_as_many mark items (zero_of t)) (mapped_at (image_of mark) items i v at);
      },
      refl,
    )
place_filled classes mark (Text units) i v laid stored within is at most some =
    let u = mapped_option (λ (n : ℕ). Held.Int (pos n)) (slice_get units i) v at in
    let empty = replicate (length units) 0 in
    subst (λ (w : Value). IsWritten (Text (filled i units empty)) i (image_of mark w) (Text (filled (suc i) units empty))) u.2 (
      omega (arith, within, filled_length i units empty, length-replicate {A = ℕ} (length units) 0),
      each-of (λ (n : ℕ). n < 65536) units u.0 stored (Contains-at units i u.0 u.1),
      ap Text (one_filled i units empty u.0 (units_as_many units) u.1),
    )
place_filled classes mark (Task s) i v laid stored within is at most some = absurd cc

-- ---- What is kept is followed.

pub kept_is_followed : (classes : List ClassRecord) (object : Object) (i a : ℕ) → i < place_count classes (shape_of object)
    → is_kept_at classes (shape_of object) i ≡ true → item_of object i ≡ Some (Held.Obj a) → Contains (followed classes object) (Held.Obj a)
kept_is_followed classes (Plain c values) i a within is at =
    followed_in classes (Plain c values) i (Held.Obj a)
    (subst (λ (vs : List Value). Contains vs (Held.Obj a)) (sym (one_followed classes (Plain c values) i (Held.Obj a) within is at))
    (Contains-here (Held.Obj a) []))
kept_is_followed classes (Array t items) i a within is at = Contains-at items i (Held.Obj a) at
kept_is_followed classes (Text units) i a within is at =
    let u = mapped_option (λ (n : ℕ). Held.Int (pos n)) (slice_get units i) (Held.Obj a) at in
    let wrong : Held.Int (pos u.0) ≡ Held.Obj a = u.2 in absurd cc
kept_is_followed classes (Task s) i a within is at = absurd cc
