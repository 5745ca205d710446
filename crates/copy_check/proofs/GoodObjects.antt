-- Objects that are good: new ones, those that are written, and copies of good ones.
use Rattle.std.proofs.Common.{◌≡◌, ℕ, zero, suc, ◌⊎◌, Bool, true, false, cond, pos, List, [], ◌∷◌, map, replicate, Contains, Some, slice_get, slice_set, sym, ◌∙◌, subst, inl, inr}
use Rattle.std.specs.Prelude.{MatchBool}
use Rattle.std.proofs.lemmas.Option.{same_Some}
use Rattle.jk_model.specs.declared.identifiers.ClassId.{ClassId}
use Rattle.jk_model.specs.declared.identifiers.DomainId.{DomainId}
use Rattle.jk_model.specs.declared.values.Value.{Value}
use Rattle.jk_model.specs.declared.values.Value.TheVariants as Held
use Rattle.jk_model_classes.specs.declared.records.BaseRef.{BaseRef}
use Rattle.jk_model_classes.specs.declared.records.BaseRef.TheVariants as Base
use Rattle.jk_model_classes.specs.declared.records.ClassRecord.{ClassRecord}
use Rattle.jk_model_classes.specs.declared.records.FieldRecord.{FieldRecord}
use Rattle.jk_model_classes.specs.declared.records.TypeRef.{TypeRef}
use Rattle.jk_model_domains.specs.Objects.{Object, Array, Plain, Task, Text}
use Rattle.jk_model_domains.specs.OwnStates.{zero_of}
use Rattle.jk_model_graphs.specs.Copies.{Corresponds, EachCorresponds, FieldsCorrespond, IsCopied}
use Rattle.jk_model_graphs.specs.Followed.{followed, is_left_empty, kept_values}
use Rattle.jk_model_heaps.specs.declared.shapes.Shape.{Shape}
use Rattle.jk_model_heaps.specs.declared.shapes.Shape.TheVariants as Of
use Rattle.jk_model_heaps.specs.Heaps.{field_records, shape_of, zero_object}
use Rattle.heap_laws.proofs.MappedLists.{mapped_from}
use Rattle.list_lemmas.proofs.ItemsOfLists.{Contains-cases, Contains-here, Contains-none, Contains-there}
use Rattle.object_store.specs.HeapContents.{AreOfFields, AreOfKind, HasShapeClasses, HeapContent, IsLaidOut, IsName, IsWritten}
use Rattle.object_store.proofs.KindsOfValues.{alike, turned}
use Rattle.copy_check.specs.ReadyHeaps.{IsGood, values_of}

-- ---- New objects.

zero_alike_by : (dims : ℕ) (base : BaseRef)
    → AreOfKind (zero_of (record { dims = dims; base = base })) (zero_of (record { dims = dims; base = base }))
zero_alike_by zero Base.Long = tt
zero_alike_by zero (Base.Class c) = (tt, tt)
zero_alike_by zero base = tt
zero_alike_by (suc dims) base = (tt, tt)

zero_alike : (t : TypeRef) → AreOfKind (zero_of t) (zero_of t)
zero_alike t = zero_alike_by t.dims t.base

no_object_by : (dims : ℕ) (base : BaseRef) (b : ℕ) → zero_of (record { dims = dims; base = base }) ≡ Held.Obj b → ⊥
no_object_by zero Base.Long b is = cc
no_object_by zero (Base.Class c) b is = cc
no_object_by zero base b is = cc
no_object_by (suc dims) base b is = cc

pub no_object : (t : TypeRef) (b : ℕ) → zero_of t ≡ Held.Obj b → ⊥
no_object t b is = no_object_by t.dims t.base b is

zeros_of_fields : (fs : List FieldRecord) → AreOfFields fs (map (λ (f : FieldRecord). zero_of f.kind) fs)
zeros_of_fields [] = tt
zeros_of_fields (f ∷ fs) = (zero_alike f.kind, zeros_of_fields fs)

replica : (n : ℕ) (v w : Value) → Contains (replicate n v) w → v ≡ w
replica zero v w there = absurd (Contains-none w there)
replica (suc n) v w there = elim (Contains-cases w v (replicate n v) there) [ inl same ↦ same | inr later ↦ replica n v w later ]

pub good_new : (c : HeapContent) (classes : List ClassRecord) (d : DomainId) (shape : Shape) → HasShapeClasses classes shape
    → IsGood c classes d (zero_object classes shape)
good_new c classes d (Of.Plain k) has = record {
  laid_out = zeros_of_fields (field_records classes k);
  has_classes = has;
  named = λ b there.
      let from = mapped_from (λ (f : FieldRecord). zero_of f.kind) (field_records classes k) (Held.Obj b) there in
      absurd (no_object from.0.kind b from.2);
}
good_new c classes d (Of.Array t n) has = record {
  laid_out = tt;
  has_classes = has;
  named = λ b there. absurd (no_object t b (replica n (zero_of t) (Held.Obj b) there));
}
good_new c classes d (Of.Text n) has =
    record { laid_out = tt; has_classes = tt; named = λ b there. absurd (Contains-none (Held.Obj b) there) }
good_new c classes d (Of.Task s) has =
    record { laid_out = tt; has_classes = tt; named = λ b there. absurd (Contains-none (Held.Obj b) there) }

-- ---- Objects that are written.

set_cases : (xs : List Value) (i : ℕ) (v w : Value) → Contains (slice_set xs i v) w → (v ≡ w) ⊎ Contains xs w
set_cases [] i v w there = inr there
set_cases (x ∷ xs) zero v w there = elim (Contains-cases w v xs there) [
  | inl same ↦ inl same
  | inr later ↦ inr (Contains-there w x xs later)
]
set_cases (x ∷ xs) (suc i) v w there = elim (Contains-cases w x (slice_set xs i v) there) [
  | inl same ↦ inr (subst (λ (z : Value). Contains (x ∷ xs) z) same (Contains-here x xs))
  | inr later ↦ elim (set_cases xs i v w later) [ inl is ↦ inl is | inr was ↦ inr (Contains-there w x xs was) ]
]

put_of_fields : (fs : List FieldRecord) (vs : List Value) (i : ℕ) (before v : Value) → AreOfFields fs vs → slice_get vs i ≡ Some before
    → AreOfKind before v → AreOfFields fs (slice_set vs i v)
put_of_fields [] [] i before v of at kind = absurd cc
put_of_fields [] (x ∷ vs) i before v of at kind = absurd of
put_of_fields (f ∷ fs) [] i before v of at kind = absurd of
put_of_fields (f ∷ fs) (x ∷ vs) zero before v of at kind =
    let was : AreOfKind (zero_of f.kind) before = subst (λ (u : Value). AreOfKind (zero_of f.kind) u) (same_Some x before at) of.0 in
    (alike before (zero_of f.kind) v (turned (zero_of f.kind) before was) kind, of.1)
put_of_fields (f ∷ fs) (x ∷ vs) (suc i) before v of at kind = (of.0, put_of_fields fs vs i before v of.1 at kind)

-- an object as it is, where names stay
pub good_still : (old new : HeapContent) (classes : List ClassRecord) (d : DomainId) (object : Object)
    → ((b : ℕ) → IsName old d b → IsName new d b) → IsGood old classes d object → IsGood new classes d object
good_still old new classes d object kept good =
    record { laid_out = good.laid_out; has_classes = good.has_classes; named = λ b there. kept b (good.named b there) }

pub good_written : (c : HeapContent) (classes : List ClassRecord) (d : DomainId) (object after : Object) (i : ℕ) (v : Value)
    → IsGood c classes d object → IsWritten object i v after → ((b : ℕ) → v ≡ Held.Obj b → IsName c d b) → IsGood c classes d after
good_written c classes d (Plain k fields) after i v good written known =
    let put = written.1 in
    subst (λ (o : Object). IsGood c classes d o) (sym written.2) (record {
      laid_out = subst (λ (vs : List Value). AreOfFields (field_records classes k) vs) (sym put.becomes)
          (put_of_fields (field_records classes k) fields i put.before v good.laid_out put.stands put.kind);
      has_classes = good.has_classes;
      named = λ b there. elim (set_cases fields i v (Held.Obj b) (subst (λ (vs : List Value). Contains vs (Held.Obj b)) put.becomes there)) [
        | inl is ↦ known b is
        | inr was ↦ good.named b was
      ];
    })
good_written c classes d (Array t items) after i v good written known =
    let put = written.1 in
    subst (λ (o : Object). IsGood c classes d o) (sym written.2) (record {
      laid_out = tt;
      has_classes = good.has_classes;
      named = λ b there. elim (set_cases items i v (Held.Obj b) (subst (λ (vs : List Value). Contains vs (Held.Obj b)) put.becomes there)) [
        | inl is ↦ known b is
        | inr was ↦ good.named b was
      ];
    })
good_written c classes d (Text units) after i (Held.Int (pos u)) good written known =
    subst (λ (o : Object). IsGood c classes d o) (sym written.2)
    (record { laid_out = tt; has_classes = tt; named = λ b there. absurd (Contains-none (Held.Obj b) there) })
good_written c classes d (Text units) after i v good written known = absurd written
good_written c classes d (Task s) after i v good written known = absurd written

-- ---- Copies.

object_kind : (z : Value) (a b : ℕ) → AreOfKind z (Held.Obj a) → AreOfKind z (Held.Obj b)
object_kind (Held.Int n) a b of = absurd of.0
object_kind (Held.Long n) a b of = absurd of.0
object_kind z a b of = (of.0, tt)

corresponding_kind : (pairs : List (ℕ × ℕ)) (z v w : Value) → AreOfKind z v → Corresponds pairs v w → AreOfKind z w
corresponding_kind pairs z (Held.Obj a) (Held.Obj b) of h = object_kind z a b of
corresponding_kind pairs z (Held.Obj a) w of h = absurd h
corresponding_kind pairs z v (Held.Obj b) of h = absurd h
corresponding_kind pairs z v w of h = subst (λ (u : Value). AreOfKind z u) h of

copied_kind : (t : Bool) (pairs : List (ℕ × ℕ)) (kind : TypeRef) (v w : Value) → AreOfKind (zero_of kind) v
    → MatchBool t (w ≡ zero_of kind) (Corresponds pairs v w) → AreOfKind (zero_of kind) w
copied_kind true pairs kind v w of h = subst (λ (u : Value). AreOfKind (zero_of kind) u) (sym h) (zero_alike kind)
copied_kind false pairs kind v w of h = corresponding_kind pairs (zero_of kind) v w of h

copied_of_fields : (pairs : List (ℕ × ℕ)) (fs : List FieldRecord) (vs ws : List Value) → AreOfFields fs vs → FieldsCorrespond pairs fs vs ws
    → AreOfFields fs ws
copied_of_fields pairs [] [] [] of h = tt
copied_of_fields pairs [] [] (w ∷ ws) of h = absurd h
copied_of_fields pairs [] (v ∷ vs) ws of h = absurd of
copied_of_fields pairs (f ∷ fs) [] ws of h = absurd of
copied_of_fields pairs (f ∷ fs) (v ∷ vs) [] of h = absurd h
copied_of_fields pairs (f ∷ fs) (v ∷ vs) (w ∷ ws) of h =
    (copied_kind (is_left_empty f) pairs f.kind v w of.0 h.0, copied_of_fields pairs fs vs ws of.1 h.1)

-- what a copy names is the second of a pair
abbrev pub IsPaired : List (ℕ × ℕ) → ℕ → Type 0
IsPaired pairs b = (a : ℕ) × Contains pairs (a, b)

corresponding_pair : (pairs : List (ℕ × ℕ)) (v : Value) (b : ℕ) → Corresponds pairs v (Held.Obj b) → IsPaired pairs b
corresponding_pair pairs (Held.Obj a) b h = (a, h)
corresponding_pair pairs (Held.Int n) b h = absurd h
corresponding_pair pairs (Held.Long n) b h = absurd h
corresponding_pair pairs Held.Null b h = absurd h
corresponding_pair pairs (Held.Cap k) b h = absurd h
corresponding_pair pairs Held.Unset b h = absurd h

field_pair : (t : Bool) (pairs : List (ℕ × ℕ)) (kind : TypeRef) (v w : Value) (b : ℕ) → w ≡ Held.Obj b
    → MatchBool t (w ≡ zero_of kind) (Corresponds pairs v w) → IsPaired pairs b
field_pair true pairs kind v w b is h = absurd (no_object kind b (sym h ∙ is))
field_pair false pairs kind v w b is h = corresponding_pair pairs v b (subst (λ (u : Value). Corresponds pairs v u) is h)

fields_paired : (pairs : List (ℕ × ℕ)) (fs : List FieldRecord) (vs ws : List Value) (b : ℕ) → FieldsCorrespond pairs fs vs ws
    → Contains ws (Held.Obj b) → IsPaired pairs b
fields_paired pairs [] [] [] b h there = absurd (Contains-none (Held.Obj b) there)
fields_paired pairs [] [] (w ∷ ws) b h there = absurd h
fields_paired pairs [] (v ∷ vs) ws b h there = absurd h
fields_paired pairs (f ∷ fs) [] ws b h there = absurd h
fields_paired pairs (f ∷ fs) (v ∷ vs) [] b h there = absurd h
fields_paired pairs (f ∷ fs) (v ∷ vs) (w ∷ ws) b h there = elim (Contains-cases (Held.Obj b) w ws there) [
  | inl is ↦ field_pair (is_left_empty f) pairs f.kind v w b is h.0
  | inr later ↦ fields_paired pairs fs vs ws b h.1 later
]

items_paired : (pairs : List (ℕ × ℕ)) (vs ws : List Value) (b : ℕ) → EachCorresponds pairs vs ws → Contains ws (Held.Obj b) → IsPaired pairs b
items_paired pairs [] [] b h there = absurd (Contains-none (Held.Obj b) there)
items_paired pairs [] (w ∷ ws) b h there = absurd h
items_paired pairs (v ∷ vs) [] b h there = absurd h
items_paired pairs (v ∷ vs) (w ∷ ws) b h there = elim (Contains-cases (Held.Obj b) w ws there) [
  | inl is ↦ corresponding_pair pairs v b (subst (λ (u : Value). Corresponds pairs v u) is h.0)
  | inr later ↦ items_paired pairs vs ws b h.1 later
]

pub good_copy : (new : HeapContent) (classes : List ClassRecord) (to : DomainId) (pairs : List (ℕ × ℕ)) (object copy : Object)
    → IsLaidOut classes object → HasShapeClasses classes (shape_of object) → IsCopied classes pairs object copy
    → ((b : ℕ) → IsPaired pairs b → IsName new to b) → IsGood new classes to copy
good_copy new classes to pairs (Plain c vs) (Plain d ws) laid has h named =
    let fields : (k : ClassId) → c ≡ k → AreOfFields (field_records classes k) ws =
    λ k is. subst (λ (e : ClassId). AreOfFields (field_records classes e) ws) is
    (copied_of_fields pairs (field_records classes c) vs ws laid h.1) in
    record {
      laid_out = fields d h.0;
      has_classes = subst (λ (e : ClassId). HasShapeClasses classes (Of.Plain e)) h.0 has;
      named = λ b there. named b (fields_paired pairs (field_records classes c) vs ws b h.1 there);
    }
good_copy new classes to pairs (Array t vs) (Array u ws) laid has h named = record {
  laid_out = tt;
  has_classes = subst (λ (e : TypeRef). HasShapeClasses classes (Of.Array e 0)) h.0 has;
  named = λ b there. named b (items_paired pairs vs ws b h.1 there);
}
good_copy new classes to pairs (Text units) (Text others) laid has h named =
    record { laid_out = tt; has_classes = tt; named = λ b there. absurd (Contains-none (Held.Obj b) there) }
good_copy new classes to pairs (Task s) (Task t) laid has h named =
    record { laid_out = tt; has_classes = tt; named = λ b there. absurd (Contains-none (Held.Obj b) there) }
good_copy new classes to pairs object copy laid has h named = absurd h

-- ---- What a copy follows.

kept_by : (t : Bool) (v w : Value) (kept vs : List Value) → (Contains kept w → Contains vs w) → Contains (cond t kept (v ∷ kept)) w
    → Contains (v ∷ vs) w
kept_by true v w kept vs later there = Contains-there w v vs (later there)
kept_by false v w kept vs later there = elim (Contains-cases w v kept there) [
  | inl same ↦ subst (λ (u : Value). Contains (v ∷ vs) u) same (Contains-here v vs)
  | inr further ↦ Contains-there w v vs (later further)
]

kept_within : (fs : List FieldRecord) (vs : List Value) (w : Value) → Contains (kept_values fs vs) w → Contains vs w
kept_within [] vs w there = absurd (Contains-none w there)
kept_within (f ∷ fs) [] w there = absurd (Contains-none w there)
kept_within (f ∷ fs) (v ∷ vs) w there = kept_by (is_left_empty f) v w (kept_values fs vs) vs (kept_within fs vs w) there

pub followed_within : (classes : List ClassRecord) (object : Object) (w : Value) → Contains (followed classes object) w → Contains (values_of object) w
followed_within classes (Plain c values) w there = kept_within (field_records classes c) values w there
followed_within classes (Array t items) w there = there
followed_within classes (Text units) w there = there
followed_within classes (Task s) w there = there
