-- A field of a class, or of one above it, has a place among the values of an object of the class.
use Rattle.std.proofs.Common.{inl, inr, ◌≡◌, ℕ, zero, suc, ◌+◌, ◌==◌, ◌&&◌, ◌<◌, ◌≤◌, Bool, true, false, not, cond, List, [], ◌∷◌, length, map, filter, flat_map, Contains, Option, Some, None, slice_get, refl, sym, ap, subst, ◌∙◌, arith}
use Rattle.std.specs.Prelude.{IsFalse, position}
use Rattle.std.specs.List.{enumerate_from, position_or_len}
use Rattle.std.specs.Option.{option_map_or}
use Rattle.std.proofs.lemmas.Bool.{eq-eqb, lt-ltb}
use Rattle.std.proofs.lemmas.List.{length-append}
use Rattle.std.proofs.lemmas.List.Elements.{Contains-append_left, Contains-append_right}
use Rattle.std.proofs.lemmas.Option.{same_Some, slice_get_within}
use Rattle.list_lemmas.proofs.ItemsByPlace.{item_there}
use Rattle.list_lemmas.proofs.ItemsOfLists.{Contains-cases, Contains-flat_map, Contains-flat_map_from, Contains-here, Contains-none, Contains-there, place_of}
use Rattle.jk_model.specs.Flags.{has, STATIC}
use Rattle.jk_model.specs.declared.identifiers.ClassId.{ClassId}
use Rattle.jk_model.specs.declared.identifiers.MemberId.{MemberId}
use Rattle.jk_model.specs.declared.values.Value.{Value}
use Rattle.jk_model.specs.declared.values.Value.TheVariants as Held
use Rattle.jk_model_classes.specs.declared.records.ClassRecord.{ClassRecord}
use Rattle.jk_model_classes.specs.declared.records.FieldRecord.{FieldRecord}
use Rattle.jk_model_classes.specs.Classes.{IsSubclass, parents_of, record_of, superclasses_within}
use Rattle.jk_model_classes.specs.Layouts.{InstanceField, fields_within, instance_fields, is_instance_field, own_fields, type_words}
use Rattle.jk_model_classes.specs.Lookups.{FieldIs}
use Rattle.jk_model_domains.specs.Objects.{NamedObject, Plain, object_named}
use Rattle.jk_model_heaps.specs.Heaps.{field_records_within, own_field_records}
use Rattle.jk_model_heap_rows.specs.FieldRows.{HasField, is_field}
use Rattle.jk_model_sealing.specs.SealedInsides.{HasFields, Surroundings}

-- ---- The first item that passes a test.

passes_by : {X : Type 0} (p : X → Bool) (y : X) (xs : List X) (b : Bool) → p y ≡ b → (k : ℕ) (x : X) → slice_get (y ∷ xs) k ≡ Some x
    → p x ≡ true
    → ((j : ℕ) → slice_get xs j ≡ Some x → position_or_len p xs ≤ j) → cond (not b) (1 + position_or_len p xs) 0 ≤ k
passes_by p y xs true e k x at holds rest = omega arith
passes_by p y xs false e zero x at holds rest =
    let same : p y ≡ true = ap p (same_Some y x at) ∙ holds in let both : false ≡ true = sym e ∙ same in absurd cc
passes_by p y xs false e (suc k) x at holds rest = let low = rest k at in omega (arith, low)

first_at : {X : Type 0} (p : X → Bool) (xs : List X) (k : ℕ) (x : X) → slice_get xs k ≡ Some x → p x ≡ true → position_or_len p xs ≤ k
first_at p [] k x at holds = absurd cc
first_at p (y ∷ xs) k x at holds = passes_by p y xs (p y) refl k x at holds (λ j later. first_at p xs j x later holds)

position_there : {X : Type 0} (p : X → Bool) (xs : List X) (x : X) → Contains xs x → p x ≡ true
    → (k : ℕ) × (position p xs ≡ Some k) × (k < length xs)
position_there p xs x has holds =
    let at = place_of xs x has in
    let low : position_or_len p xs < length xs = omega (arith, first_at p xs at.0 x at.1 holds, slice_get_within xs at.0 x at.1) in (
      position_or_len p xs,
      ap (λ (b : Bool). cond b (Some (position_or_len p xs)) None) (lt-ltb (position_or_len p xs) (length xs) low),
      low,
    )

-- ---- A class's own fields.

abbrev pub as_field : ClassId → ℕ × FieldRecord → InstanceField
as_field c p = record { member = record { class = c; index = p.0 }; words = type_words p.1.kind }

abbrev pub at_member : ClassId → ℕ → FieldRecord → InstanceField
at_member c n f = as_field c (n, f)

own_here : (c : ClassId) (n : ℕ) (f : FieldRecord) (ps : List (ℕ × FieldRecord)) (b : Bool) → b ≡ true
    → Contains (map (as_field c) (cond b ((n, f) ∷ ps) ps)) (at_member c n f)
own_here c n f ps true e = Contains-here (at_member c n f) (map (as_field c) ps)
own_here c n f ps false e = absurd cc

own_there : (c : ClassId) (g : InstanceField) (p : ℕ × FieldRecord) (ps : List (ℕ × FieldRecord)) (b : Bool) → Contains (map (as_field c) ps) g
    → Contains (map (as_field c) (cond b (p ∷ ps) ps)) g
own_there c g p ps true has = Contains-there g (as_field c p) (map (as_field c) ps) has
own_there c g p ps false has = has

own_from : (c : ClassId) (fs : List FieldRecord) (k j : ℕ) (f : FieldRecord) → slice_get fs j ≡ Some f → not (has f.flags STATIC) ≡ true
    → Contains (map (as_field c) (filter is_instance_field (enumerate_from k fs))) (at_member c (k + j) f)
own_from c [] k j f at plain = absurd cc
own_from c (e ∷ fs) k zero f at plain =
    let same : e ≡ f = same_Some e f at in
    let here = own_here c k e (filter is_instance_field (enumerate_from (k + 1) fs)) (not (has e.flags STATIC))
    (ap (λ (x : FieldRecord). not (has x.flags STATIC)) same ∙ plain) in
    let number : k ≡ k + 0 = omega arith in
    subst (λ (n : ℕ). Contains (map (as_field c) (filter is_instance_field (enumerate_from k (e ∷ fs)))) (at_member c n f)) number
    (subst (λ (x : FieldRecord). Contains (map (as_field c) (filter is_instance_field (enumerate_from k (e ∷ fs)))) (at_member c k x)) same here)
own_from c (e ∷ fs) k (suc j) f at plain =
    let number : k + 1 + j ≡ k + suc j = omega arith in
    own_there c (at_member c (k + suc j) f) (k, e) (filter is_instance_field (enumerate_from (k + 1) fs)) (not (has e.flags STATIC))
    (subst (λ (n : ℕ). Contains (map (as_field c) (filter is_instance_field (enumerate_from (k + 1) fs))) (at_member c n f)) number
    (own_from c fs (k + 1) j f at plain))

-- ---- With those of the classes above.

module _ (classes : List ClassRecord) where
  own_has : (m : MemberId) (field : FieldRecord) → FieldIs classes m field → not (has field.flags STATIC) ≡ true
      → Contains (own_fields classes m.class) (at_member m.class m.index field)
  own_has m field (r, is, at) plain =
      let number : 0 + m.index ≡ m.index = omega arith in
      subst
      (λ (o : Option ClassRecord). Contains (option_map_or (λ (x : ClassRecord). map (as_field m.class)
      (filter is_instance_field (enumerate_from 0 x.fields))) o []) (at_member m.class m.index field)) (sym is)
      (subst (λ (n : ℕ). Contains (map (as_field m.class) (filter is_instance_field (enumerate_from 0 r.fields))) (at_member m.class n field)) number
      (own_from m.class r.fields 0 m.index field at plain))

  above_has : (h : ℕ) (c d : ClassId) (g : InstanceField) → Contains (superclasses_within h classes c) d → Contains (own_fields classes d) g
      → Contains (fields_within h classes c) g
  above_has zero c d g up own = absurd (Contains-none d up)
  above_has (suc h) c d g up own =
      elim (Contains-cases d c (flat_map (superclasses_within h classes) (parents_of classes c)) up) [
        | inl same ↦
            Contains-append_right (flat_map (fields_within h classes) (parents_of classes c)) (own_fields classes c) g
            (subst (λ (x : ClassId). Contains (own_fields classes x) g) (sym same) own)
        | inr above ↦
            let from = Contains-flat_map_from (superclasses_within h classes) (parents_of classes c) d above in
            Contains-append_left (flat_map (fields_within h classes) (parents_of classes c)) (own_fields classes c) g
            (Contains-flat_map (fields_within h classes) (parents_of classes c) from.0 g from.1 (above_has h from.0 d g from.2 own))
      ]

  -- the field is one of an object's
  pub field_listed : (c : ClassId) (m : MemberId) (field : FieldRecord) → FieldIs classes m field → IsFalse (has field.flags STATIC)
      → IsSubclass classes c m.class → Contains (instance_fields classes c) (at_member m.class m.index field)
  field_listed c m field is plain up =
      above_has (c.0 + 1) c m.class (at_member m.class m.index field) up (own_has m field is (ap not plain))

  -- ---- An object has as many values as fields.

  abbrev is_plain : FieldRecord → Bool
  is_plain f = not (has f.flags STATIC)

  abbrev listed : ClassId → ℕ → List FieldRecord → List InstanceField
  listed c k fs = map (as_field c) (filter is_instance_field (enumerate_from k fs))

  one_more : (c : ClassId) (k : ℕ) (f : FieldRecord) (ps : List (ℕ × FieldRecord)) (fs : List FieldRecord) (b : Bool)
      → length (map (as_field c) ps) ≡ length fs → length (map (as_field c) (cond b ((k, f) ∷ ps) ps)) ≡ length (cond b (f ∷ fs) fs)
  one_more c k f ps fs true same = ap suc same
  one_more c k f ps fs false same = same

  own_count : (c : ClassId) (fs : List FieldRecord) (k : ℕ) → length (listed c k fs) ≡ length (filter is_plain fs)
  own_count c [] k = refl
  own_count c (f ∷ fs) k =
      one_more c k f (filter is_instance_field (enumerate_from (k + 1) fs)) (filter is_plain fs) (is_plain f) (own_count c fs (k + 1))

  own_counts : (c : ClassId) (o : Option ClassRecord)
      → length (option_map_or (λ (r : ClassRecord). map (as_field c) (filter is_instance_field (enumerate_from 0 r.fields))) o [])
      ≡ length (option_map_or (λ (r : ClassRecord). filter is_plain r.fields) o [])
  own_counts c None = refl
  own_counts c (Some r) = own_count c r.fields 0

  flat_counts : (f : ClassId → List InstanceField) (g : ClassId → List FieldRecord) (ps : List ClassId) → ((p : ClassId) → length (f p) ≡ length (g p))
      → length (flat_map f ps) ≡ length (flat_map g ps)
  flat_counts f g [] each = refl
  flat_counts f g (p ∷ ps) each =
      length-append (f p) (flat_map f ps)
      ∙ ap (λ (n : ℕ). n + length (flat_map f ps)) (each p) ∙ ap (λ (n : ℕ). length (g p) + n) (flat_counts f g ps each)
      ∙ sym (length-append (g p) (flat_map g ps))

  as_many : (h : ℕ) (c : ClassId) → length (fields_within h classes c) ≡ length (field_records_within h classes c)
  as_many zero c = refl
  as_many (suc h) c =
      length-append (flat_map (fields_within h classes) (parents_of classes c)) (own_fields classes c)
      ∙ ap (λ (n : ℕ). n + length (own_fields classes c))
      (flat_counts (fields_within h classes) (field_records_within h classes) (parents_of classes c) (as_many h))
      ∙ ap (λ (n : ℕ). length (flat_map (field_records_within h classes) (parents_of classes c)) + n) (own_counts c (record_of classes c))
      ∙ sym (length-append (flat_map (field_records_within h classes) (parents_of classes c)) (own_field_records classes c))

both_true : (a b : Bool) → a ≡ true → b ≡ true → (a && b) ≡ true
both_true true b p q = q
both_true false b p q = absurd cc

pub has_field : (around : Surroundings) (heap : List NamedObject) (a : ℕ) (c : ClassId) (values : List Value) (m : MemberId) (field : FieldRecord)
    → object_named heap a ≡ Some (Plain c values) → HasFields around heap c values → FieldIs around.classes m field
    → IsFalse (has field.flags STATIC) → IsSubclass around.classes c m.class → HasField around.classes heap (Held.Obj a) m
has_field around heap a c values m field object fields is plain up =
    let listed = field_listed around.classes c m field is plain up in
    let here : is_field m (at_member m.class m.index field) ≡ true =
    both_true (m.class.0 == m.class.0) (m.index == m.index) (eq-eqb m.class.0 m.class.0 refl) (eq-eqb m.index m.index refl) in
    let place = position_there (is_field m) (instance_fields around.classes c) (at_member m.class m.index field) listed here in
    let value = item_there values place.0 (omega (arith, place.2, fields.as_many, as_many around.classes (c.0 + 1) c)) in
    record {
      name = a;
      refers = refl;
      class = c;
      fields = values;
      object = object;
      place = place.0;
      is_place = place.1;
      value = value.0;
      is_value = value.1;
    }
