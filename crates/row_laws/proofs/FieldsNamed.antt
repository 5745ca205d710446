-- The fields that instructions name: where their classes stand, which objects have them, and which static fields a domain has.
use Rattle.std.proofs.Common.{inl, inr, ◌≡◌, ◌⊎◌, ℕ, zero, suc, ◌+◌, ◌<◌, true, false, List, [], ◌∷◌, length, flat_map, Contains, Option, Some, None, refl, sym, ap, subst, ◌∙◌, arith}
use Rattle.std.specs.Prelude.{IsFalse, IsTrue}
use Rattle.std.specs.Option.{option_map_or}
use Rattle.list_lemmas.proofs.ItemsOfLists.{Contains-cases, Contains-flat_map_from, Contains-none}
use Rattle.jk_model.specs.Flags.{has, STATIC}
use Rattle.jk_model.specs.SystemTable.{system_classes}
use Rattle.jk_model.specs.declared.identifiers.CapId.{CapId}
use Rattle.jk_model.specs.declared.identifiers.ClassId.{ClassId}
use Rattle.jk_model.specs.declared.identifiers.MemberId.{MemberId}
use Rattle.jk_model.specs.declared.values.Value.{Value}
use Rattle.jk_model.specs.declared.values.Value.TheVariants as Held
use Rattle.jk_model_classes.specs.declared.records.BaseRef.{BaseRef}
use Rattle.jk_model_classes.specs.declared.records.BaseRef.TheVariants as Base
use Rattle.jk_model_classes.specs.declared.records.ClassRecord.{ClassRecord}
use Rattle.jk_model_classes.specs.declared.records.FieldRecord.{FieldRecord}
use Rattle.jk_model_classes.specs.declared.records.TypeRef.{TypeRef}
use Rattle.jk_model_classes.specs.Classes.{IsInterface, IsSubclass, OBJECT, field_walk, is_interface_record, listed_interfaces, own_interfaces, record_of, superclasses, with_interfaces, with_interfaces_within}
use Rattle.jk_model_classes.specs.Layouts.{InstanceField, instance_fields}
use Rattle.jk_model_classes.specs.Lookups.{FieldIs}
use Rattle.jk_model_typing.specs.FrameTypes.{RefFits, STRING, array_type, erased_class}
use Rattle.jk_model_domains.specs.Objects.{Object, Array, Plain, Task, Text, CAPABILITY, TASK, class_type, object_named, type_of}
use Rattle.jk_model_heap_rows.specs.FieldRows.{HasField}
use Rattle.jk_model_sealing.specs.SealedInsides.{IsSealedInside, Surroundings}
use Rattle.class_table.proofs.StandingAbove.{is-own_superclass, superclasses-trans}
use Rattle.heap_laws.proofs.ObjectsAfterChanges.{found_stands}
use Rattle.jk_model_heaps.specs.Heaps.{named}
use Rattle.jk_model_heaps.specs.Workings.{Inside}
use Rattle.heap_laws.specs.SoundCodes.{AreSoundCodes}
use Rattle.system_facts.specs.SystemLayouts.{listed_fields}
use Rattle.system_facts.proofs.FieldsListed.{fields_listed}
use Rattle.row_laws.proofs.ElementsOfArrays.{read_below}
use Rattle.row_laws.proofs.SystemParents.{numbered}
use Rattle.row_laws.proofs.FieldsOfObjects.{at_member, field_listed, has_field}

-- ---- Interfaces on the way up.

module _ (classes : List ClassRecord) (sound : AreSoundCodes classes) where
  listed_by : (c i : ClassId) (o : Option ClassRecord) → record_of classes c ≡ o
      → Contains (option_map_or (λ (r : ClassRecord). r.interfaces) o []) i → IsInterface classes i
  listed_by c i None is has = absurd (Contains-none i has)
  listed_by c i (Some r) is has = sound.listed_interfaces c i r is has

  listed_is : (c i : ClassId) → Contains (listed_interfaces classes c) i → IsInterface classes i
  listed_is c i has = listed_by c i (record_of classes c) refl has

  above_is : (h : ℕ) (i e : ClassId) → IsInterface classes i → Contains (with_interfaces_within h classes i) e → IsInterface classes e
  above_is zero i e is has = absurd (Contains-none e has)
  above_is (suc h) i e is has =
      elim (Contains-cases e i (flat_map (with_interfaces_within h classes) (listed_interfaces classes i)) has) [
        | inl same ↦ subst (IsInterface classes) same is
        | inr later ↦
            let from = Contains-flat_map_from (with_interfaces_within h classes) (listed_interfaces classes i) e later in
            above_is h from.0 e (listed_is i from.0 from.1) from.2
      ]

  own_is : (c e : ClassId) → Contains (own_interfaces classes c) e → IsInterface classes e
  own_is c e has =
      let from = Contains-flat_map_from (with_interfaces classes) (listed_interfaces classes c) e has in
      above_is (from.0.0 + 1) from.0 e (listed_is c from.0 from.1) from.2

  -- the class of a field that is found stands above, or is an interface
  walk_cases : (c d : ClassId) → Contains (field_walk classes c) d → IsSubclass classes c d ⊎ IsInterface classes d
  walk_cases c d has =
      let from = Contains-flat_map_from (λ (e : ClassId). e ∷ own_interfaces classes e) (superclasses classes c) d has in
      elim (Contains-cases d from.0 (own_interfaces classes from.0) from.2) [
        | inl same ↦ inl (subst (IsSubclass classes c) same from.1)
        | inr later ↦ inr (own_is from.0 d later)
      ]

  -- objects of these system classes have no fields
  none_listed : (n : ℕ) (m : MemberId) (field : FieldRecord) → n < length system_classes → listed_fields n ≡ [] → FieldIs classes m field
      → IsFalse (has field.flags STATIC) → IsSubclass classes (numbered n) m.class → ⊥
  none_listed n m field low none is plain up =
      let there = field_listed classes (numbered n) m field is plain up in
      let empty : instance_fields classes (numbered n) ≡ [] = fields_listed classes sound.ordered sound.system (numbered n) low ∙ none in
      Contains-none (at_member m.class m.index field)
      (subst (λ (fields : List InstanceField). Contains fields (at_member m.class m.index field)) empty there)

  pub class_below : (d e : ClassId) → RefFits classes (class_type d) (class_type e) → IsSubclass classes d e
  class_below d e (inl same) =
      let base : Base.Class d ≡ Base.Class e = ap (λ (t : TypeRef). t.base) same in
      let one : d ≡ e = cc in
      subst (IsSubclass classes d) one (is-own_superclass classes sound.ordered d)
  class_below d e (inr (inl (dims, up))) = up
  class_below d e (inr (inr (lower, object))) = absurd (omega (arith, lower))

  pub array_above : (dims : ℕ) (base : BaseRef) (e : ClassId) → RefFits classes (array_type (dims + 1) base) (class_type e) → e ≡ OBJECT
  array_above dims base e (inl same) = let count : dims + 1 ≡ 0 = ap (λ (t : TypeRef). t.dims) same in absurd (omega (arith, count))
  array_above dims base e (inr (inl (count, up))) = absurd (omega (arith, count))
  array_above dims base e (inr (inr (lower, object))) = let same : Base.Class e ≡ Base.Class OBJECT = object in cc

-- ---- Receivers.

module _ (around : Surroundings) (sound : AreSoundCodes around.classes) (quota : ℕ) (inside : Inside)
    (sealed : IsSealedInside around quota inside) (m : MemberId) (field : FieldRecord) (is : FieldIs around.classes m field)
    (plain : IsFalse (has field.flags STATIC)) where
  no_interface : IsInterface around.classes m.class → ⊥
  no_interface interface =
      let static : IsTrue (has field.flags STATIC) = sound.interface_fields m field interface is in
      let both : true ≡ false = sym static ∙ plain in
      absurd cc

  -- a plain object of a class below the field's
  plain_has : (a : ℕ) (d : ClassId) (values : List Value) → object_named inside.heap a ≡ Some (Plain d values) → IsSubclass around.classes d m.class
      → HasField around.classes inside.heap (Held.Obj a) m
  plain_has a d values object up =
      let stands = found_stands a (Plain d values) inside.heap object in
      let fields = sealed.objects (named a (Plain d values)) stands in
      has_field around inside.heap a d values m field object fields.5 is plain up

  -- an object that fits a class below the field's
  object_has : (a : ℕ) (o : Object) (e : ClassId) → object_named inside.heap a ≡ Some o → IsSubclass around.classes e m.class
      → RefFits around.classes (type_of o) (class_type e) → HasField around.classes inside.heap (Held.Obj a) m
  object_has a (Plain d values) e object up fits =
      plain_has a d values object (superclasses-trans around.classes sound.ordered d e m.class (class_below around.classes sound d e fits) up)
  object_has a (Array t items) e object up fits =
      absurd (none_listed around.classes sound 0 m field (omega arith) refl is plain
      (subst (λ (c : ClassId). IsSubclass around.classes c m.class) (array_above around.classes sound t.dims t.base e fits) up))
  object_has a (Text units) e object up fits =
      absurd (none_listed around.classes sound 3 m field (omega arith) refl is plain
      (superclasses-trans around.classes sound.ordered STRING e m.class (class_below around.classes sound STRING e fits) up))
  object_has a (Task n) e object up fits =
      absurd (none_listed around.classes sound 14 m field (omega arith) refl is plain
      (superclasses-trans around.classes sound.ordered TASK e m.class (class_below around.classes sound TASK e fits) up))

  no_capability_has : (e : ClassId) → IsSubclass around.classes e m.class → RefFits around.classes (class_type CAPABILITY) (class_type e) → ⊥
  no_capability_has e up fits =
      none_listed around.classes sound 11 m field (omega arith) refl is plain
      (superclasses-trans around.classes sound.ordered CAPABILITY e m.class (class_below around.classes sound CAPABILITY e fits) up)

  -- the class that the entry names, as typing reads it
  named_below : (c : ClassId) → Contains (field_walk around.classes c) m.class → IsSubclass around.classes (erased_class around.classes c) m.class
  named_below c walk = elim (walk_cases around.classes sound c m.class walk) [
    | inl up ↦ read_below around.classes sound c m.class (is_interface_record (record_of around.classes c)) refl no_interface up
    | inr interface ↦ absurd (no_interface interface)
  ]

  pub reference_has : (c : ClassId) (v : Value) → Contains (field_walk around.classes c) m.class
      → (v ≡ Held.Null) ⊎ ((a : ℕ) × (o : Object) × (v ≡ Held.Obj a) × (object_named inside.heap a ≡ Some o)
      × RefFits around.classes (type_of o) (class_type (erased_class around.classes c)))
      ⊎ ((k : CapId) × (v ≡ Held.Cap k) × RefFits around.classes (class_type CAPABILITY) (class_type (erased_class around.classes c)))
      → (v ≡ Held.Null) ⊎ HasField around.classes inside.heap v m
  reference_has c v walk (inl null) = inl null
  reference_has c v walk (inr (inl (a, o, is_object, object, fits))) =
      inr (subst (λ (x : Value). HasField around.classes inside.heap x m) (sym is_object)
      (object_has a o (erased_class around.classes c) object (named_below c walk) fits))
  reference_has c v walk (inr (inr (k, is_cap, fits))) = absurd (no_capability_has (erased_class around.classes c) (named_below c walk) fits)

  -- `this` of a constructor, whose class is the field's own
  pub own_has_field : (a : ℕ) (d : ClassId) (values : List Value) → object_named inside.heap a ≡ Some (Plain d values)
      → IsSubclass around.classes d m.class → HasField around.classes inside.heap (Held.Obj a) m
  own_has_field a d values object up = plain_has a d values object up
