-- Each descriptor of the table is that of a type that a record has: of one of a few, which all are known.
use Rattle.std.proofs.Common.{◌≡◌, ℕ, ◌<◌, ◌^◌, ◌&&◌, List, length, refl, sym, ap, arith, Bool, true, false, nat_lt, Option, Some, None, bytes_eq, is_some, ltb-true}
use Rattle.std.specs.List.{list_all, AllByRecursion}
use Rattle.std.proofs.lemmas.Bool.{and_parts}
use Rattle.std.proofs.lemmas.Slice.Eq.{bytes_eq-Decides}
use Rattle.jk_model.proofs.EachItem.{all_from_test}
use Rattle.jk_model.specs.Descriptors.{IsFieldType, IsMethodType, field_text, method_text}
use Rattle.jk_model.specs.SystemTable.{number_named}
use Rattle.jk_model.specs.declared.descriptors.Base.{Base}
use Rattle.jk_model.specs.declared.descriptors.Base.TheVariants.{Byte, Char, Double, Float, Int, Long, Short, Bool as Boolean, Class as Named}
use Rattle.jk_model.specs.declared.descriptors.FieldType.{FieldType}
use Rattle.jk_model.specs.declared.descriptors.MethodType.{MethodType}
use Rattle.system_table.specs.Laws.{Class, IsAt}
use Rattle.system_table.proofs.DescriptorsAreTypes.{one_of, field_type, method_type, is_field_type, is_method_type, field_types, method_types, is_field_descriptor, is_method_descriptor}
use Rattle.system_table.proofs.LawsOfTheTable.{each}
use Rattle.system_records.specs.KnownTypes.{IsKnownBase, IsKnownType, AreKnownTypes, IsKnownResult, IsKnownField, IsKnownMethod}
use Rattle.system_records.proofs.ClassesByName.{has_class}

-- ---- Types without float and double, of classes of the table.

abbrev pub is_known_base : Base → Bool
is_known_base Double = false
is_known_base Float = false
is_known_base (Named name) = is_some (number_named name)
is_known_base _ = true

known_base : (base : Base) → is_known_base base ≡ true → IsKnownBase base
known_base Double h = absurd cc
known_base Float h = absurd cc
known_base (Named name) h = has_class name h
known_base Byte h = tt
known_base Char h = tt
known_base Int h = tt
known_base Long h = tt
known_base Short h = tt
known_base Boolean h = tt

abbrev pub is_known_type : FieldType → Bool
is_known_type t = is_known_base t.base

known_type : (t : FieldType) → is_known_type t ≡ true → IsKnownType t
known_type t h = known_base t.base h

abbrev pub is_known_result : Option FieldType → Bool
is_known_result None = true
is_known_result (Some t) = is_known_type t

known_result : (r : Option FieldType) → is_known_result r ≡ true → IsKnownResult r
known_result None h = tt
known_result (Some t) h = known_type t h

-- ---- The types of the table's fields.

abbrev pub is_short : List ℕ → Bool
is_short units = nat_lt (length units) 128

short_units : (units : List ℕ) → is_short units ≡ true → length units < 2 ^ 31
short_units units h =
    let few : length units < 128 = ltb-true (length units) 128 h in
    omega (arith, few)

pub record IsOfField (t : FieldType) : Type 0 where
  pub is : IsFieldType t
  pub known : IsKnownType t
  pub short : length (field_text t) < 2 ^ 31

abbrev pub is_of_field : FieldType → Bool
is_of_field t = is_field_type t && (is_known_type t && is_short (field_text t))

of_field : (t : FieldType) → is_of_field t ≡ true → IsOfField t
of_field t h =
    let one = and_parts (is_field_type t) (is_known_type t && is_short (field_text t)) h in
    let two = and_parts (is_known_type t) (is_short (field_text t)) one.1 in
    record { is = field_type t one.0; known = known_type t two.0; short = short_units (field_text t) two.1 }

known_field : (units : List ℕ) → is_field_descriptor units ≡ true → IsKnownField units
known_field units h =
    let (t, of, same) = one_of IsOfField (λ t. bytes_eq (field_text t) units) field_types (all_from_test IsOfField is_of_field of_field field_types refl) h in
    let text : units ≡ field_text t = sym ((bytes_eq-Decides (field_text t) units).0 same) in
    let long : length units ≡ length (field_text t) = ap (λ us. length us) text in
    record { short = rw long of.short; type = t; text = (of.is, text); known = of.known }

-- ---- The types of its methods.

pub record IsOfMethod (m : MethodType) : Type 0 where
  pub is : IsMethodType m
  pub params : AreKnownTypes m.params
  pub answer : IsKnownResult m.result
  pub short : length (method_text m) < 2 ^ 31

abbrev pub is_of_method : MethodType → Bool
is_of_method m = is_method_type m && (list_all is_known_type m.params && (is_known_result m.result && is_short (method_text m)))

of_method : (m : MethodType) → is_of_method m ≡ true → IsOfMethod m
of_method m h =
    let one = and_parts (is_method_type m) (list_all is_known_type m.params && (is_known_result m.result && is_short (method_text m))) h in
    let two = and_parts (list_all is_known_type m.params) (is_known_result m.result && is_short (method_text m)) one.1 in
    let three = and_parts (is_known_result m.result) (is_short (method_text m)) two.1 in
    record {
      is = method_type m one.0;
      params = all_from_test IsKnownType is_known_type known_type m.params two.0;
      answer = known_result m.result three.0;
      short = short_units (method_text m) three.1;
    }

known_method : (units : List ℕ) → is_method_descriptor units ≡ true → IsKnownMethod units
known_method units h =
    let (m, of, same) =
    one_of IsOfMethod (λ m. bytes_eq (method_text m) units) method_types (all_from_test IsOfMethod is_of_method of_method method_types refl) h in
    let text : units ≡ method_text m = sym ((bytes_eq-Decides (method_text m) units).0 same) in
    let long : length units ≡ length (method_text m) = ap (λ us. length us) text in
    record { short = rw long of.short; type = m; text = (of.is, text); params = of.params; result = of.answer }

-- ---- The table.

pub known_fields : (n : ℕ) (e : Class) → IsAt e n → AllByRecursion (λ f. IsKnownField f.descriptor) e.fields
known_fields n e at =
    all_from_test (λ f. IsKnownField f.descriptor) (λ f. is_field_descriptor f.descriptor) (λ f. known_field f.descriptor) e.fields
    (each (λ _ d. list_all (λ f. is_field_descriptor f.descriptor) d.fields) refl n e at)

pub known_methods : (n : ℕ) (e : Class) → IsAt e n → AllByRecursion (λ m. IsKnownMethod m.descriptor) e.methods
known_methods n e at =
    all_from_test (λ m. IsKnownMethod m.descriptor) (λ m. is_method_descriptor m.descriptor) (λ m. known_method m.descriptor) e.methods
    (each (λ _ d. list_all (λ m. is_method_descriptor m.descriptor) d.methods) refl n e at)

abbrev pub has_few_members : Class → Bool
has_few_members e = nat_lt (length e.fields) 16 && nat_lt (length e.methods) 16

-- a class has fewer than 16 fields, and as few methods
pub few_members : (n : ℕ) (e : Class) → IsAt e n → (length e.fields < 16) × (length e.methods < 16)
few_members n e at =
    let both = and_parts (nat_lt (length e.fields) 16) (nat_lt (length e.methods) 16) (each (λ _ d. has_few_members d) refl n e at) in
    (ltb-true (length e.fields) 16 both.0, ltb-true (length e.methods) 16 both.1)
