-- Two lists of records that agree at a class but for its links say the same of its members, its flags and its package, and of
-- what is directly above it.
use Rattle.std.proofs.Common.{◌≡◌, ℕ, IsTrue, List, [], ◌∷◌, map, filter, Option, Some, None, slice_get, refl, sym, ap, subst, ◌∙◌}
use Rattle.std.specs.Prelude.{option_map}
use Rattle.std.specs.List.{enumerate_from}
use Rattle.std.specs.Option.{option_map_or}
use Rattle.std.proofs.lemmas.Option.{same_Some}
use Rattle.jk_model.specs.Flags.{has, INTERFACE}
use Rattle.jk_model.specs.declared.identifiers.ClassId.{ClassId}
use Rattle.jk_model.specs.declared.identifiers.MemberId.{MemberId}
use Rattle.jk_model_classes.specs.declared.records.ClassRecord.{ClassRecord}
use Rattle.jk_model_classes.specs.declared.records.FieldRecord.{FieldRecord}
use Rattle.jk_model_classes.specs.declared.records.MethodRecord.{MethodRecord}
use Rattle.jk_model_classes.specs.declared.records.Member.{Member}
use Rattle.jk_model_classes.specs.declared.records.Member.TheVariants.{Field, Method}
use Rattle.jk_model_classes.specs.Classes.{record_of, parents_of, listed_interfaces, is_interface_record, IsInterface}
use Rattle.jk_model_classes.specs.Layouts.{InstanceField, is_instance_field, own_fields, type_words}
use Rattle.class_growth.specs.OtherLinks.{without_links}
use Rattle.jk_model_classes.specs.Lookups.{FieldIs, MethodIs, FlagsAre, AreInOnePackage, IsPackageOf, class_of}

-- both lists have the same record at this number but for its links, or both have none
abbrev pub AgreeAt : List ClassRecord → List ClassRecord → ClassId → Type 0
AgreeAt a b c = option_map without_links (record_of a c) ≡ option_map without_links (record_of b c)

pub agree-from_same : (a b : List ClassRecord) (c : ClassId) → record_of a c ≡ record_of b c → AgreeAt a b c
agree-from_same a b c e = ap (option_map without_links) e

-- ---- The record itself.

record_in : (o : Option ClassRecord) (r : ClassRecord) → Some (without_links r) ≡ option_map without_links o
    → (q : ClassRecord) × (o ≡ Some q) × (without_links r ≡ without_links q)
record_in None r e = absurd cc
record_in (Some q) r e = (q, refl, same_Some (without_links r) (without_links q) e)

module _ (a b : List ClassRecord) (c : ClassId) (agree : AgreeAt a b c) where
  pub record-there : (r : ClassRecord) → record_of a c ≡ Some r
      → (q : ClassRecord) × (record_of b c ≡ Some q) × (without_links r ≡ without_links q)
  record-there r is = record_in (record_of b c) r (sym (ap (option_map without_links) is) ∙ agree)

  pub is_interface-there : IsInterface a c → IsInterface b c
  is_interface-there (r, is, flag) =
      let there = record-there r is in
      (there.0, there.1, subst (λ n. IsTrue (has n INTERFACE)) (ap (λ (x : ClassRecord). x.flags) there.2) flag)

  -- what doesn't read links is the same
  pub says : {X : Type 0} (say : Option ClassRecord → X) → ((o : Option ClassRecord) → say o ≡ say (option_map without_links o))
      → say (record_of a c) ≡ say (record_of b c)
  says say blind = blind (record_of a c) ∙ ap say agree ∙ sym (blind (record_of b c))

  pub is_interface-agree : is_interface_record (record_of a c) ≡ is_interface_record (record_of b c)
  is_interface-agree =
      says is_interface_record (λ o. elim o as (λ o. is_interface_record o ≡ is_interface_record (option_map without_links o)) [ None ↦ refl | Some r ↦ refl ])

  abbrev parents_in : Option ClassRecord → List ClassId
  parents_in o = option_map_or (λ (r : ClassRecord). option_map_or (λ p. p ∷ []) r.parent []) o []

  abbrev interfaces_in : Option ClassRecord → List ClassId
  interfaces_in o = option_map_or (λ (r : ClassRecord). r.interfaces) o []

  pub parents-agree : parents_of a c ≡ parents_of b c
  parents-agree =
      says parents_in (λ o. elim o as (λ o. parents_in o ≡ parents_in (option_map without_links o)) [ None ↦ refl | Some r ↦ refl ])

  pub interfaces-agree : listed_interfaces a c ≡ listed_interfaces b c
  interfaces-agree =
      says interfaces_in (λ o. elim o as (λ o. interfaces_in o ≡ interfaces_in (option_map without_links o)) [ None ↦ refl | Some r ↦ refl ])

  abbrev fields_in : Option ClassRecord → List InstanceField
  fields_in o =
      option_map_or
      (λ (r : ClassRecord). map
      (λ (p : ℕ × FieldRecord). record { member = record { class = c; index = p.0 }; words = type_words p.1.kind })
      (filter is_instance_field (enumerate_from 0 r.fields)))
      o []

  pub own_fields-agree : own_fields a c ≡ own_fields b c
  own_fields-agree =
      says fields_in
      (λ o. elim o as (λ o. fields_in o ≡ fields_in (option_map without_links o)) [ None ↦ refl | Some r ↦ refl ])

-- ---- Members.

module _ (a b : List ClassRecord) (m : MemberId) (agree : AgreeAt a b m.class) where
  pub field-there : (field : FieldRecord) → FieldIs a m field → FieldIs b m field
  field-there field (r, is, at) =
      let there = record-there a b m.class agree r is in
      (there.0, there.1, subst (λ (fields : List FieldRecord). slice_get fields m.index ≡ Some field) (ap (λ (x : ClassRecord). x.fields) there.2) at)

  pub method-there : (method : MethodRecord) → MethodIs a m method → MethodIs b m method
  method-there method (r, is, at) =
      let there = record-there a b m.class agree r is in
      (there.0, there.1, subst (λ (methods : List MethodRecord). slice_get methods m.index ≡ Some method) (ap (λ (x : ClassRecord). x.methods) there.2) at)

pub flags-there : (a b : List ClassRecord) (member : Member) (flags : ℕ) → AgreeAt a b (class_of member) → FlagsAre a member flags
    → FlagsAre b member flags
flags-there a b (Field m) flags agree (field, is, e) = (field, field-there a b m agree field is, e)
flags-there a b (Method m) flags agree (method, is, e) = (method, method-there a b m agree method is, e)

-- ---- Packages.

pub package-there : (a b : List ClassRecord) (c d : ClassId) → AgreeAt a b c → AgreeAt a b d → AreInOnePackage a c d → AreInOnePackage b c d
package-there a b c d at_c at_d one =
    let of_c = record-there a b c at_c one.of_a one.a_is in
    let of_d = record-there a b d at_d one.of_b one.b_is in
    record {
      of_a = of_c.0;
      a_is = of_c.1;
      of_b = of_d.0;
      b_is = of_d.1;
      prefix = one.prefix;
      a_in = subst (λ name. IsPackageOf name one.prefix) (ap (λ (x : ClassRecord). x.name) of_c.2) one.a_in;
      b_in = subst (λ name. IsPackageOf name one.prefix) (ap (λ (x : ClassRecord). x.name) of_d.2) one.b_in;
      home = sym (ap (λ (x : ClassRecord). x.home) of_c.2) ∙ one.home ∙ ap (λ (x : ClassRecord). x.home) of_d.2;
    }
