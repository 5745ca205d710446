-- The orders in which members are looked for stay within classes above which all others are within too.
use Rattle.std.proofs.Common.{◌≡◌, ℕ, zero, suc, ◌+◌, inl, inr, Bool, true, false, List, [], ◌∷◌, flat_map, Contains, Option, Some, None, refl, subst, if◌then◌else◌}
use Rattle.std.specs.List.{AllByRecursion}
use Rattle.std.specs.Option.{option_map_or}
use Rattle.std.proofs.lemmas.List.Elements.{Contains-append_cases}
use Rattle.list_lemmas.proofs.ItemsOfLists.{Contains-cases, Contains-none, each-of, Contains-flat_map_from}
use Rattle.jk_model.specs.declared.identifiers.ClassId.{ClassId}
use Rattle.jk_model_classes.specs.declared.records.ClassRecord.{ClassRecord}
use Rattle.jk_model_classes.specs.Classes.{OBJECT, class_method_walk, field_walk, interface_method_walk, is_interface_record, listed_interfaces, method_walk, own_interfaces, parents_of, record_of, superclasses, superclasses_within, with_interfaces, with_interfaces_within}

-- The parent of the class and its interfaces are within.
pub record StandsWithin (P : ClassId → Type 0) (r : ClassRecord) : Type 0 where
  pub parent : (p : ClassId) → r.parent ≡ Some p → P p
  pub interfaces : AllByRecursion P r.interfaces

module _ (P : ClassId → Type 0) where
  one_within : (o : Option ClassId) → ((p : ClassId) → o ≡ Some p → P p) → AllByRecursion P (option_map_or (λ p. p ∷ []) o [])
  one_within None h = tt
  one_within (Some p) h = (h p refl, tt)

  parents_by : (o : Option ClassRecord) → ((r : ClassRecord) → o ≡ Some r → StandsWithin P r)
      → AllByRecursion P (option_map_or (λ (r : ClassRecord). option_map_or (λ p. p ∷ []) r.parent []) o [])
  parents_by None h = tt
  parents_by (Some r) h = one_within r.parent (h r refl).parent

  interfaces_by : (o : Option ClassRecord) → ((r : ClassRecord) → o ≡ Some r → StandsWithin P r)
      → AllByRecursion P (option_map_or (λ (r : ClassRecord). r.interfaces) o [])
  interfaces_by None h = tt
  interfaces_by (Some r) h = (h r refl).interfaces

  module _ (classes : List ClassRecord) (up : (c : ClassId) → P c → (r : ClassRecord) → record_of classes c ≡ Some r → StandsWithin P r) where
    parents-within : (c : ClassId) → P c → AllByRecursion P (parents_of classes c)
    parents-within c within = parents_by (record_of classes c) (up c within)

    interfaces-within : (c : ClassId) → P c → AllByRecursion P (listed_interfaces classes c)
    interfaces-within c within = interfaces_by (record_of classes c) (up c within)

    superclasses_within-within : (h : ℕ) (c d : ClassId) → P c → Contains (superclasses_within h classes c) d → P d
    superclasses_within-within zero c d within on = absurd (Contains-none d on)
    superclasses_within-within (suc h) c d within on =
        elim (Contains-cases d c (flat_map (superclasses_within h classes) (parents_of classes c)) on) [
          | inl same ↦ subst P same within
          | inr above ↦
              let from = Contains-flat_map_from (superclasses_within h classes) (parents_of classes c) d above in
              superclasses_within-within h from.0 d (each-of P (parents_of classes c) from.0 (parents-within c within) from.1) from.2
        ]

    with_interfaces_within-within : (h : ℕ) (c d : ClassId) → P c → Contains (with_interfaces_within h classes c) d → P d
    with_interfaces_within-within zero c d within on = absurd (Contains-none d on)
    with_interfaces_within-within (suc h) c d within on =
        elim (Contains-cases d c (flat_map (with_interfaces_within h classes) (listed_interfaces classes c)) on) [
          | inl same ↦ subst P same within
          | inr above ↦
              let from = Contains-flat_map_from (with_interfaces_within h classes) (listed_interfaces classes c) d above in
              with_interfaces_within-within h from.0 d (each-of P (listed_interfaces classes c) from.0 (interfaces-within c within) from.1) from.2
        ]

    superclasses-within : (c d : ClassId) → P c → Contains (superclasses classes c) d → P d
    superclasses-within c d within on = superclasses_within-within (c.0 + 1) c d within on

    own_interfaces-within : (c d : ClassId) → P c → Contains (own_interfaces classes c) d → P d
    own_interfaces-within c d within on =
        let from = Contains-flat_map_from (with_interfaces classes) (listed_interfaces classes c) d on in
        let direct = each-of P (listed_interfaces classes c) from.0 (interfaces-within c within) from.1 in
        with_interfaces_within-within (from.0.0 + 1) from.0 d direct from.2

    pub field_walk-within : (c d : ClassId) → P c → Contains (field_walk classes c) d → P d
    field_walk-within c d within on =
        let from = Contains-flat_map_from (λ (e : ClassId). e ∷ own_interfaces classes e) (superclasses classes c) d on in
        let above = superclasses-within c from.0 within from.1 in
        elim (Contains-cases d from.0 (own_interfaces classes from.0) from.2) [
          | inl same ↦ subst P same above
          | inr interface ↦ own_interfaces-within from.0 d above interface
        ]

    class_walk-within : (c d : ClassId) → P c → Contains (class_method_walk classes c) d → P d
    class_walk-within c d within on =
        elim (Contains-append_cases (superclasses classes c) (flat_map (own_interfaces classes) (superclasses classes c)) d on) [
          | inl above ↦ superclasses-within c d within above
          | inr interface ↦
              let from = Contains-flat_map_from (own_interfaces classes) (superclasses classes c) d interface in
              own_interfaces-within from.0 d (superclasses-within c from.0 within from.1) from.2
        ]

    module _ (object : P OBJECT) where
      interface_walk-within : (c d : ClassId) → P c → Contains (interface_method_walk classes c) d → P d
      interface_walk-within c d within on = elim (Contains-append_cases (with_interfaces classes c) (OBJECT ∷ []) d on) [
        | inl above ↦ with_interfaces_within-within (c.0 + 1) c d within above
        | inr last ↦ elim (Contains-cases d OBJECT [] last) [
          | inl same ↦ subst P same object
          | inr never ↦ absurd (Contains-none d never)
        ]
      ]

      walk-within_by : (b : Bool) (c d : ClassId) → P c
          → Contains (if b then interface_method_walk classes c else class_method_walk classes c) d → P d
      walk-within_by true c d within on = interface_walk-within c d within on
      walk-within_by false c d within on = class_walk-within c d within on

      pub method_walk-within : (c d : ClassId) → P c → Contains (method_walk classes c) d → P d
      method_walk-within c d within on = walk-within_by (is_interface_record (record_of classes c)) c d within on
