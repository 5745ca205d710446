-- What stands above a class, and the orders in which members are looked for, are decided by the classes up to its number. So
-- two lists of records that agree on those but for their links have the same walks.
use Rattle.std.proofs.Common.{◌≡◌, ℕ, zero, suc, ◌+◌, ◌<◌, Bool, true, false, List, [], ◌∷◌, ◌++◌, flat_map, Contains, sym, ap, subst, ◌∙◌, inl, inr, arith, if◌then◌else◌}
use Rattle.std.proofs.lemmas.List.Elements.{Contains-append_cases}
use Rattle.list_lemmas.proofs.ItemsOfLists.{Contains-cases, Contains-none, each-of, Contains-flat_map_from}
use Rattle.jk_model.specs.declared.identifiers.ClassId.{ClassId}
use Rattle.jk_model_classes.specs.declared.records.ClassRecord.{ClassRecord}
use Rattle.jk_model_classes.specs.Classes.{record_of, listed_interfaces, is_interface_record, IsBelow, AreOrdered, IsSubclass, Implements, OBJECT, superclasses, with_interfaces_within, with_interfaces, own_interfaces, field_walk, class_method_walk, interface_method_walk, method_walk}
use Rattle.class_lemmas.proofs.ClassesBelow.{interfaces-below, superclasses_within-below}
use Rattle.class_lemmas.proofs.LowerClassesDecide.{superclasses-agree, with_interfaces-agree, own_interfaces-agree, over_superclasses, field_walk-agree}
use Rattle.class_lemmas.proofs.LowerClassesDecide as Lower
use Rattle.class_growth.proofs.RecordsAgree.{AgreeAt, parents-agree, interfaces-agree, own_fields-agree, is_interface-agree, is_interface-there}

abbrev pub AgreeBelow : ℕ → List ClassRecord → List ClassRecord → Type 0
AgreeBelow n a b = (c : ClassId) → c.0 < n → AgreeAt a b c

-- ---- The classes above a class have lower numbers.

module _ (classes : List ClassRecord) (ordered : AreOrdered classes) where
  pub superclasses-below : (c d : ClassId) → IsSubclass classes c d → d.0 < suc c.0
  superclasses-below c d above = superclasses_within-below classes ordered (c.0 + 1) c d above

  with_interfaces_within-below : (h : ℕ) (c d : ClassId) → Contains (with_interfaces_within h classes c) d → d.0 < suc c.0
  with_interfaces_within-below zero c d h = absurd (Contains-none d h)
  with_interfaces_within-below (suc h) c d there =
      elim (Contains-cases d c (flat_map (with_interfaces_within h classes) (listed_interfaces classes c)) there) [
        | inl e ↦ rw e (omega arith)
        | inr above ↦
            let from = Contains-flat_map_from (with_interfaces_within h classes) (listed_interfaces classes c) d above in
            let lower : from.0.0 < c.0 = each-of (IsBelow c.0) (listed_interfaces classes c) from.0 (interfaces-below classes ordered c) from.1 in
            omega (arith, with_interfaces_within-below h from.0 d from.2, lower)
      ]

  own_interfaces-below : (c d : ClassId) → Contains (own_interfaces classes c) d → d.0 < suc c.0
  own_interfaces-below c d above =
      let from = Contains-flat_map_from (with_interfaces classes) (listed_interfaces classes c) d above in
      let lower : from.0.0 < c.0 = each-of (IsBelow c.0) (listed_interfaces classes c) from.0 (interfaces-below classes ordered c) from.1 in
      omega (arith, with_interfaces_within-below (from.0.0 + 1) from.0 d from.2, lower)

  pub field_walk-below : (c d : ClassId) → Contains (field_walk classes c) d → d.0 < suc c.0
  field_walk-below c d there =
      let from = Contains-flat_map_from (λ (e : ClassId). e ∷ own_interfaces classes e) (superclasses classes c) d there in
      let lower : from.0.0 < suc c.0 = superclasses-below c from.0 from.1 in
      elim (Contains-cases d from.0 (own_interfaces classes from.0) from.2) [
        | inl same ↦ rw (← same) lower
        | inr above ↦ omega (arith, own_interfaces-below from.0 d above, lower)
      ]

  class_method_walk-below : (c d : ClassId) → Contains (class_method_walk classes c) d → d.0 < suc c.0
  class_method_walk-below c d there =
      elim (Contains-append_cases (superclasses classes c) (flat_map (own_interfaces classes) (superclasses classes c)) d there) [
        | inl above ↦ superclasses-below c d above
        | inr interface ↦
            let from = Contains-flat_map_from (own_interfaces classes) (superclasses classes c) d interface in
            let lower : from.0.0 < suc c.0 = superclasses-below c from.0 from.1 in
            omega (arith, own_interfaces-below from.0 d from.2, lower)
      ]

  interface_method_walk-below : (c d : ClassId) → Contains (interface_method_walk classes c) d → d.0 < suc c.0
  interface_method_walk-below c d there =
      elim (Contains-append_cases (with_interfaces classes c) (OBJECT ∷ []) d there) [
        | inl above ↦ with_interfaces_within-below (c.0 + 1) c d above
        | inr object ↦ elim (Contains-cases d OBJECT [] object) [
          | inl same ↦ rw (← same) (omega arith)
          | inr never ↦ absurd (Contains-none d never)
        ]
      ]

  walk-below_by : (b : Bool) (c d : ClassId)
      → Contains (if b then interface_method_walk classes c else class_method_walk classes c) d → d.0 < suc c.0
  walk-below_by true c d there = interface_method_walk-below c d there
  walk-below_by false c d there = class_method_walk-below c d there

  pub method_walk-below : (c d : ClassId) → Contains (method_walk classes c) d → d.0 < suc c.0
  method_walk-below c d there = walk-below_by (is_interface_record (record_of classes c)) c d there

-- ---- The walks.

-- what stands above a class and its fields need no links
pub without_links_agree : (n : ℕ) (a b : List ClassRecord) → AgreeBelow n a b → Lower.AgreeBelow n a b
without_links_agree n a b agree c below = record {
  parents = parents-agree a b c (agree c below);
  interfaces = interfaces-agree a b c (agree c below);
  fields = own_fields-agree a b c (agree c below);
}

module _ (n : ℕ) (a b : List ClassRecord) (ordered : AreOrdered a) (agree : AgreeBelow n a b) where
  agree_lower : Lower.AgreeBelow n a b
  agree_lower = without_links_agree n a b agree

  class_method_walk-agree : (c : ClassId) → c.0 < n → class_method_walk a c ≡ class_method_walk b c
  class_method_walk-agree c below =
      ap (λ walk. walk ++ flat_map (own_interfaces a) (superclasses a c)) (superclasses-agree n a b ordered agree_lower c below)
      ∙ ap (λ walk. superclasses b c ++ walk)
      (over_superclasses n a b ordered agree_lower (own_interfaces a) (own_interfaces b) c below (own_interfaces-agree n a b ordered agree_lower))

  pub method_walk-agree : (c : ClassId) → c.0 < n → method_walk a c ≡ method_walk b c
  method_walk-agree c below =
      ap (λ walk. if is_interface_record (record_of a c) then walk ++ OBJECT ∷ [] else class_method_walk a c)
      (with_interfaces-agree n a b ordered agree_lower c below)
      ∙ ap (λ walk. if is_interface_record (record_of a c) then interface_method_walk b c else walk) (class_method_walk-agree c below)
      ∙ ap (λ test. if test then interface_method_walk b c else class_method_walk b c) (is_interface-agree a b c (agree c below))

  pub subclass-there : (c d : ClassId) → c.0 < n → IsSubclass a c d → IsSubclass b c d
  subclass-there c d below = subst (λ walk. Contains walk d) (superclasses-agree n a b ordered agree_lower c below)

  pub subclass-back : (c d : ClassId) → c.0 < n → IsSubclass b c d → IsSubclass a c d
  subclass-back c d below = subst (λ walk. Contains walk d) (sym (superclasses-agree n a b ordered agree_lower c below))

  pub implements-there : (c i : ClassId) → c.0 < n → Implements a c i → Implements b c i
  implements-there c i below (is, on) =
      let low : i.0 < suc c.0 = field_walk-below a ordered c i on in (
        is_interface-there a b i (agree i (omega arith)) is,
        subst (λ walk. Contains walk i) (field_walk-agree n a b ordered agree_lower c below) on,
      )

  pub implements-back : (c i : ClassId) → c.0 < n → Implements b c i → Implements a c i
  implements-back c i below (is, on) =
      let here : Contains (field_walk a c) i = subst (λ walk. Contains walk i) (sym (field_walk-agree n a b ordered agree_lower c below)) on in
      let low : i.0 < suc c.0 = field_walk-below a ordered c i here in
      (is_interface-there b a i (sym (agree i (omega arith))) is, here)
