-- A walk upwards over ordered classes is the same at every height above the class's number, and so each list of what
-- stands above a class is made from those of the classes directly above it.
use Rattle.std.proofs.Common.{◌≡◌, ℕ, zero, suc, ◌+◌, ◌<◌, List, [], ◌∷◌, ◌++◌, Option, Some, None, flat_map, Contains, refl, sym, ap, ◌∙◌, inl, inr, arith}
use Rattle.std.specs.List.{AllByRecursion}
use Rattle.std.specs.Option.{option_map_or}
use Rattle.jk_model.specs.declared.identifiers.ClassId.{ClassId}
use Rattle.jk_model_classes.specs.declared.records.ClassRecord.{ClassRecord}
use Rattle.jk_model_classes.specs.Classes.{record_of, parents_of, listed_interfaces, IsBelow, ParentIsBelow, StandsAbove, AreOrdered, superclasses_within, superclasses, with_interfaces_within, with_interfaces, own_interfaces, field_walk}
use Rattle.jk_model_classes.specs.Layouts.{own_fields, fields_within, instance_fields}
use Rattle.list_lemmas.proofs.ItemsOfLists.{each-of, each-from, each-weaker, Contains-flat_map_from, Contains-cases, Contains-none, flat_map-same, flat_map-flat_map}
use Rattle.class_lemmas.proofs.ClassesBelow.{one_below, parents_below_by, interfaces_below_by, parents-below, interfaces-below, superclasses_within-below}

module _ (classes : List ClassRecord) (ordered : AreOrdered classes) where
  pub superclasses-below : (c : ClassId) → AllByRecursion (λ d. d.0 < suc c.0) (superclasses classes c)
  superclasses-below c = each-from (λ (d : ClassId). d.0 < suc c.0) (superclasses classes c) (superclasses_within-below classes ordered (c.0 + 1) c)

  -- ---- The height.

  pub superclasses-height : (h k : ℕ) (c : ClassId) → c.0 < h → c.0 < k → superclasses_within h classes c ≡ superclasses_within k classes c
  superclasses-height zero k c low high = absurd (omega arith)
  superclasses-height (suc h) zero c low high = absurd (omega arith)
  superclasses-height (suc h) (suc k) c low high =
      ap (λ walk. c ∷ walk)
      (flat_map-same (superclasses_within h classes) (superclasses_within k classes) (parents_of classes c)
      (each-weaker (IsBelow c.0) (λ p. superclasses_within h classes p ≡ superclasses_within k classes p)
      (λ p below. superclasses-height h k p (omega arith) (omega arith)) (parents_of classes c) (parents-below classes ordered c)))

  pub with_interfaces-height : (h k : ℕ) (c : ClassId) → c.0 < h → c.0 < k
      → with_interfaces_within h classes c ≡ with_interfaces_within k classes c
  with_interfaces-height zero k c low high = absurd (omega arith)
  with_interfaces-height (suc h) zero c low high = absurd (omega arith)
  with_interfaces-height (suc h) (suc k) c low high =
      ap (λ walk. c ∷ walk)
      (flat_map-same (with_interfaces_within h classes) (with_interfaces_within k classes) (listed_interfaces classes c)
      (each-weaker (IsBelow c.0) (λ p. with_interfaces_within h classes p ≡ with_interfaces_within k classes p)
      (λ p below. with_interfaces-height h k p (omega arith) (omega arith)) (listed_interfaces classes c) (interfaces-below classes ordered c)))

  pub fields-height : (h k : ℕ) (c : ClassId) → c.0 < h → c.0 < k → fields_within h classes c ≡ fields_within k classes c
  fields-height zero k c low high = absurd (omega arith)
  fields-height (suc h) zero c low high = absurd (omega arith)
  fields-height (suc h) (suc k) c low high =
      ap (λ fields. fields ++ own_fields classes c)
      (flat_map-same (fields_within h classes) (fields_within k classes) (parents_of classes c)
      (each-weaker (IsBelow c.0) (λ p. fields_within h classes p ≡ fields_within k classes p)
      (λ p below. fields-height h k p (omega arith) (omega arith)) (parents_of classes c) (parents-below classes ordered c)))

  -- ---- One step up.

  pub superclasses-step : (c : ClassId) → superclasses classes c ≡ c ∷ flat_map (superclasses classes) (parents_of classes c)
  superclasses-step c =
      superclasses-height (c.0 + 1) (suc (c.0 + 1)) c (omega arith) (omega arith)
      ∙ ap (λ walk. c ∷ walk)
      (flat_map-same (superclasses_within (c.0 + 1) classes) (superclasses classes) (parents_of classes c)
      (each-weaker (IsBelow c.0) (λ p. superclasses_within (c.0 + 1) classes p ≡ superclasses classes p)
      (λ p below. superclasses-height (c.0 + 1) (p.0 + 1) p (omega arith) (omega arith)) (parents_of classes c) (parents-below classes ordered c)))

  pub with_interfaces-step : (c : ClassId) → with_interfaces classes c ≡ c ∷ own_interfaces classes c
  with_interfaces-step c =
      with_interfaces-height (c.0 + 1) (suc (c.0 + 1)) c (omega arith) (omega arith)
      ∙ ap (λ walk. c ∷ walk)
      (flat_map-same (with_interfaces_within (c.0 + 1) classes) (with_interfaces classes) (listed_interfaces classes c)
      (each-weaker (IsBelow c.0) (λ p. with_interfaces_within (c.0 + 1) classes p ≡ with_interfaces classes p)
      (λ p below. with_interfaces-height (c.0 + 1) (p.0 + 1) p (omega arith) (omega arith)) (listed_interfaces classes c) (interfaces-below classes ordered c)))

  pub instance_fields-step : (c : ClassId)
      → instance_fields classes c ≡ flat_map (instance_fields classes) (parents_of classes c) ++ own_fields classes c
  instance_fields-step c =
      fields-height (c.0 + 1) (suc (c.0 + 1)) c (omega arith) (omega arith)
      ∙ ap (λ fields. fields ++ own_fields classes c)
      (flat_map-same (fields_within (c.0 + 1) classes) (instance_fields classes) (parents_of classes c)
      (each-weaker (IsBelow c.0) (λ p. fields_within (c.0 + 1) classes p ≡ instance_fields classes p)
      (λ p below. fields-height (c.0 + 1) (p.0 + 1) p (omega arith) (omega arith)) (parents_of classes c) (parents-below classes ordered c)))

  -- the class with its interfaces, and then what its parent is looked for in
  pub field_walk-step : (c : ClassId)
      → field_walk classes c ≡ with_interfaces classes c ++ flat_map (field_walk classes) (parents_of classes c)
  field_walk-step c =
      let with_own : ClassId → List ClassId = λ d. d ∷ own_interfaces classes d in
      ap (flat_map with_own) (superclasses-step c)
      ∙ ap (λ walk. with_own c ++ walk) (flat_map-flat_map (superclasses classes) with_own (parents_of classes c))
      ∙ ap (λ walk. walk ++ flat_map (field_walk classes) (parents_of classes c)) (sym (with_interfaces-step c))
