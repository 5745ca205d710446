-- What stands above a class, and which fields an object of it has, is decided by the classes up to its number.
use Rattle.std.proofs.Common.{◌≡◌, ℕ, zero, suc, ◌+◌, ◌<◌, List, ◌∷◌, ◌++◌, flat_map, refl, ap, ◌∙◌, arith}
use Rattle.jk_model.specs.declared.identifiers.ClassId.{ClassId}
use Rattle.jk_model_classes.specs.declared.records.ClassRecord.{ClassRecord}
use Rattle.jk_model_classes.specs.Classes.{parents_of, listed_interfaces, IsBelow, AreOrdered, superclasses_within, superclasses, with_interfaces_within, with_interfaces, own_interfaces, field_walk}
use Rattle.jk_model_classes.specs.Layouts.{own_fields, fields_within, instance_fields}
use Rattle.list_lemmas.proofs.ItemsOfLists.{each-from, each-weaker, flat_map-same}
use Rattle.class_lemmas.proofs.ClassesBelow.{parents-below, interfaces-below, superclasses_within-below}

-- Both lists say the same of the class, as far as what stands above it and its fields are concerned.
pub record AgreeAt (a b : List ClassRecord) (c : ClassId) : Type 0 where
  pub parents : parents_of a c ≡ parents_of b c
  pub interfaces : listed_interfaces a c ≡ listed_interfaces b c
  pub fields : own_fields a c ≡ own_fields b c

abbrev pub AgreeBelow : ℕ → List ClassRecord → List ClassRecord → Type 0
AgreeBelow n a b = (c : ClassId) → c.0 < n → AgreeAt a b c

module _ (n : ℕ) (a b : List ClassRecord) (ordered : AreOrdered a) (agree : AgreeBelow n a b) where
  superclasses_within-agree : (h : ℕ) (c : ClassId) → c.0 < n → superclasses_within h a c ≡ superclasses_within h b c
  superclasses_within-agree zero c below = refl
  superclasses_within-agree (suc h) c below =
      ap (λ walk. c ∷ walk)
      (flat_map-same (superclasses_within h a) (superclasses_within h b) (parents_of a c)
      (each-weaker (IsBelow c.0) (λ p. superclasses_within h a p ≡ superclasses_within h b p)
      (λ p lower. superclasses_within-agree h p (omega arith)) (parents_of a c) (parents-below a ordered c))
      ∙ ap (flat_map (superclasses_within h b)) (agree c below).parents)

  with_interfaces_within-agree : (h : ℕ) (c : ClassId) → c.0 < n → with_interfaces_within h a c ≡ with_interfaces_within h b c
  with_interfaces_within-agree zero c below = refl
  with_interfaces_within-agree (suc h) c below =
      ap (λ walk. c ∷ walk)
      (flat_map-same (with_interfaces_within h a) (with_interfaces_within h b) (listed_interfaces a c)
      (each-weaker (IsBelow c.0) (λ p. with_interfaces_within h a p ≡ with_interfaces_within h b p)
      (λ p lower. with_interfaces_within-agree h p (omega arith)) (listed_interfaces a c) (interfaces-below a ordered c))
      ∙ ap (flat_map (with_interfaces_within h b)) (agree c below).interfaces)

  fields_within-agree : (h : ℕ) (c : ClassId) → c.0 < n → fields_within h a c ≡ fields_within h b c
  fields_within-agree zero c below = refl
  fields_within-agree (suc h) c below =
      ap (λ fields. fields ++ own_fields a c)
      (flat_map-same (fields_within h a) (fields_within h b) (parents_of a c)
      (each-weaker (IsBelow c.0) (λ p. fields_within h a p ≡ fields_within h b p)
      (λ p lower. fields_within-agree h p (omega arith)) (parents_of a c) (parents-below a ordered c))
      ∙ ap (flat_map (fields_within h b)) (agree c below).parents)
      ∙ ap (λ fields. flat_map (fields_within h b) (parents_of b c) ++ fields) (agree c below).fields

  pub superclasses-agree : (c : ClassId) → c.0 < n → superclasses a c ≡ superclasses b c
  superclasses-agree c below = superclasses_within-agree (c.0 + 1) c below

  pub with_interfaces-agree : (c : ClassId) → c.0 < n → with_interfaces a c ≡ with_interfaces b c
  with_interfaces-agree c below = with_interfaces_within-agree (c.0 + 1) c below

  pub instance_fields-agree : (c : ClassId) → c.0 < n → instance_fields a c ≡ instance_fields b c
  instance_fields-agree c below = fields_within-agree (c.0 + 1) c below

  pub own_interfaces-agree : (c : ClassId) → c.0 < n → own_interfaces a c ≡ own_interfaces b c
  own_interfaces-agree c below =
      flat_map-same (with_interfaces a) (with_interfaces b) (listed_interfaces a c)
      (each-weaker (IsBelow c.0) (λ p. with_interfaces a p ≡ with_interfaces b p)
      (λ p lower. with_interfaces-agree p (omega arith)) (listed_interfaces a c) (interfaces-below a ordered c))
      ∙ ap (flat_map (with_interfaces b)) (agree c below).interfaces

  -- what each class of the way up stands for
  pub over_superclasses : {X : Type 0} (f g : ClassId → List X) (c : ClassId) → c.0 < n → ((d : ClassId) → d.0 < n → f d ≡ g d)
      → flat_map f (superclasses a c) ≡ flat_map g (superclasses b c)
  over_superclasses f g c below same =
      flat_map-same f g (superclasses a c)
      (each-from (λ d. f d ≡ g d) (superclasses a c) (λ d there.
      let low : d.0 < suc c.0 = superclasses_within-below a ordered (c.0 + 1) c d there in
      same d (omega arith)))
      ∙ ap (flat_map g) (superclasses-agree c below)

  pub field_walk-agree : (c : ClassId) → c.0 < n → field_walk a c ≡ field_walk b c
  field_walk-agree c below =
      over_superclasses (λ d. d ∷ own_interfaces a d) (λ d. d ∷ own_interfaces b d) c below
      (λ d low. ap (λ walk. d ∷ walk) (own_interfaces-agree d low))
