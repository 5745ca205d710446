-- Among ordered classes those above a class have lower numbers.
use Rattle.std.proofs.Common.{◌≡◌, ℕ, zero, suc, ◌<◌, List, [], ◌∷◌, Option, Some, None, flat_map, Contains, refl, inl, inr, arith}
use Rattle.std.specs.List.{AllByRecursion}
use Rattle.std.specs.Option.{option_map_or}
use Rattle.list_lemmas.proofs.ItemsOfLists.{Contains-cases, Contains-none, each-of, Contains-flat_map_from}
use Rattle.jk_model.specs.declared.identifiers.ClassId.{ClassId}
use Rattle.jk_model_classes.specs.declared.records.ClassRecord.{ClassRecord}
use Rattle.jk_model_classes.specs.Classes.{record_of, parents_of, listed_interfaces, IsBelow, ParentIsBelow, StandsAbove, AreOrdered, superclasses_within}

pub one_below : (n : ℕ) (p : Option ClassId) → ParentIsBelow n p → AllByRecursion (IsBelow n) (option_map_or (λ c. c ∷ []) p [])
one_below n None h = tt
one_below n (Some p) h = (h, tt)

pub parents_below_by : (n : ℕ) (o : Option ClassRecord) → ((r : ClassRecord) → o ≡ Some r → StandsAbove n r)
    → AllByRecursion (IsBelow n) (option_map_or (λ (r : ClassRecord). option_map_or (λ p. p ∷ []) r.parent []) o [])
parents_below_by n None h = tt
parents_below_by n (Some r) h = one_below n r.parent (h r refl).0

pub interfaces_below_by : (n : ℕ) (o : Option ClassRecord) → ((r : ClassRecord) → o ≡ Some r → StandsAbove n r)
    → AllByRecursion (IsBelow n) (option_map_or (λ (r : ClassRecord). r.interfaces) o [])
interfaces_below_by n None h = tt
interfaces_below_by n (Some r) h = (h r refl).1

module _ (classes : List ClassRecord) (ordered : AreOrdered classes) where
  pub parents-below : (c : ClassId) → AllByRecursion (IsBelow c.0) (parents_of classes c)
  parents-below c = parents_below_by c.0 (record_of classes c) (ordered c)

  pub interfaces-below : (c : ClassId) → AllByRecursion (IsBelow c.0) (listed_interfaces classes c)
  interfaces-below c = interfaces_below_by c.0 (record_of classes c) (ordered c)

  -- no class above has a higher number
  pub superclasses_within-below : (h : ℕ) (c d : ClassId) → Contains (superclasses_within h classes c) d → d.0 < suc c.0
  superclasses_within-below zero c d h = absurd (Contains-none d h)
  superclasses_within-below (suc h) c d there =
      elim (Contains-cases d c (flat_map (superclasses_within h classes) (parents_of classes c)) there) [
        | inl e ↦ rw e (omega arith)
        | inr above ↦
            let from = Contains-flat_map_from (superclasses_within h classes) (parents_of classes c) d above in
            let lower : from.0.0 < c.0 = each-of (IsBelow c.0) (parents_of classes c) from.0 (parents-below c) from.1 in
            omega (arith, superclasses_within-below h from.0 d from.2, lower)
      ]
