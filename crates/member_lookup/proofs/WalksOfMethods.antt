-- The order in which methods are looked for: of an interface, and of a class.
use Rattle.std.proofs.Common.{◌≡◌, true, List, [], ◌∷◌, Option, Some, None, refl, IsTrue, inl, inr}
use Rattle.std.proofs.lemmas.Bool.{cases_Bool}
use Rattle.jk_model.specs.declared.identifiers.ClassId.{ClassId}
use Rattle.jk_model.specs.declared.identifiers.MemberId.{MemberId}
use Rattle.jk_model_classes.specs.declared.records.ClassRecord.{ClassRecord}
use Rattle.jk_model_classes.specs.Classes.{OBJECT, IsInterface, record_of, firsts, superclasses, own_interfaces, with_interfaces, field_walk, method_walk, class_method_walk, interface_method_walk, is_interface_record}
use Rattle.jk_model_classes.specs.Lookups.{FindsOn}
use Rattle.member_lookup.proofs.FirstOnWalk.{along-from_on, on-from_along, along-firsts, along-append_found, along-append_none, along-beside}

module _ (classes : List ClassRecord) (c : ClassId) where
  pub walk-of_interface : IsInterface classes c → method_walk classes c ≡ interface_method_walk classes c
  walk-of_interface (r, at, flag) = rw (at, flag) refl

  is_interface_by : (o : Option ClassRecord) → is_interface_record o ≡ true → (r : ClassRecord) × (o ≡ Some r) × IsTrue (is_interface_record (Some r))
  is_interface_by None e = absurd cc
  is_interface_by (Some r) e = (r, refl, e)

  pub walk-of_class : (IsInterface classes c → ⊥) → method_walk classes c ≡ class_method_walk classes c
  walk-of_class never = elim (cases_Bool (is_interface_record (record_of classes c))) [
    | inl e ↦ absurd (never (is_interface_by (record_of classes c) e))
    | inr e ↦ rw e refl
  ]

module _ (Suits : MemberId → Type 0) (classes : List ClassRecord) (c : ClassId) where
  -- ---- An interface: it and those above it, and then java/lang/Object.

  pub interface-found : (m : MemberId) → FindsOn Suits (firsts (with_interfaces classes c)) (Some m)
      → FindsOn Suits (interface_method_walk classes c) (Some m)
  interface-found m h =
      on-from_along Suits (interface_method_walk classes c) (Some m)
      (along-append_found Suits (with_interfaces classes c) (OBJECT ∷ []) m
      (along-firsts Suits (with_interfaces classes c) (Some m) (along-from_on Suits (firsts (with_interfaces classes c)) (Some m) h)))

  pub interface-then_object : (found : Option MemberId) → FindsOn Suits (firsts (with_interfaces classes c)) None
      → FindsOn Suits (OBJECT ∷ []) found → FindsOn Suits (interface_method_walk classes c) found
  interface-then_object found none h =
      on-from_along Suits (interface_method_walk classes c) found
      (along-append_none Suits (with_interfaces classes c) (OBJECT ∷ []) found
      (along-firsts Suits (with_interfaces classes c) None (along-from_on Suits (firsts (with_interfaces classes c)) None none))
      (along-from_on Suits (OBJECT ∷ []) found h))

  -- ---- A class: it and its parents upwards, and then the interfaces of these.

  pub class-found : (m : MemberId) → FindsOn Suits (superclasses classes c) (Some m) → FindsOn Suits (class_method_walk classes c) (Some m)
  class-found m h =
      on-from_along Suits (class_method_walk classes c) (Some m)
      (along-append_found Suits (superclasses classes c) _ m (along-from_on Suits (superclasses classes c) (Some m) h))

  -- where no class upwards has it, the first on the whole walk is the first among the interfaces
  pub class-then_interfaces : (found : Option MemberId) → FindsOn Suits (superclasses classes c) None
      → FindsOn Suits (firsts (field_walk classes c)) found → FindsOn Suits (class_method_walk classes c) found
  class-then_interfaces found none h =
      let upwards = along-from_on Suits (superclasses classes c) None none in
      on-from_along Suits (class_method_walk classes c) found
      (along-append_none Suits (superclasses classes c) _ found upwards
      (along-beside Suits (own_interfaces classes) (superclasses classes c) found upwards
      (along-firsts Suits (field_walk classes c) found (along-from_on Suits (firsts (field_walk classes c)) found h))))
