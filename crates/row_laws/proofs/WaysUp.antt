-- What stands above a class: a domain that knows the class knows it too, and a method that isn't abstract is found in no interface.
use Rattle.std.proofs.Common.{inl, inr, ◌≡◌, ◌≢◌, ◌⊎◌, ℕ, zero, suc, ◌+◌, ◌<◌, true, false, IsTrue, List, [], ◌∷◌, ◌++◌, flat_map, Contains, Option, Some, None, refl, sym, ap, subst, ◌∙◌, arith}
use Rattle.std.specs.Prelude.{IsFalse}
use Rattle.std.specs.Option.{option_map_or}
use Rattle.list_lemmas.proofs.EndsOfLists.{head_is}
use Rattle.list_lemmas.proofs.ItemsOfLists.{Contains-cases, Contains-flat_map_from, Contains-here, Contains-none, Contains-there}
use Rattle.jk_model.specs.Flags.{has, ABSTRACT}
use Rattle.jk_model.specs.declared.identifiers.ClassId.{ClassId}
use Rattle.jk_model.specs.declared.identifiers.MemberId.{MemberId}
use Rattle.jk_model_classes.specs.declared.records.ClassRecord.{ClassRecord}
use Rattle.jk_model_classes.specs.declared.records.MethodRecord.{MethodRecord}
use Rattle.jk_model_classes.specs.Classes.{IsInterface, IsSubclass, OBJECT, class_method_walk, interface_method_walk, listed_interfaces, method_walk, own_interfaces, parents_of, record_of, superclasses, with_interfaces, with_interfaces_within}
use Rattle.jk_model_classes.specs.Lookups.{MethodIs}
use Rattle.jk_model_classes.specs.Members.{CLINIT}
use Rattle.jk_model_classes.specs.Worlds.{IsNamed, NamedClass}
use Rattle.jk_model_sound_classes.specs.SoundClasses.{IsClosedTable}
use Rattle.class_table.proofs.StandingAbove.{parent-lower, superclasses-cases}
use Rattle.member_lookup.proofs.WalksOfMethods.{walk-of_class, walk-of_interface}
use Rattle.heap_laws.specs.SoundCodes.{AreSoundCodes}

-- ---- Lists in two parts.

from_parts : {X : Type 0} (xs ys : List X) (x : X) → Contains (xs ++ ys) x → Contains xs x ⊎ Contains ys x
from_parts [] ys x has = inr has
from_parts (y ∷ xs) ys x has = elim (Contains-cases x y (xs ++ ys) has) [
  | inl same ↦ inl (subst (Contains (y ∷ xs)) same (Contains-here y xs))
  | inr later ↦
      elim (from_parts xs ys x later) [
        | inl front ↦ inl (Contains-there x y xs front)
        | inr back ↦ inr back
      ]
]

-- ---- Names.

pub the_parent : (o : Option ClassId) (p : ClassId) → option_map_or (λ q. q ∷ []) o [] ≡ p ∷ [] → o ≡ Some p
the_parent None p e = absurd cc
the_parent (Some q) p e = ap Some (head_is q p [] [] e)

module _ (classes : List ClassRecord) (sound : AreSoundCodes classes) where
  parent_of : (c p : ClassId) (r : ClassRecord) → record_of classes c ≡ Some r → parents_of classes c ≡ p ∷ [] → r.parent ≡ Some p
  parent_of c p r is only =
      the_parent r.parent p
      (sym (ap (λ (o : Option ClassRecord). option_map_or (λ (x : ClassRecord). option_map_or (λ q. q ∷ []) x.parent []) o []) is) ∙ only)

  module _ (table : List NamedClass) (closed : IsClosedTable classes table) where
    above_within : (h : ℕ) (c d : ClassId) → c.0 < h → IsNamed table c → IsSubclass classes c d → IsNamed table d
    above_within zero c d low named below = absurd (omega (arith, low))
    above_within (suc h) c d low named below = elim (superclasses-cases classes sound.ordered c d below) [
      | inl same ↦ subst (IsNamed table) same named
      | inr (p, only, above) ↦
          let around = closed c named in
          let lower = parent-lower classes sound.ordered c p only in
          above_within h p d (omega (arith, low, lower)) (around.2.parent p (parent_of c p around.0 around.1 only)) above
    ]

    pub above_named : (c d : ClassId) → IsNamed table c → IsSubclass classes c d → IsNamed table d
    above_named c d named below = above_within (c.0 + 1) c d (omega arith) named below

  -- ---- Interfaces.

  read_interface : (c i : ClassId) (o : Option ClassRecord) → record_of classes c ≡ o
      → Contains (option_map_or (λ (r : ClassRecord). r.interfaces) o []) i → IsInterface classes i
  read_interface c i None is has = absurd (Contains-none i has)
  read_interface c i (Some r) is has = sound.listed_interfaces c i r is has

  lists_interfaces : (c i : ClassId) → Contains (listed_interfaces classes c) i → IsInterface classes i
  lists_interfaces c i has = read_interface c i (record_of classes c) refl has

  all_within : (h : ℕ) (i e : ClassId) → IsInterface classes i → Contains (with_interfaces_within h classes i) e → IsInterface classes e
  all_within zero i e is has = absurd (Contains-none e has)
  all_within (suc h) i e is has =
      elim (Contains-cases e i (flat_map (with_interfaces_within h classes) (listed_interfaces classes i)) has) [
        | inl same ↦ subst (IsInterface classes) same is
        | inr later ↦
            let from = Contains-flat_map_from (with_interfaces_within h classes) (listed_interfaces classes i) e later in
            all_within h from.0 e (lists_interfaces i from.0 from.1) from.2
      ]

  above_interface : (i e : ClassId) → IsInterface classes i → Contains (with_interfaces classes i) e → IsInterface classes e
  above_interface i e is has = all_within (i.0 + 1) i e is has

  own_interface : (c e : ClassId) → Contains (own_interfaces classes c) e → IsInterface classes e
  own_interface c e has =
      let from = Contains-flat_map_from (with_interfaces classes) (listed_interfaces classes c) e has in
      above_interface from.0 e (lists_interfaces c from.0 from.1) from.2

  -- ---- Where a method was found.

  -- from a class: above it, or in an interface
  pub found_from_class : (c d : ClassId) → (IsInterface classes c → ⊥) → Contains (method_walk classes c) d
      → IsSubclass classes c d ⊎ IsInterface classes d
  found_from_class c d none walk =
      let whole : Contains (class_method_walk classes c) d = subst (λ (ds : List ClassId). Contains ds d) (walk-of_class classes c none) walk in
      elim (from_parts (superclasses classes c) (flat_map (own_interfaces classes) (superclasses classes c)) d whole) [
        | inl above ↦ inl above
        | inr later ↦
            let from = Contains-flat_map_from (own_interfaces classes) (superclasses classes c) d later in
            inr (own_interface from.0 d from.2)
      ]

  -- from an interface: in one, or in java/lang/Object
  pub found_from_interface : (c d : ClassId) → IsInterface classes c → Contains (method_walk classes c) d → IsInterface classes d ⊎ (d ≡ OBJECT)
  found_from_interface c d is walk =
      let whole : Contains (interface_method_walk classes c) d =
      subst (λ (ds : List ClassId). Contains ds d) (walk-of_interface classes c is) walk in
      elim (from_parts (with_interfaces classes c) (OBJECT ∷ []) d whole) [
        | inl above ↦ inl (above_interface c d is above)
        | inr later ↦
            elim (Contains-cases d OBJECT [] later) [
              | inl same ↦ inr (sym same)
              | inr none ↦ absurd (Contains-none d none)
            ]
      ]

  -- a method that isn't abstract is of no interface, unless it initialises it
  pub concrete_in_class : (m : MemberId) (method : MethodRecord) → MethodIs classes m method → method.name ≢ CLINIT
      → IsFalse (has method.flags ABSTRACT) → IsInterface classes m.class → ⊥
  concrete_in_class m method is other concrete interface =
      let abstract : IsTrue (has method.flags ABSTRACT) = sound.interface_methods m method interface is other in
      let both : true ≡ false = sym abstract ∙ concrete in
      absurd cc
