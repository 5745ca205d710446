-- A value is an instance of a type, or it isn't.
use Rattle.std.proofs.Common.{inl, inr, ◌≡◌, ◌⊎◌, ℕ, zero, suc, ◌<◌, List, Contains, Option, Some, None, refl, sym, ap, subst, arith}
use Rattle.std.specs.Prelude.{codes}
use Rattle.std.proofs.lemmas.Option.{none-some}
use Rattle.list_lemmas.proofs.ItemsOfLists.{Contains-at, place_of}
use Rattle.jk_model.specs.declared.identifiers.CapId.{CapId}
use Rattle.jk_model.specs.declared.identifiers.ClassId.{ClassId}
use Rattle.jk_model.specs.SystemTable.{number_named}
use Rattle.jk_model.specs.declared.values.Value.{Value}
use Rattle.jk_model.specs.declared.values.Value.TheVariants as Held
use Rattle.jk_model_classes.specs.declared.records.BaseRef.{BaseRef}
use Rattle.jk_model_classes.specs.declared.records.BaseRef.TheVariants as Base
use Rattle.jk_model_classes.specs.declared.records.ClassRecord.{ClassRecord}
use Rattle.jk_model_classes.specs.declared.records.TypeRef.{TypeRef}
use Rattle.jk_model_classes.specs.declared.sharing.Stub.{Stub}
use Rattle.jk_model_classes.specs.Classes.{Implements, OBJECT, record_of}
use Rattle.jk_model_classes.specs.Stubs.{ImplementsRemote}
use Rattle.jk_model_typing.specs.FrameTypes.{array_type}
use Rattle.jk_model_domains.specs.Objects.{NamedObject, Object, CAPABILITY, class_type, object_named, type_of}
use Rattle.jk_model_heaps.specs.Capabilities.{Capability, CapabilityIsA, KnownCapabilities, OwnedCapability, ShowsInterface, StandsInFor, capability_numbered}
use Rattle.jk_model_heaps.specs.Instances.{IsA, IsAboveArrays, IsClassA, IsInstance}
use Rattle.jk_model_heaps.specs.SystemClasses.{CLONEABLE, REMOTE, SERIALIZABLE}
use Rattle.decided_lookups.specs.Decisions.{IsDecided}
use Rattle.decided_lookups.proofs.DecidedParts.{both_decided, class_decided, contains_decided, either_decided, number_decided, same_decided, some_decided}
use Rattle.decided_lookups.proofs.DecidedRecords.{implements_decided, subclass_decided}
use Rattle.decided_lookups.proofs.DecidedTypes.{type_ref_decided}
use Rattle.decided_lookups.proofs.ListsSearched.{first_or_none}

-- ---- Bases of types, and orders of numbers.

of_one_base : (a b : BaseRef) → array_type 0 a ≡ array_type 0 b → a ≡ b
of_one_base a b e = ap (λ (t : TypeRef). t.base) e

base_decided : (a b : BaseRef) → IsDecided (a ≡ b)
base_decided a b =
    same_decided (of_one_base a b) (λ e. ap (λ (x : BaseRef). array_type 0 x) e) (type_ref_decided (array_type 0 a) (array_type 0 b))

less_decided : (m n : ℕ) → IsDecided (m < n)
less_decided m zero = inr (λ low. omega (arith, low))
less_decided zero (suc n) = inl (omega arith)
less_decided (suc m) (suc n) = elim (less_decided m n) [
  | inl low ↦ inl (omega (arith, low))
  | inr not ↦ inr (λ low. not (omega (arith, low)))
]

abbrev numbered : ℕ → ClassId
numbered n = record { 0 = n }

-- an option is nothing, or it isn't
nothing_decided : {X : Type 0} → (o : Option X) → IsDecided (o ≡ None)
nothing_decided None = inl refl
nothing_decided (Some x) = inr (λ e. none-some x (sym e))

module _ (classes : List ClassRecord) where
  -- ---- Types.

  class_a_decided : (a b : BaseRef) → IsDecided (IsClassA classes a b)
  class_a_decided (Base.Class a) (Base.Class b) = either_decided (subclass_decided classes a b) (implements_decided classes a b)
  class_a_decided a b = inr (λ h. absurd h)

  above_decided : (base : BaseRef) → IsDecided (IsAboveArrays base)
  above_decided base =
      either_decided (base_decided base (Base.Class OBJECT))
      (either_decided (base_decided base (Base.Class SERIALIZABLE)) (base_decided base (Base.Class CLONEABLE)))

  pub type_decided : (a b : TypeRef) → IsDecided (IsA classes a b)
  type_decided a b =
      either_decided (type_ref_decided a b)
      (either_decided (both_decided (number_decided a.dims b.dims) (class_a_decided a.base b.base))
      (both_decided (less_decided b.dims a.dims) (above_decided b.base)))

  -- ---- Capabilities.

  pub remote_decided : (c : ClassId) → IsDecided (ImplementsRemote classes c)
  remote_decided c =
      same_decided
      (λ (n, is, h). (numbered n, is, h))
      (λ (remote, is, h). (remote.0, is, h))
      (some_decided (number_named (codes "jk/Remote")) (λ n. Implements classes c (numbered n)) (λ n is. implements_decided classes c (numbered n)))

  shows_decided : (c : Capability) (i : ClassId) → IsDecided (ShowsInterface classes c i)
  shows_decided c i = both_decided (implements_decided classes c.class i) (remote_decided i)

  abbrev ListsIn : Capability → ClassId → Stub → Type 0
  ListsIn c i s = (s.class ≡ c.class) × Contains s.interfaces i

  listed_decided : (c : Capability) (i : ClassId) (stubs : List Stub)
      → IsDecided ((s : Stub) × Contains stubs s × (s.class ≡ c.class) × Contains s.interfaces i)
  listed_decided c i stubs = elim (first_or_none (ListsIn c i) (λ s. both_decided (class_decided s.class c.class)
      (contains_decided class_decided s.interfaces i)) stubs) [
        | inl (place, s, first) ↦ inl (s, Contains-at stubs place s first.at, first.holds.0, first.holds.1)
        | inr none ↦ inr (λ (s, has, same, listed). let at = place_of stubs s has in none (at.0, s, at.1, (same, listed)))
      ]

  stands_in_decided : (stubs : List Stub) (c : Capability) (i : ClassId) → IsDecided (StandsInFor classes stubs c i)
  stands_in_decided stubs c i = both_decided (nothing_decided (record_of classes c.class)) (listed_decided c i stubs)

  module _ (caps : KnownCapabilities) (k : CapId) where
    abbrev IsAboveCapability : ClassId → Type 0
    IsAboveCapability class =
        (class ≡ OBJECT) ⊎ (class ≡ CAPABILITY) ⊎ (class ≡ REMOTE)
        ⊎ ((c : OwnedCapability) × (capability_numbered caps.ranges k ≡ Some c)
        × (ShowsInterface classes c.capability class ⊎ StandsInFor classes caps.stand_ins c.capability class))

    above_capability_decided : (class : ClassId) → IsDecided (IsAboveCapability class)
    above_capability_decided class =
        either_decided (class_decided class OBJECT) (either_decided (class_decided class CAPABILITY) (either_decided (class_decided class REMOTE)
        (some_decided (capability_numbered caps.ranges k)
        (λ c. ShowsInterface classes c.capability class ⊎ StandsInFor classes caps.stand_ins c.capability class)
        (λ c is. either_decided (shows_decided c.capability class) (stands_in_decided caps.stand_ins c.capability class)))))

    class_capability : (class : ClassId) → IsDecided (CapabilityIsA classes caps k (class_type class))
    class_capability class =
        same_decided (λ (above : IsAboveCapability class). record { class = class; no_array = refl; above = above })
        (λ (h : CapabilityIsA classes caps k (class_type class)). subst IsAboveCapability (sym (of_one h.class h.no_array)) h.above)
        (above_capability_decided class)
      where
        of_one : (c : ClassId) → class_type class ≡ class_type c → class ≡ c
        of_one c e = let base : Base.Class class ≡ Base.Class c = ap (λ (t : TypeRef). t.base) e in cc

    no_class : (dims : ℕ) (base : BaseRef) → ((c : ClassId) → array_type dims base ≡ class_type c → ⊥)
        → IsDecided (CapabilityIsA classes caps k (array_type dims base))
    no_class dims base other = inr (λ h. other h.class h.no_array)

    other_base : (base : BaseRef) → ((c : ClassId) → base ≡ Base.Class c → ⊥) → (c : ClassId) → array_type 0 base ≡ class_type c → ⊥
    other_base base other c e = other c (ap (λ (t : TypeRef). t.base) e)

    capability_decided_by : (dims : ℕ) (base : BaseRef) → IsDecided (CapabilityIsA classes caps k (array_type dims base))
    capability_decided_by zero (Base.Class c) = class_capability c
    capability_decided_by zero base = no_class 0 base (other_base base (λ c e. absurd cc))
    capability_decided_by (suc dims) base =
        no_class (suc dims) base (λ c e. let same : suc dims ≡ 0 = ap (λ (t : TypeRef). t.dims) e in absurd (omega (arith, same)))

    pub capability_decided : (t : TypeRef) → IsDecided (CapabilityIsA classes caps k t)
    capability_decided t = capability_decided_by t.dims t.base

  -- ---- Values.

  pub instance_decided : (caps : KnownCapabilities) (heap : List NamedObject) (v : Value) (t : TypeRef)
      → IsDecided (IsInstance classes caps heap v t)
  instance_decided caps heap (Held.Obj a) t =
      some_decided (object_named heap a) (λ (o : Object). IsA classes (type_of o) t) (λ o is. type_decided (type_of o) t)
  instance_decided caps heap (Held.Cap k) t = capability_decided caps k t
  instance_decided caps heap v t = inr (λ h. absurd h)
