-- A capability shows the interfaces of its stub, and no others.
use Rattle.std.proofs.Common.{◌≡◌, ℕ, zero, suc, ◌+◌, ◌⊎◌, inl, inr, true, false, List, [], ◌∷◌, find, flat_map, Contains, Option, Some, None, Result, Ok, Err, IsTrue, is_ok, refl, sym, ap, subst, ◌∙◌, arith}
use Rattle.std.specs.Prelude.{◌==◌, option_and_then}
use Rattle.std.specs.Result.{result_ok}
use Rattle.std.proofs.lemmas.Bool.{eq-eqb, eqb-true}
use Rattle.std.proofs.lemmas.Option.{same_Some}
use Rattle.jk_model.specs.declared.identifiers.CapId.{CapId}
use Rattle.jk_model.specs.declared.identifiers.ClassId.{ClassId}
use Rattle.jk_model_classes.specs.declared.records.BaseRef.{BaseRef}
use Rattle.jk_model_classes.specs.declared.records.BaseRef.TheVariants as Base
use Rattle.jk_model_classes.specs.declared.records.ClassRecord.{ClassRecord}
use Rattle.jk_model_classes.specs.declared.records.TypeRef.{TypeRef}
use Rattle.jk_model_classes.specs.declared.sharing.Stub.{Stub}
use Rattle.jk_model_classes.specs.Classes.{Implements, OBJECT, own_interfaces, record_of, superclasses, superclasses_within}
use Rattle.jk_model_classes.specs.Stubs.{IsRemoteInterfaceOf}
use Rattle.jk_model_heaps.specs.Capabilities.{CapabilityIsA, OwnedCapability, ShowsInterface, StandsInFor, capability_numbered}
use Rattle.jk_model_domains.specs.Objects.{CAPABILITY}
use Rattle.jk_model_heaps.specs.SystemClasses.{REMOTE}
use Rattle.jk_model_sharing.specs.KnownStubs.{AreKnownStubs, AreRising}
use Rattle.jk_model_sharing.specs.SharedStates.{SharedState, caps_of, stub_for, stub_of}
use Rattle.list_lemmas.proofs.FoundItems.{Finds, finds}
use Rattle.list_lemmas.proofs.ItemsOfLists.{Contains-at, Contains-cases, Contains-here, Contains-none, Contains-there}
use Rattle.thread_stacks.proofs.FoundInStacks.{head_fails}
use Rattle.thread_stacks.specs.Places.{IsOnlyAt, IsPlaceOf, has_key}
use Rattle.thread_segments.specs.KnownStubs.{known_capabilities}

-- ---- A class that isn't there implements nothing.

superclasses-none : (classes : List ClassRecord) (c : ClassId) → record_of classes c ≡ None → superclasses classes c ≡ c ∷ []
superclasses-none classes c none =
    let height : c.0 + 1 ≡ suc c.0 = omega arith in
    ap (λ n. superclasses_within n classes c) height ∙ rw none refl

implements_nothing : (classes : List ClassRecord) (c i : ClassId) → record_of classes c ≡ None → Implements classes c i → ⊥
implements_nothing classes c i none (is, above) =
    let only : flat_map (λ (d : ClassId). d ∷ own_interfaces classes d) (superclasses classes c) ≡ c ∷ [] =
    ap (flat_map (λ (d : ClassId). d ∷ own_interfaces classes d)) (superclasses-none classes c none) ∙ rw none refl in
    let P : List ClassId → Type 0 = λ xs. Contains xs i in
    elim (Contains-cases i c [] (subst P only above)) [
      | inl same ↦
          let never : Some is.0 ≡ None = sym is.1 ∙ ap (record_of classes) (sym same) ∙ none in cc
      | inr later ↦ Contains-none i later
    ]

-- ---- The stub of a capability.

-- A capability, and its stub, which is among the stubs and of its class.
record Stubbed (s : SharedState) (k : CapId) (stub : Stub) : Type 0 where
  cap : OwnedCapability
  is_cap : capability_numbered (caps_of s) k ≡ Some cap
  among : Contains s.stubs stub
  class : stub.class ≡ cap.capability.class

found_stub : (stubs : List Stub) (c : ClassId) (stub : Stub) (o : Option Stub) → o ≡ Some stub → Finds (λ (e : Stub). e.class.0 == c.0) stubs o
    → Contains stubs stub × (stub.class ≡ c)
found_stub stubs c stub None e h = absurd cc
found_stub stubs c stub (Some x) e h =
    let same : x ≡ stub = same_Some x stub e in
    let number : x.class.0 ≡ c.0 = eqb-true x.class.0 c.0 h.2 in
    let class : x.class ≡ c = ap (λ (n : ℕ). let d : ClassId = record { 0 = n } in d) number in
    let P : Stub → Type 0 = λ y. Contains stubs y × (y.class ≡ c) in
    subst P same (Contains-at stubs h.0 x h.1, class)

stubbed_by : (s : SharedState) (k : CapId) (stub : Stub) (o : Option OwnedCapability) → capability_numbered (caps_of s) k ≡ o
    → option_and_then (λ (c : OwnedCapability). stub_for s c.capability.class) o ≡ Some stub → Stubbed s k stub
stubbed_by s k stub None at is = absurd cc
stubbed_by s k stub (Some c) at is =
    let f = found_stub s.stubs c.capability.class stub (stub_for s c.capability.class) is (finds (λ (e : Stub). e.class.0 == c.capability.class.0) s.stubs) in
    record { cap = c; is_cap = at; among = f.0; class = f.1 }

stubbed : (s : SharedState) (k : CapId) (stub : Stub) → stub_of s k ≡ Some stub → Stubbed s k stub
stubbed s k stub is = stubbed_by s k stub (capability_numbered (caps_of s) k) refl is

-- the interface is one that a capability of the number shows, or for which a stub stands in
abbrev pub IsShown : List ClassRecord → SharedState → CapId → ClassId → Type 0
IsShown classes s k i =
    (c : OwnedCapability) × (capability_numbered (caps_of s) k ≡ Some c)
    × (ShowsInterface classes c.capability i ⊎ StandsInFor classes s.stubs c.capability i)

module _ (classes : List ClassRecord) (s : SharedState) (k : CapId) (stub : Stub) (known : AreKnownStubs classes s.stubs) (is : stub_of s k ≡ Some stub)
    (i : ClassId) where
  pub listed_is_shown : Contains stub.interfaces i → IsShown classes s k i
  listed_is_shown there =
      let x = stubbed s k stub is in
      elim (known.each stub x.among) [
        | inl of_class ↦
            let P : ClassId → Type 0 = λ c. IsRemoteInterfaceOf classes c i in
            (x.cap, x.is_cap, inl (subst P x.class (of_class.listed i there)))
        | inr gone ↦
            let none : record_of classes x.cap.capability.class ≡ None = ap (record_of classes) (sym x.class) ∙ gone.not_there in
            (x.cap, x.is_cap, inr (none, (stub, x.among, x.class, there)))
      ]

  stands_in : (x : Stubbed s k stub) → StandsInFor classes s.stubs x.cap.capability i → Contains stub.interfaces i
  stands_in x (none, (other, among, class, there)) =
      let same : other ≡ stub = known.apart other stub among x.among (class ∙ sym x.class) in
      let P : Stub → Type 0 = λ y. Contains y.interfaces i in
      subst P same there

  shows : (x : Stubbed s k stub) → ShowsInterface classes x.cap.capability i → Contains stub.interfaces i
  shows x interface =
      elim (known.each stub x.among) [
        | inl of_class ↦
            let P : ClassId → Type 0 = λ c. IsRemoteInterfaceOf classes c i in
            of_class.all i (subst P (sym x.class) interface)
        | inr gone ↦
            absurd (implements_nothing classes x.cap.capability.class i (ap (record_of classes) (sym x.class) ∙ gone.not_there) interface.0)
      ]

  pub shown_is_listed : IsShown classes s k i → Contains stub.interfaces i
  shown_is_listed (c, at, shown) =
      let x = stubbed s k stub is in
      let same : c ≡ x.cap = same_Some c x.cap (sym at ∙ x.is_cap) in
      let P : OwnedCapability → Type 0 = λ d. ShowsInterface classes d.capability i ⊎ StandsInFor classes s.stubs d.capability i in
      elim (subst P same shown) [
        | inl interface ↦ shows x interface
        | inr instead ↦ stands_in x instead
      ]

-- its interfaces rise
pub rising_stub : (classes : List ClassRecord) (s : SharedState) (k : CapId) (stub : Stub) → AreKnownStubs classes s.stubs → stub_of s k ≡ Some stub
    → AreRising stub.interfaces
rising_stub classes s k stub known is =
    elim (known.each stub (stubbed s k stub is).among) [ inl of_class ↦ of_class.rising | inr gone ↦ gone.rising ]

-- ---- Instances.

named_or : ClassId → BaseRef → ClassId
named_or d (Base.Class c) = c
named_or d Base.Byte = d
named_or d Base.Char = d
named_or d Base.Int = d
named_or d Base.Long = d
named_or d Base.Short = d
named_or d Base.Bool = d

-- a type is one class at most
one_class : (t : TypeRef) (c d : ClassId) → t ≡ record { dims = 0; base = Base.Class c } → t ≡ record { dims = 0; base = Base.Class d } → c ≡ d
unfolding named_or
one_class t c d is_c is_d = ap (λ (x : TypeRef). named_or c x.base) (sym is_c ∙ is_d)

module _ (classes : List ClassRecord) (s : SharedState) (k : CapId) (stub : Stub) (known : AreKnownStubs classes s.stubs) (is : stub_of s k ≡ Some stub)
    (t : TypeRef) (c : ClassId) (named : t ≡ record { dims = 0; base = Base.Class c }) where
  pub listed_is_a : Contains stub.interfaces c → CapabilityIsA classes (known_capabilities s) k t
  listed_is_a there = record { class = c; no_array = named; above = inr (inr (inr (listed_is_shown classes s k stub known is c there))) }

  pub is_a_listed : ((c ≡ OBJECT) ⊎ (c ≡ CAPABILITY) ⊎ (c ≡ REMOTE) → ⊥) → CapabilityIsA classes (known_capabilities s) k t → Contains stub.interfaces c
  is_a_listed other x =
      let same : x.class ≡ c = one_class t x.class c x.no_array named in
      elim (x.above) [
        | inl object ↦ absurd (other (inl (sym same ∙ object)))
        | inr more ↦ elim more [
          | inl capability ↦ absurd (other (inr (inl (sym same ∙ capability))))
          | inr least ↦ elim least [
            | inl remote ↦ absurd (other (inr (inr (sym same ∙ remote))))
            | inr shown ↦
                let P : ClassId → Type 0 = λ i. IsShown classes s k i in
                shown_is_listed classes s k stub known is c (subst P same shown)
          ]
        ]
      ]

-- ---- A search among interfaces that rise.

abbrev pub class_key : ClassId → ℕ
class_key c = c.0

same_class : (a b : ClassId) → a.0 ≡ b.0 → a ≡ b
same_class a b e = ap (λ (n : ℕ). let d : ClassId = record { 0 = n } in d) e

only_stands : (xs : List ClassId) (i k : ℕ) → IsOnlyAt (has_key class_key k) xs i → (x : ClassId) × Contains xs x × (x.0 ≡ k)
only_stands [] i k h = absurd h
only_stands (x ∷ xs) zero k h = (x, Contains-here x xs, eqb-true x.0 k h.0)
only_stands (x ∷ xs) (suc i) k h =
    let rest = only_stands xs i k h.1 in (rest.0, Contains-there rest.0 x xs rest.1, rest.2)

none_stands : (xs : List ClassId) (c : ClassId) → find (has_key class_key c.0) xs ≡ None → Contains xs c → ⊥
none_stands [] c h there = Contains-none c there
none_stands (x ∷ xs) c h there =
    let head = head_fails (has_key class_key c.0) x xs h in
    elim (Contains-cases c x xs there) [
      | inl here ↦
          let never : true ≡ false = sym (eq-eqb x.0 c.0 (ap class_key here)) ∙ head.0 in cc
      | inr later ↦ none_stands xs c head.1 later
    ]

pub says_listed : (xs : List ClassId) (c : ClassId) (r : Result ℕ ℕ) → IsPlaceOf (has_key class_key c.0) xs (result_ok r)
    → (IsTrue (is_ok r) → Contains xs c) × (Contains xs c → IsTrue (is_ok r))
says_listed xs c (Ok i) h =
    let x = only_stands xs i c.0 h in
    let P : ClassId → Type 0 = λ y. Contains xs y in
    (λ _. subst P (same_class x.0 c x.2) x.1, λ _. refl)
says_listed xs c (Err i) h = (λ never. absurd cc, λ there. absurd (none_stands xs c h there))
