-- What the capabilities of the examples aren't: of the type of a class that is none of the three that all capabilities are of, only what
-- its own capability shows, or what stands in for it, can make it an instance.
use Rattle.std.proofs.Common.{◌≡◌, ℕ, zero, suc, ◌⊎◌, IsTrue, [], ◌∷◌, Some, option_map, Contains, true, refl, inl, inr, sym, ap, subst, ◌∙◌, arith}
use Rattle.std.proofs.lemmas.Bool.{false≢true}
use Rattle.std.proofs.lemmas.Option.{none-some, same_Some}
use Rattle.jk_model.specs.Flags.{has, INTERFACE, PUBLIC}
use Rattle.jk_model.specs.declared.identifiers.CapId.{CapId}
use Rattle.jk_model.specs.declared.identifiers.ClassId.{ClassId}
use Rattle.jk_model_classes.specs.declared.records.ClassRecord.{ClassRecord}
use Rattle.jk_model_classes.specs.declared.sharing.Stub.{Stub}
use Rattle.jk_model_classes.specs.Classes.{IsInterface, OBJECT, record_of}
use Rattle.jk_model_domains.specs.Objects.{CAPABILITY}
use Rattle.jk_model_heaps.specs.Capabilities.{CapabilityIsA, OwnedCapability, ShowsInterface, StandsInFor, capability_numbered}
use Rattle.jk_model_heaps.specs.Examples.{BOX, ELSEWHERE, IMPL, MARK, array_of, classes, impl, known, ranges}
use Rattle.jk_model_heaps.specs.SystemClasses.{REMOTE}
use Rattle.jk_model_heaps.proofs.TypesApart.{apart, are_apart, class_of_type, never_remote, without}

abbrev pub cap : ℕ → CapId
cap n = record { 0 = n }

abbrev pub class_in : OwnedCapability → ClassId
class_in c = c.capability.class

-- the class that the target of a number's capability had
pub class_numbered : (k : CapId) (class : ClassId) (c : OwnedCapability) → option_map class_in (capability_numbered ranges k) ≡ Some class
    → capability_numbered ranges k ≡ Some c → class_in c ≡ class
class_numbered k class c known is = same_Some (class_in c) class (sym (ap (option_map class_in) is) ∙ known)

-- what the capability itself would have to do
abbrev pub MakesInstance : OwnedCapability → ClassId → Type 0
MakesInstance c class = ShowsInterface classes c.capability class ⊎ StandsInFor classes known.stand_ins c.capability class

pub never_instance : (k : CapId) (class : ClassId) → IsTrue (are_apart class OBJECT) → IsTrue (are_apart class CAPABILITY)
    → IsTrue (are_apart class REMOTE) → ((c : OwnedCapability) → capability_numbered ranges k ≡ Some c → MakesInstance c class → ⊥)
    → CapabilityIsA classes known k (array_of 0 class) → ⊥
never_instance k class no_object no_capability no_remote no_other h =
    let same : class ≡ h.class = class_of_type 0 0 class h.class h.no_array in
    elim h.above [
      | inl e ↦ apart class OBJECT no_object (same ∙ e)
      | inr (inl e) ↦ apart class CAPABILITY no_capability (same ∙ e)
      | inr (inr (inl e)) ↦ apart class REMOTE no_remote (same ∙ e)
      | inr (inr (inr (c, is, makes))) ↦ no_other c is (subst (MakesInstance c) (sym same) makes)
    ]

-- an interface that isn't remote is shown by nothing
pub shows_no_mark : (c : OwnedCapability) → ShowsInterface classes c.capability MARK → ⊥
shows_no_mark c h = never_remote classes MARK refl h.1

-- what stands in for a class isn't asked where the class is there
pub impl_is_there : (i : ClassId) → (c : OwnedCapability) → c.capability.class ≡ IMPL → StandsInFor classes known.stand_ins c.capability i → ⊥
impl_is_there i c is h = none-some impl (sym h.0 ∙ ap (record_of classes) is)

pub impl_is_no_interface : IsInterface classes IMPL → ⊥
impl_is_no_interface (r, is, flag) =
    let flags : has PUBLIC INTERFACE ≡ true = subst (λ (x : ClassRecord). has x.flags INTERFACE ≡ true) (sym (same_Some impl r is)) flag in
    false≢true flags

-- nothing stands in for the class that isn't there as an interface that isn't remote
mark_is_none : (s : Stub) → Contains known.stand_ins s → s.class ≡ ELSEWHERE → Contains s.interfaces MARK → ⊥
mark_is_none s (zero, low, is) same on = without (BOX ∷ []) MARK refl (subst (λ (x : Stub). Contains x.interfaces MARK) (sym is) on)
mark_is_none s (suc zero, low, is) same on = apart IMPL ELSEWHERE refl (ap (λ (x : Stub). x.class) is ∙ same)
mark_is_none s (suc (suc k), low, is) same on = absurd (omega (arith, low))

pub elsewhere_is_no_mark : (c : OwnedCapability) → c.capability.class ≡ ELSEWHERE → StandsInFor classes known.stand_ins c.capability MARK → ⊥
elsewhere_is_no_mark c is (none, (s, on, same, has)) = mark_is_none s on (same ∙ is) has
