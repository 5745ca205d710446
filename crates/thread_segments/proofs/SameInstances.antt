-- What knows the ranges of all domains, and the stubs of classes that aren't there, has the instances that the stubs tell.
use Rattle.std.proofs.Common.{◌≡◌, ◌⊎◌, inl, inr, ap, sym, ◌∙◌, List, Contains, Some, None}
use Rattle.jk_model.specs.declared.identifiers.CapId.{CapId}
use Rattle.jk_model.specs.declared.identifiers.ClassId.{ClassId}
use Rattle.jk_model.specs.declared.values.Value.{Value}
use Rattle.jk_model.specs.declared.values.Value.TheVariants as Held
use Rattle.jk_model_classes.specs.declared.records.ClassRecord.{ClassRecord}
use Rattle.jk_model_classes.specs.declared.records.TypeRef.{TypeRef}
use Rattle.jk_model_classes.specs.declared.sharing.Stub.{Stub}
use Rattle.jk_model_classes.specs.Classes.{record_of}
use Rattle.jk_model_domains.specs.Objects.{NamedObject}
use Rattle.jk_model_heaps.specs.Capabilities.{Capability, CapabilityIsA, CapRange, KnownCapabilities, OwnedCapability, ShowsInterface, StandsInFor, capability_numbered}
use Rattle.jk_model_heaps.specs.Instances.{IsInstance}
use Rattle.thread_segments.specs.KnownStubs.{HaveSameInstances, known_capabilities}

-- The stubs of classes that aren't there are among those that stand in.
abbrev Includes : List ClassRecord → List Stub → List Stub → Type 0
Includes classes stubs others = (stub : Stub) → record_of classes stub.class ≡ None → Contains stubs stub → Contains others stub

stands_in_too : (classes : List ClassRecord) (stubs others : List Stub) (c : Capability) (i : ClassId) → Includes classes stubs others
    → StandsInFor classes stubs c i → StandsInFor classes others c i
stands_in_too classes stubs others c i more (none, (stub, among, class, shown)) =
    let gone : record_of classes stub.class ≡ None = ap (record_of classes) class ∙ none in (none, (stub, more stub gone among, class, shown))

-- of a capability of this number, an interface is shown, or a stub stands in for it
abbrev IsShownBy : List ClassRecord → List CapRange → List Stub → CapId → ClassId → Type 0
IsShownBy classes ranges stubs k i =
    (c : OwnedCapability) × (capability_numbered ranges k ≡ Some c) × (ShowsInterface classes c.capability i ⊎ StandsInFor classes stubs c.capability i)

shown_too : (classes : List ClassRecord) (old new : List CapRange) (stubs others : List Stub) (k : CapId) (i : ClassId) → new ≡ old
    → Includes classes stubs others → IsShownBy classes old stubs k i → IsShownBy classes new others k i
shown_too classes old new stubs others k i same more (c, is, shown) = (
  c,
  ap (λ (rs : List CapRange). capability_numbered rs k) same ∙ is,
  elim shown [ inl shows ↦ inl shows | inr instead ↦ inr (stands_in_too classes stubs others c.capability i more instead) ],
)

is_a_too : (classes : List ClassRecord) (old new : KnownCapabilities) (k : CapId) (t : TypeRef) → new.ranges ≡ old.ranges
    → Includes classes old.stand_ins new.stand_ins → CapabilityIsA classes old k t → CapabilityIsA classes new k t
is_a_too classes old new k t same more x = record {
  class = x.class;
  no_array = x.no_array;
  above =
      elim (x.above) [
        | inl object ↦ inl object
        | inr rest ↦ elim rest [
          | inl capability ↦ inr (inl capability)
          | inr least ↦ elim least [
            | inl remote ↦ inr (inr (inl remote))
            | inr shown ↦ inr (inr (inr (shown_too classes old.ranges new.ranges old.stand_ins new.stand_ins k x.class same more shown)))
          ]
        ]
      ];
}

instance_too : (classes : List ClassRecord) (old new : KnownCapabilities) (heap : List NamedObject) (v : Value) (t : TypeRef) → new.ranges ≡ old.ranges
    → Includes classes old.stand_ins new.stand_ins → IsInstance classes old heap v t → IsInstance classes new heap v t
instance_too classes old new heap (Held.Obj a) t same more h = h
instance_too classes old new heap (Held.Cap k) t same more h = is_a_too classes old new k t same more h
instance_too classes old new heap v t same more h = absurd h

pub same_instances : HaveSameInstances
same_instances classes s caps same stand heap v t = (
  instance_too classes (known_capabilities s) caps heap v t same (λ stub gone. (stand stub gone).0),
  instance_too classes caps (known_capabilities s) heap v t (sym same) (λ stub gone. (stand stub gone).1),
)
