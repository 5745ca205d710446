-- Capabilities: each domain has a range of numbers of its own, gives them out in order, and keeps them whatever becomes of it. A
-- capability shows the remote interfaces of the class that its target had when it was created.
use Rattle.std.specs.Prelude.{◌≡◌, ℕ, ◌+◌, ◌-◌, ◌⊎◌, ◌&&◌, Bool, List, Contains, find, Option, Some, None, option_and_then, option_map, slice_get, nat_le, nat_lt}
use Rattle.jk_model.specs.declared.identifiers.CapId.{CapId}
use Rattle.jk_model.specs.declared.identifiers.ClassId.{ClassId}
use Rattle.jk_model.specs.declared.identifiers.DomainId.{DomainId}
use Rattle.jk_model_classes.specs.declared.records.BaseRef.TheVariants as Base
use Rattle.jk_model_classes.specs.declared.records.ClassRecord.{ClassRecord}
use Rattle.jk_model_classes.specs.declared.records.TypeRef.{TypeRef}
use Rattle.jk_model_classes.specs.declared.sharing.Stub.{Stub}
use Rattle.jk_model_classes.specs.Classes.{OBJECT, record_of}
use Rattle.jk_model_classes.specs.Stubs.{IsRemoteInterfaceOf}
use Rattle.jk_model_domains.specs.Objects.{CAPABILITY}
use Rattle.jk_model_heaps.specs.SystemClasses.{REMOTE}

pub record Capability : Type 0 where
  -- a name in its owner's heap
  pub target : ℕ
  -- that of the target when the capability was created
  pub class : ClassId
  pub revoked : Bool

-- The capabilities of one domain.
pub record CapRange : Type 0 where
  pub owner : DomainId
  -- its first number, and how many numbers it has
  pub first : ℕ
  pub count : ℕ
  -- what was created, in order: the first has the first number, the next one the next
  pub made : List Capability

-- ---- By number.

abbrev pub has_number : CapId → CapRange → Bool
has_number k r = nat_le r.first k.0 && nat_lt k.0 (r.first + r.count)

-- a capability, and whose it is
pub record OwnedCapability : Type 0 where
  pub owner : DomainId
  pub capability : Capability

abbrev pub capability_in : CapId → CapRange → Option OwnedCapability
capability_in k r = option_map (λ (c : Capability). record { owner = r.owner; capability = c }) (slice_get r.made (k.0 - r.first))

-- nothing where the number wasn't given out
abbrev pub capability_numbered : List CapRange → CapId → Option OwnedCapability
capability_numbered caps k = option_and_then (capability_in k) (find (has_number k) caps)

abbrev pub IsGivenOut : List CapRange → CapId → Type 0
IsGivenOut caps k = (c : OwnedCapability) × (capability_numbered caps k ≡ Some c)

-- ---- What a capability is an instance of: java/lang/Object, jk/Capability, jk/Remote, and the interfaces that it shows.

-- What is known of capabilities where a domain runs.
pub record KnownCapabilities : Type 0 where
  pub ranges : List CapRange
  -- Of capabilities whose targets' classes aren't among the classes: what they show, by numbers that no class has. A machine has none
  -- of these; where a domain is replayed alone they stand in for the capabilities of others.
  pub stand_ins : List Stub

abbrev pub ShowsInterface : List ClassRecord → Capability → ClassId → Type 0
ShowsInterface classes c i = IsRemoteInterfaceOf classes c.class i

-- of a capability whose target's class isn't there
abbrev pub StandsInFor : List ClassRecord → List Stub → Capability → ClassId → Type 0
StandsInFor classes stand_ins c i =
    (record_of classes c.class ≡ None) × ((s : Stub) × Contains stand_ins s × (s.class ≡ c.class) × Contains s.interfaces i)

pub record CapabilityIsA (classes : List ClassRecord) (caps : KnownCapabilities) (k : CapId) (t : TypeRef) : Type 0 where
  pub class : ClassId
  pub no_array : t ≡ record { dims = 0; base = Base.Class class }
  pub above : (class ≡ OBJECT) ⊎ (class ≡ CAPABILITY) ⊎ (class ≡ REMOTE)
      ⊎ ((c : OwnedCapability) × (capability_numbered caps.ranges k ≡ Some c)
      × (ShowsInterface classes c.capability class ⊎ StandsInFor classes caps.stand_ins c.capability class))
