-- The state that domains share, without its stubs, as plain lists.
use Rattle.std.specs.Prelude.{◌≡◌, ℕ, ◌+◌, List, [], ◌∷◌, map, flat_map}
use Rattle.std.specs.List.{enumerate_from}
use Rattle.std.specs.Option.{option_map_or}
use Rattle.jk_model.specs.declared.identifiers.CapId.{CapId}
use Rattle.jk_model_heaps.specs.Capabilities.{CapRange, Capability, OwnedCapability, capability_numbered}
use Rattle.jk_model_sharing.specs.BoundNames.{BoundName}
use Rattle.jk_model_sharing.specs.SharedStates.{SharedDomain, SharedState, caps_of}
use Rattle.thread_segments.specs.declared.domains.DomainEntry.{DomainEntry}
use Rattle.thread_segments.specs.declared.parts.CapPart.{CapPart}
use Rattle.thread_segments.specs.declared.parts.DomainPart.{DomainPart}
use Rattle.thread_segments.specs.declared.parts.NamePart.{NamePart}
use Rattle.thread_segments.specs.declared.parts.SharedParts.{SharedParts}
pub use Rattle.thread_stacks.specs.StackParts.{segment_part, thread_part}

abbrev pub domain_part : SharedDomain → DomainPart
domain_part e = record { live = e.live; quotas = e.quotas; first_cap = e.caps.first; steps_left = e.steps_left }

-- how many numbers of capabilities a domain has
abbrev pub numbers_of : DomainEntry → ℕ
numbers_of e = e.quotas.caps

-- entries as parts, where the range of the first begins at this number, and each other directly behind the one before it
abbrev pub entry_parts : ℕ → List DomainEntry → List DomainPart
entry_parts first [] = []
entry_parts first (e ∷ entries) =
    record { live = e.live; quotas = e.quotas; first_cap = first; steps_left = e.steps_left } ∷ entry_parts (first + e.quotas.caps) entries

-- a capability by its place in its range
abbrev pub cap_part : CapRange → ℕ × Capability → CapPart
cap_part r e = record {
  number = record { 0 = r.first + e.0 };
  owner = r.owner;
  target = e.1.target;
  revoked = e.1.revoked;
  class = e.1.class;
}

-- what is known of a capability that was given out, as a part
abbrev pub owned_part : CapId → OwnedCapability → CapPart
owned_part k o = record {
  number = k;
  owner = o.owner;
  target = o.capability.target;
  revoked = o.capability.revoked;
  class = o.capability.class;
}

-- the part of this number: nothing where it wasn't given out
abbrev pub part_at : List CapRange → ℕ → List CapPart
part_at caps n =
    option_map_or (λ (o : OwnedCapability). owned_part (record { 0 = n }) o ∷ []) (capability_numbered caps (record { 0 = n })) []

-- those of a range, rising by number
abbrev pub cap_parts : CapRange → List CapPart
cap_parts r = map (cap_part r) (enumerate_from 0 r.made)

abbrev pub name_part : BoundName → NamePart
name_part n = record { text = n.text; cap = n.cap; binder = n.binder }

pub record ArePartsOf (s : SharedState) (p : SharedParts) : Type 0 where
  pub next_thread : p.next_thread ≡ s.next_thread
  pub next_segment : p.next_segment ≡ s.next_segment
  -- by number
  pub domains : p.domains ≡ map domain_part s.domains
  -- rising by number
  pub caps : p.caps ≡ flat_map cap_parts (caps_of s)
  -- in the order of binding
  pub names : p.names ≡ map name_part s.names
  -- rising by number, and their segments lowest first
  pub threads : p.threads ≡ map thread_part s.threads
