-- What domains share, put together of plain lists, one kind after the other.
use Rattle.std.specs.Prelude.{◌≡◌, ℕ, ◌+◌, ◌<◌, ◌≤◌, ◌^◌, ◌==◌, ◌++◌, ◌∷◌, Bool, List, [], Contains, true, filter, find, flat_map, length, map, set, sum_by, Some, slice_get, if◌then◌else◌}
use Rattle.jk_model.specs.declared.identifiers.DomainId.{DomainId}
use Rattle.jk_model_heaps.specs.Capabilities.{CapRange, Capability, has_number}
use Rattle.jk_model_sharing.specs.BoundNames.{BoundName}
use Rattle.jk_model_sharing.specs.CapabilityCalls.{next_number}
use Rattle.jk_model_sharing.specs.SharedStates.{SharedState, caps_of}
use Rattle.thread_segments.specs.declared.domains.DomainEntry.{DomainEntry}
use Rattle.thread_segments.specs.declared.parts.CapPart.{CapPart}
use Rattle.thread_segments.specs.declared.parts.DomainPart.{DomainPart}
use Rattle.thread_segments.specs.declared.parts.NamePart.{NamePart}
use Rattle.thread_segments.specs.declared.parts.SharedParts.{SharedParts}
use Rattle.thread_segments.specs.NameEntries.{NameList}
use Rattle.thread_segments.specs.SoundStates.{AreSound}
use Rattle.thread_segments.specs.StateParts.{cap_parts, domain_part, thread_part}
use Rattle.thread_stacks.specs.declared.parts.ThreadPart.{ThreadPart}
use Rattle.thread_stacks.specs.StackAnswers.{segments_in}
use Rattle.thread_stacks.specs.Stacks.{ThreadList}

-- ---- Room: a domain that has ended asks for none.

abbrev pub threads_asked : DomainPart → ℕ
threads_asked p = if p.live then p.quotas.threads else 0

abbrev pub chunks_asked : DomainPart → ℕ
chunks_asked p = if p.live then p.quotas.chunks else 0

abbrev pub names_asked : DomainPart → ℕ
names_asked p = if p.live then p.quotas.names else 0

-- threads of more domains, with room for those that these may begin
abbrev pub with_thread_room : List DomainPart → ThreadList → ThreadList
with_thread_room domains t = record t {
  most = t.most + sum_by threads_asked domains;
  most_segments = t.most_segments + sum_by chunks_asked domains;
  domains = t.domains + length domains;
}

-- names, with room for those that these domains may bind
abbrev pub with_name_room : List DomainPart → NameList → NameList
with_name_room domains n = record n { most = n.most + sum_by names_asked domains }

-- ---- Threads and names.

-- The threads of these parts, with room for them and for those that live domains may begin.
pub record AreThreadsOf (parts : SharedParts) (t : ThreadList) : Type 0 where
  pub threads : parts.threads ≡ map thread_part t.threads
  pub next_thread : t.next_thread ≡ parts.next_thread
  pub next_segment : t.next_segment ≡ parts.next_segment
  pub most : t.most ≡ length parts.threads + sum_by threads_asked parts.domains
  pub most_segments : t.most_segments ≡ length (segments_in t.threads) + sum_by chunks_asked parts.domains
  pub domains : t.domains ≡ length parts.domains

abbrev pub name_told : NamePart → BoundName
name_told p = record { text = p.text; cap = p.cap; binder = p.binder }

-- with these names behind the others, and room for them
abbrev pub with_names : List NamePart → NameList → NameList
with_names parts n = record { names = n.names ++ map name_told parts; most = n.most + length parts }

-- ---- Capabilities.

abbrev pub capability_told : CapPart → Capability
capability_told p = record { target = p.target; class = p.class; revoked = p.revoked }

abbrev pub is_owner : ℕ → CapPart → Bool
is_owner d p = p.owner.0 == d

-- a range, of whose capabilities none but those among these are made yet
abbrev pub with_made : List CapPart → CapRange → CapRange
with_made parts r = record r { made = map capability_told (filter (is_owner r.owner.0) parts) }

-- the range of a capability's owner, with it
abbrev pub with_one : CapPart → CapRange → CapRange
with_one p r = if p.owner.0 == r.owner.0 then record r { made = r.made ++ capability_told p ∷ [] } else r

-- A capability may be made: its owner has one range, which has room, and no other range has its number.
pub record MayMake (caps : List CapRange) (p : CapPart) : Type 0 where
  pub range : CapRange
  pub there : Contains caps range
  pub own : range.owner.0 ≡ p.owner.0
  pub found : find (λ (r : CapRange). r.owner.0 == p.owner.0) caps ≡ Some range
  pub room : length range.made < range.count
  pub only : (r : CapRange) → Contains caps r → r.owner.0 ≡ p.owner.0 → r ≡ range
  pub apart : (r : CapRange) → Contains caps r → has_number (next_number range) r ≡ true → r.owner.0 ≡ p.owner.0

-- These are the domains of a state, which has no more than numbers of 32 bits.
pub record AreDomainsOf (parts : List DomainPart) (s : SharedState) : Type 0 where
  pub sound : AreSound s
  pub few : length s.domains ≤ 2 ^ 32
  pub told : parts ≡ map domain_part s.domains

-- The ranges are those of a state, where none of its capabilities, which are these, is made yet.
pub record AreCapsOf (caps : List CapRange) (parts : List CapPart) (s : SharedState) : Type 0 where
  pub sound : AreSound s
  pub told : parts ≡ flat_map cap_parts (caps_of s)
  pub begun : caps ≡ map (with_made []) (caps_of s)

-- ---- Domains.

-- a domain of whose threads and names none is counted yet
abbrev pub entry_told : DomainPart → DomainEntry
entry_told p = record { live = p.live; quotas = p.quotas; steps_left = p.steps_left; threads = 0; names = 0 }

abbrev pub more_threads : ℕ → DomainEntry → DomainEntry
more_threads n e = record e { threads = e.threads + n }

abbrev pub more_names : ℕ → DomainEntry → DomainEntry
more_names n e = record e { names = e.names + n }

-- where a thread was started, and where a name was bound
abbrev pub thread_home : ThreadPart → ℕ
thread_home t = t.domain.0

abbrev pub name_home : NamePart → ℕ
name_home n = n.binder.0

-- how many of these are at home in the domain of a number
abbrev pub count_at : {X : Type 0} → (X → ℕ) → List X → ℕ → ℕ
count_at home xs d = length (filter (λ x. home x == d) xs)

-- The entry of a domain alone is changed.
pub record ChangesEntry (change : DomainEntry → DomainEntry) (old new : List DomainEntry) (d : DomainId) : Type 0 where
  pub entry : DomainEntry
  pub there : slice_get old d.0 ≡ Some entry
  pub becomes : new ≡ set old d.0 (change entry)

-- Each domain has so many more as are at home in it.
pub record AreCountedUp {X : Type 0} (home : X → ℕ) (more : ℕ → DomainEntry → DomainEntry) (old new : List DomainEntry) (xs : List X) : Type 0 where
  pub as_many : length new ≡ length old
  pub each : (i : ℕ) (e : DomainEntry) → slice_get old i ≡ Some e → slice_get new i ≡ Some (more (count_at home xs i) e)

-- These are the domains of the parts, with their threads and names counted.
pub record AreEntriesOf (parts : SharedParts) (es : List DomainEntry) : Type 0 where
  pub as_many : length es ≡ length parts.domains
  pub each : (i : ℕ) (p : DomainPart) → slice_get parts.domains i ≡ Some p
      → slice_get es i ≡ Some (more_names (count_at name_home parts.names i) (more_threads (count_at thread_home parts.threads i) (entry_told p)))
