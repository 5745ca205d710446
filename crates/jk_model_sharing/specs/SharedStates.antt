-- What domains share: who may do what and how often, capabilities, the repository of names, and the threads, whose segments stand here without
-- their frames. It is a machine without heaps, classes and frames.
use Rattle.std.specs.Prelude.{◌≡◌, ℕ, suc, ◌-◌, ◌<◌, ◌==◌, Bool, false, true, List, [], ◌∷◌, ◌++◌, find, map, Option, Some, option_and_then, option_map, if◌then◌else◌}
use Rattle.jk_model.specs.declared.identifiers.CapId.{CapId}
use Rattle.jk_model.specs.declared.identifiers.ClassId.{ClassId}
use Rattle.jk_model.specs.declared.identifiers.DomainId.{DomainId}
use Rattle.jk_model.specs.declared.identifiers.SegmentNo.{SegmentNo}
use Rattle.jk_model.specs.declared.identifiers.ThreadNo.{ThreadNo}
use Rattle.jk_model.specs.declared.script.Quotas.{Quotas}
use Rattle.jk_model_classes.specs.declared.sharing.Stub.{Stub}
use Rattle.jk_model_heaps.specs.Capabilities.{CapRange, OwnedCapability, capability_numbered}
use Rattle.jk_model_sharing.specs.BoundNames.{BoundName, without_names_of}
use Rattle.jk_model_sharing.specs.CapabilityCalls.{all_revoked, first_range}
use Rattle.jk_model_sharing.specs.Segments.{SharedSegment, SharedThread, count_started_in, live_threads, new_segment, resumed_in, segments_left, shared_form, stopped_in, suspended_in, with_segment, with_stack, with_stacks, without_top}

-- a domain that was ever admitted
pub record SharedDomain : Type 0 where
  pub number : DomainId
  pub live : Bool
  pub quotas : Quotas
  -- how many steps it may still take; none for any number
  pub steps_left : Option ℕ
  -- its capabilities, which outlive it
  pub caps : CapRange

pub record SharedState : Type 0 where
  -- in the order of admission
  pub domains : List SharedDomain
  -- in the order of binding
  pub names : List BoundName
  -- the live ones, in rising number; each has a segment
  pub threads : List SharedThread
  pub next_thread : ℕ
  pub next_segment : ℕ
  -- of all domains, in the order of admission
  pub stubs : List Stub

-- nothing was admitted yet
abbrev pub first_state : SharedState
first_state = record {
  domains = [];
  names = [];
  threads = [];
  next_thread = 1;
  next_segment = 1;
  stubs = [];
}

-- ---- Domains.

abbrev pub domain_numbered : SharedState → DomainId → Option SharedDomain
domain_numbered s d = find (λ (e : SharedDomain). e.number.0 == d.0) s.domains

abbrev pub with_domain : DomainId → (SharedDomain → SharedDomain) → SharedState → SharedState
with_domain d change s = record s { domains = map (λ (e : SharedDomain). if e.number.0 == d.0 then change e else e) s.domains }

-- the ranges of these domains
abbrev pub ranges_of : List SharedDomain → List CapRange
ranges_of domains = map (λ (e : SharedDomain). e.caps) domains

-- a domain that begins
abbrev pub first_domain : List SharedDomain → DomainId → Quotas → SharedDomain
first_domain domains d q = record {
  number = d;
  live = true;
  quotas = q;
  steps_left = q.steps;
  caps = first_range (ranges_of domains) d q.caps;
}

abbrev pub admitted : DomainId → Quotas → List Stub → SharedState → SharedState
admitted d q stubs s = record s { domains = s.domains ++ first_domain s.domains d q ∷ []; stubs = s.stubs ++ stubs }

-- a step is paid: a domain with a budget has one fewer
abbrev pub spent : DomainId → SharedState → SharedState
spent d s = with_domain d (λ (e : SharedDomain). record e { steps_left = option_map (λ (n : ℕ). n - 1) e.steps_left }) s

-- ---- Capabilities.

abbrev pub caps_of : SharedState → List CapRange
caps_of s = ranges_of s.domains

abbrev pub with_caps : DomainId → CapRange → SharedState → SharedState
with_caps d range s = with_domain d (λ (e : SharedDomain). record e { caps = range }) s

-- the stub of a class; none where it has none
abbrev pub stub_for : SharedState → ClassId → Option Stub
stub_for s c = find (λ (e : Stub). e.class.0 == c.0) s.stubs

-- the stub with which a capability was made; none where its number wasn't given out
abbrev pub stub_of : SharedState → CapId → Option Stub
stub_of s k = option_and_then (λ (c : OwnedCapability). stub_for s c.capability.class) (capability_numbered (caps_of s) k)

-- ---- Threads and segments. Each draws the next number.

-- the segment that is put on top of a stack next
abbrev pub drawn_segment : SharedState → DomainId → SharedSegment
drawn_segment s d = new_segment (record { 0 = s.next_segment }) d

-- one more live thread may be started in the domain
abbrev pub MayBegin : SharedState → DomainId → Type 0
MayBegin s d = (e : SharedDomain) × (domain_numbered s d ≡ Some e) × (count_started_in s.threads d < e.quotas.threads)

-- a thread with its first segment
abbrev pub begun : DomainId → SharedState → SharedState
begun d s = record s {
  threads = s.threads ++ record { number = record { 0 = s.next_thread }; domain = d; segments = drawn_segment s d ∷ [] } ∷ [];
  next_thread = suc s.next_thread;
  next_segment = suc s.next_segment;
}

-- a segment of a domain on top of a thread
abbrev pub pushed : ThreadNo → DomainId → SharedState → SharedState
pushed t d s = record s {
  threads = with_stack t (λ (segments : List SharedSegment). segments ++ drawn_segment s d ∷ []) s.threads;
  next_segment = suc s.next_segment;
}

-- the top segment of a thread is gone, and the thread with its last one
abbrev pub popped : ThreadNo → SharedState → SharedState
popped t s = record s { threads = live_threads (with_stack t without_top s.threads) }

-- the segment of a number changed; nothing changes once it is gone
abbrev pub with_flags : SegmentNo → (SharedSegment → SharedSegment) → SharedState → SharedState
with_flags n change s = record s { threads = with_stacks (with_segment shared_form n change) s.threads }

abbrev pub Suspends : SharedState → SegmentNo → SharedState → Type 0
Suspends old n new = new ≡ record old { threads = with_stacks (suspended_in shared_form n) old.threads }

abbrev pub Resumes : SharedState → SegmentNo → SharedState → Type 0
Resumes old n new = new ≡ record old { threads = with_stacks (resumed_in shared_form n) old.threads }

abbrev pub Stops : SharedState → SegmentNo → SharedState → Type 0
Stops old n new = new ≡ record old { threads = with_stacks (stopped_in shared_form n) old.threads }

-- ---- The end of a domain.

pub record Drops (s : SharedState) (d : DomainId) (new : SharedState) : Type 0 where
  -- it isn't live, and its capabilities are revoked
  pub domains : new.domains ≡ (with_domain d (λ (e : SharedDomain). record e { live = false; caps = all_revoked e.caps }) s).domains
  -- the names that it bound are removed
  pub names : new.names ≡ without_names_of d s.names
  -- its segments are taken out of every thread
  pub threads : new.threads ≡ live_threads (with_stacks (segments_left shared_form d) s.threads)
  -- no number is used again, and stubs stay
  pub next_thread : new.next_thread ≡ s.next_thread
  pub next_segment : new.next_segment ≡ s.next_segment
  pub stubs : new.stubs ≡ s.stubs
