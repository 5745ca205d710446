-- Domains as a list of entries and the list of their ranges of capabilities keep them.
use Rattle.std.specs.Prelude.{◌≡◌, ℕ, suc, ◌+◌, ◌-◌, ◌<◌, ◌≤◌, ◌^◌, List, [], ◌∷◌, length, sum_by, Some, slice_get, if◌then◌else◌}
use Rattle.std.specs.List.{AllByRecursion}
use Rattle.jk_model_classes.specs.declared.sharing.Stub.{Stub}
use Rattle.jk_model_heaps.specs.Capabilities.{CapRange}
use Rattle.jk_model_sharing.specs.BoundNames.{count_bound_by}
use Rattle.jk_model_sharing.specs.Segments.{SharedThread, count_started_in}
use Rattle.jk_model_sharing.specs.SharedStates.{SharedDomain, SharedState}
use Rattle.thread_segments.specs.declared.domains.DomainEntry.{DomainEntry}
use Rattle.thread_segments.specs.NameEntries.{NameList}
use Rattle.thread_segments.specs.SoundStates.{AreSound}
use Rattle.thread_stacks.specs.Stacks.{ThreadList}

abbrev pub domain_with : ℕ → DomainEntry → CapRange → SharedDomain
domain_with n e r = record { number = record { 0 = n }; live = e.live; quotas = e.quotas; steps_left = e.steps_left; caps = r }

-- the domains from this number on
abbrev pub domains_with : ℕ → List DomainEntry → List CapRange → List SharedDomain
domains_with n [] ranges = []
domains_with n (e ∷ entries) [] = []
domains_with n (e ∷ entries) (r ∷ ranges) = domain_with n e r ∷ domains_with (suc n) entries ranges

-- how many more threads may be started: none after the domain's end
abbrev pub spare : DomainEntry → ℕ
spare e = if e.live then e.quotas.threads - e.threads else 0

pub record AreCounted (entries : List DomainEntry) (ranges : List CapRange) (t : ThreadList) : Type 0 where
  pub as_many : length ranges ≡ length entries
  pub owners : (i : ℕ) (r : CapRange) → slice_get ranges i ≡ Some r → r.owner.0 ≡ i
  pub started : (i : ℕ) (e : DomainEntry) → slice_get entries i ≡ Some e → e.threads ≡ count_started_in t.threads (record { 0 = i })
  pub within : (i : ℕ) (e : DomainEntry) → slice_get entries i ≡ Some e → e.threads ≤ e.quotas.threads
  pub small : (i : ℕ) (e : DomainEntry) → slice_get entries i ≡ Some e → e.quotas.threads ≤ 4096
  pub homes : AllByRecursion (λ (thread : SharedThread). thread.domain.0 < length entries) t.threads
  -- there is room for all threads that may be started
  pub room : length t.threads + sum_by spare entries ≤ t.most

-- how many chunks a domain may have: none after its end
abbrev pub chunks_of : DomainEntry → ℕ
chunks_of e = if e.live then e.quotas.chunks else 0

-- There is room for a segment for each chunk that a domain may have, and for all domains, whose numbers have 32 bits.
pub record HasSegmentRoom (entries : List DomainEntry) (t : ThreadList) : Type 0 where
  pub room : sum_by chunks_of entries ≤ t.most_segments
  pub homes : length entries ≤ t.domains
  pub few : length entries ≤ 2 ^ 32

-- how many more names may be bound: none after the domain's end
abbrev pub spare_names : DomainEntry → ℕ
spare_names e = if e.live then e.quotas.names - e.names else 0

-- Names are counted of the domains that bound them.
pub record AreNamed (entries : List DomainEntry) (n : NameList) : Type 0 where
  pub bound : (i : ℕ) (e : DomainEntry) → slice_get entries i ≡ Some e → e.names ≡ count_bound_by n.names (record { 0 = i })
  pub within : (i : ℕ) (e : DomainEntry) → slice_get entries i ≡ Some e → e.names ≤ e.quotas.names
  pub small : (i : ℕ) (e : DomainEntry) → slice_get entries i ≡ Some e → e.quotas.names ≤ 4096
  -- there is room for all names that may be bound
  pub room : length n.names + sum_by spare_names entries ≤ n.most

-- ---- All that domains share.

abbrev pub state_of : List DomainEntry → List CapRange → List Stub → NameList → ThreadList → SharedState
state_of entries caps stubs n t = record {
  domains = domains_with 0 entries caps;
  names = n.names;
  threads = t.threads;
  next_thread = t.next_thread;
  next_segment = t.next_segment;
  stubs = stubs;
}

-- Counts are right, and what is seen is sound.
pub record IsKept (entries : List DomainEntry) (caps : List CapRange) (stubs : List Stub) (n : NameList) (t : ThreadList) : Type 0 where
  pub counted : AreCounted entries caps t
  pub named : AreNamed entries n
  pub segments : HasSegmentRoom entries t
  pub sound : AreSound (state_of entries caps stubs n t)
