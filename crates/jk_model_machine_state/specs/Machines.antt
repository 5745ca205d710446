-- A machine: classes, domains with heaps and capabilities of their own, threads as stacks of segments, and a list of names that are
-- bound to capabilities.
use Rattle.std.specs.Prelude.{◌≡◌, ℕ, ◌-◌, ◌==◌, ◌&&◌, Bool, false, List, [], ◌∷◌, ◌++◌, length, map, filter, sum_by, find, Option, Some, None, option_map, slice_get, bytes_eq, not, if◌then◌else◌}
use Rattle.jk_model.specs.declared.identifiers.DomainId.{DomainId}
use Rattle.jk_model.specs.declared.identifiers.ThreadNo.{ThreadNo}
use Rattle.jk_model.specs.declared.script.Quotas.{Quotas}
use Rattle.jk_model_classes.specs.declared.records.ClassRecord.{ClassRecord}
use Rattle.jk_model_classes.specs.declared.sharing.Offer.{Offer}
use Rattle.jk_model_classes.specs.SystemRecords.{AreSystemRecords}
use Rattle.jk_model_classes.specs.Worlds.{NamedClass, WorldRecord}
use Rattle.jk_model_frames.specs.Frames.{FrameState, segment_chunks}
use Rattle.jk_model_heaps.specs.Capabilities.{CapRange}
use Rattle.jk_model_heaps.specs.Workings.{Inside}
use Rattle.jk_model_sharing.specs.BoundNames.{BoundName}
use Rattle.jk_model_sharing.specs.Segments.{SegmentForm, SharedSegment}

-- ---- Domains.

pub record DomainState : Type 0 where
  pub number : DomainId
  pub name : List ℕ
  pub quotas : Quotas
  -- how many steps it may still take; none for any number
  pub steps_left : Option ℕ
  -- what names mean in it, what it offers, and its capabilities; these outlive it
  pub table : List NamedClass
  pub offers : List Offer
  pub caps : CapRange
  -- nothing of a domain that was killed
  pub inside : Option Inside

abbrev pub is_live_domain : DomainState → Bool
is_live_domain d = elim d.inside as (λ _. Bool) [ Some i ↦ Bool.true | None ↦ false ]

abbrev pub IsLiveDomain : DomainState → Type 0
IsLiveDomain d = is_live_domain d ≡ Bool.true

-- ---- Threads. Segments and frames stand lowest first.

-- what domains share of a segment, and its frames
pub record Segment : Type 0 where
  pub shared : SharedSegment
  pub frames : List FrameState

abbrev pub segment_form : SegmentForm Segment
segment_form = record { shared = λ (s : Segment). s.shared; with_shared = λ (new : SharedSegment) (s : Segment). record s { shared = new } }

pub record Thread : Type 0 where
  pub number : ThreadNo
  -- the domain in which it was started
  pub domain : DomainId
  pub segments : List Segment

-- ---- The whole machine.

pub record Machine : Type 0 where
  -- how many pages the pools of heaps and of stacks have; none where there is no pool
  pub heap_pages : Option ℕ
  pub stack_pages : Option ℕ
  -- in the order of loading
  pub classes : List ClassRecord
  -- all that were ever added, each at its number
  pub domains : List DomainState
  -- in the order of binding
  pub names : List BoundName
  -- the live ones, in rising number; each has a segment
  pub threads : List Thread
  pub next_thread : ℕ
  pub next_segment : ℕ

-- the world in which a folder is loaded
abbrev pub world_of : Machine → WorldRecord
world_of m = record {
  classes = m.classes;
  domains = map (λ (d : DomainState). record { id = d.number; name = d.name; live = is_live_domain d; table = d.table; offers = d.offers }) m.domains;
}

-- all ranges of capabilities, in the order of their domains
abbrev pub caps_of : Machine → List CapRange
caps_of m = map (λ (d : DomainState). d.caps) m.domains

-- ---- Parts by their numbers.

abbrev pub domain_at : Machine → DomainId → Option DomainState
domain_at m d = slice_get m.domains d.0

-- the live domain of a name
abbrev pub live_domain : Machine → List ℕ → Option DomainState
live_domain m name = find (λ (d : DomainState). is_live_domain d && bytes_eq d.name name) m.domains

abbrev pub thread_numbered : Machine → ThreadNo → Option Thread
thread_numbered m t = find (λ (thread : Thread). thread.number.0 == t.0) m.threads

abbrev pub IsLiveThread : Machine → ThreadNo → Type 0
IsLiveThread m t = (thread : Thread) × (thread_numbered m t ≡ Some thread)

-- how many live threads were started in a domain
abbrev pub started_in : Machine → DomainId → ℕ
started_in m d = length (filter (λ (thread : Thread). thread.domain.0 == d.0) m.threads)

-- ---- What is used of a domain's chunks: by its segments, on all threads.

abbrev pub chunks_of : DomainId → Segment → ℕ
chunks_of d s = if s.shared.domain.0 == d.0 then segment_chunks s.frames else 0

abbrev pub chunks_used : Machine → DomainId → ℕ
chunks_used m d = sum_by (λ (thread : Thread). sum_by (chunks_of d) thread.segments) m.threads

abbrev pub free_chunks : Machine → DomainState → ℕ
free_chunks m d = d.quotas.chunks - chunks_used m d.number

-- ---- Parts changed, by their numbers.

abbrev pub with_domain : DomainId → (DomainState → DomainState) → Machine → Machine
with_domain d change m = record m { domains = map (λ (e : DomainState). if e.number.0 == d.0 then change e else e) m.domains }

abbrev pub with_thread : ThreadNo → (Thread → Thread) → Machine → Machine
with_thread t change m = record m { threads = map (λ (e : Thread). if e.number.0 == t.0 then change e else e) m.threads }

abbrev pub without_thread : ThreadNo → Machine → Machine
without_thread t m = record m { threads = filter (λ (e : Thread). not (e.number.0 == t.0)) m.threads }

abbrev pub with_inside : DomainId → Inside → Machine → Machine
with_inside d inside m = with_domain d (λ e. record e { inside = Some inside }) m

abbrev pub with_segments : ThreadNo → List Segment → Machine → Machine
with_segments t segments m = with_thread t (λ e. record e { segments = segments }) m

-- each thread's stack of segments changed
abbrev pub with_stacks : (List Segment → List Segment) → Machine → Machine
with_stacks change m = record m { threads = map (λ (e : Thread). record e { segments = change e.segments }) m.threads }

-- a step is paid: a domain with a budget has one step fewer
abbrev pub paid : DomainId → Machine → Machine
paid d m = with_domain d (λ e. record e { steps_left = option_map (λ (n : ℕ). n - 1) e.steps_left }) m

-- ---- The machine without domains over these pools, in which the system classes alone are loaded.

pub record IsFirstMachine (heap_pages stack_pages : Option ℕ) (m : Machine) : Type 0 where
  pub heap_pool : m.heap_pages ≡ heap_pages
  pub stack_pool : m.stack_pages ≡ stack_pages
  pub system : AreSystemRecords m.classes
  pub no_domains : m.domains ≡ []
  pub no_names : m.names ≡ []
  pub no_threads : m.threads ≡ []
  pub threads_from : m.next_thread ≡ 1
  pub segments_from : m.next_segment ≡ 1
