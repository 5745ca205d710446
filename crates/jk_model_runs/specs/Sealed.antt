-- What holds of a machine at every moment: no name crosses from one domain to another, each value fits where it stands, each frame
-- fits its method's least typing, and nobody uses more than its quotas.
use Rattle.std.specs.Prelude.{◌≡◌, ◌≢◌, ℕ, ◌+◌, ◌<◌, ◌≤◌, ◌⊎◌, Bool, true, false, List, [], ◌∷◌, length, not, take, Contains, Some, None, slice_get, count_by, ◌&&◌, filter, sum_by, ◌==◌, if◌then◌else◌}
use Rattle.std.specs.Option.{option_map_or}
use Rattle.jk_model.specs.Capabilities.{last_number}
use Rattle.jk_model.specs.declared.identifiers.ClassId.{ClassId}
use Rattle.jk_model.specs.declared.identifiers.DomainId.{DomainId}
use Rattle.jk_model.specs.declared.identifiers.SegmentNo.{SegmentNo}
use Rattle.jk_model.specs.declared.identifiers.ThreadNo.{ThreadNo}
use Rattle.jk_model_classes.specs.declared.records.ClassRecord.{ClassRecord}
use Rattle.jk_model_classes.specs.Classes.{record_of}
use Rattle.jk_model_classes.specs.Stubs.{ImplementsRemote}
use Rattle.jk_model_domains.specs.declared.states.ClassState.TheVariants as State
use Rattle.jk_model_domains.specs.Objects.{Task}
use Rattle.jk_model_domains.specs.OwnStates.{state_of}
use Rattle.jk_model_frames.specs.Frames.{FrameState}
use Rattle.jk_model_frames.specs.Pools.{IsPlaced, Pool}
use Rattle.jk_model_heaps.specs.Capabilities.{Capability, IsGivenOut}
use Rattle.jk_model_heaps.specs.Workings.{Inside}
use Rattle.jk_model_sealing.specs.ClassesInProgress.{initialises, progress_by}
use Rattle.jk_model_sealing.specs.FittingFrames.{FitsAsTop, FitsAtCall}
use Rattle.jk_model_sealing.specs.SealedInsides.{IsOfClass, IsSealedInside, Surroundings}
use Rattle.jk_model_sealing.specs.SealedRuns.{AreSealedFrames}
use Rattle.jk_model_sharing.specs.BoundNames.{BoundName, count_bound_by, longest_name}
use Rattle.jk_model_machine_state.specs.Machines.{DomainState, Machine, Segment, Thread, IsLiveDomain, IsLiveThread, caps_of, chunks_used, is_live_domain, started_in}
use Rattle.jk_model_machine_state.specs.Places.{LiveDomain}
use Rattle.jk_model_openings.specs.PoolsOfMachines.{heap_pool, stack_pool}

abbrev pub surroundings : Machine → DomainState → Surroundings
surroundings m d = record { classes = m.classes; table = d.table; caps = caps_of m }

-- ---- Domains.

abbrev is_unknown : List ClassRecord → Capability → Bool
is_unknown classes c = option_map_or (λ (r : ClassRecord). false) (record_of classes c.class) true

abbrev is_one_unknown : List ClassRecord → List Capability → Bool
is_one_unknown classes (c ∷ []) = is_unknown classes c
is_one_unknown classes made = false

-- a dead domain whose one capability is of a class that isn't there: it stands in for another domain, where one is replayed alone
abbrev pub is_stand_in : List ClassRecord → DomainState → Bool
is_stand_in classes d = not (is_live_domain d) && is_one_unknown classes d.caps.made

pub record AreSealedDomains (m : Machine) : Type 0 where
  -- each stands at its number
  pub numbered : (i : ℕ) (d : DomainState) → slice_get m.domains i ≡ Some d → d.number.0 ≡ i
  -- at most so many, but for those that a replay makes for capabilities of domains that it doesn't have
  pub few : length (filter (λ (d : DomainState). not (is_stand_in m.classes d)) m.domains) ≤ 65535
  pub names_differ : (i j : ℕ) (a b : DomainState) → slice_get m.domains i ≡ Some a → slice_get m.domains j ≡ Some b
      → IsLiveDomain a → IsLiveDomain b → a.name ≡ b.name → i ≡ j
  -- a live one keeps within its quota of words, and one that was killed has no inside
  pub insides : (d : DomainState) (inside : Inside) → Contains m.domains d → d.inside ≡ Some inside
      → IsSealedInside (surroundings m d) d.quotas.heap inside
  pub chunks : (d : DomainState) → Contains m.domains d → chunks_used m d.number ≤ d.quotas.chunks
  -- it has a number of steps left exactly where its quotas have one, and at most so many
  pub budgets : (d : DomainState) → Contains m.domains d
      → ((d.quotas.steps ≡ None) × (d.steps_left ≡ None))
      ⊎ ((most : ℕ) × (left : ℕ) × (d.quotas.steps ≡ Some most) × (d.steps_left ≡ Some left) × (left ≤ most))
  pub started : (d : DomainState) → Contains m.domains d → started_in m d.number ≤ d.quotas.threads

-- ---- Places in pools: those of two live domains have no page in common, and each lies in its pool.

pub record IsSealedPool (pool : Pool) (m : Machine) : Type 0 where
  pub placed : (d : DomainState) (pages : ℕ) → Contains m.domains d → pool.quota d.number ≡ Some pages → IsPlaced pool d.number pages
  pub apart : (a b : DomainId) (p q first other : ℕ) → a ≢ b → pool.quota a ≡ Some p → pool.quota b ≡ Some q
      → pool.first_page a ≡ Some first → pool.first_page b ≡ Some other → (first + p ≤ other) ⊎ (other + q ≤ first)

-- ---- Capabilities and bound names.

-- how many numbers the domains before a place have
abbrev pub numbers_before : Machine → ℕ → ℕ
numbers_before m i = sum_by (λ (d : DomainState). d.caps.count) (take i m.domains)

pub record AreSealedCapabilities (m : Machine) : Type 0 where
  -- the first range begins at 1, and each later one directly after the one before it; a domain creates at most as many as its quota
  pub owner : (d : DomainState) → Contains m.domains d → d.caps.owner ≡ d.number
  pub count : (d : DomainState) → Contains m.domains d → d.caps.count ≡ d.quotas.caps
  pub chained : (i : ℕ) (d : DomainState) → slice_get m.domains i ≡ Some d → d.caps.first ≡ 1 + numbers_before m i
  pub within : (d : DomainState) → Contains m.domains d → length d.caps.made ≤ d.caps.count
  pub few : numbers_before m (length m.domains) ≤ last_number
  -- the class of each implements jk/Remote; that of a stand-in isn't one of these classes
  pub remote : (d : DomainState) (c : Capability) → Contains m.domains d → is_stand_in m.classes d ≡ false → Contains d.caps.made c
      → ImplementsRemote m.classes c.class
  -- the target of one that isn't revoked is in its owner's heap and of its class, and the owner lives
  pub targets : (d : DomainState) (c : Capability) → Contains m.domains d → Contains d.caps.made c → c.revoked ≡ false
      → (inside : Inside) × (d.inside ≡ Some inside) × IsOfClass inside.heap c.target c.class

pub record AreSealedNames (m : Machine) : Type 0 where
  pub given_out : (n : BoundName) → Contains m.names n → IsGivenOut (caps_of m) n.cap
  pub binders : (n : BoundName) → Contains m.names n → LiveDomain m n.binder
  pub short : (n : BoundName) → Contains m.names n → length n.text ≤ longest_name
  pub differ : (i j : ℕ) (a b : BoundName) → slice_get m.names i ≡ Some a → slice_get m.names j ≡ Some b → a.text ≡ b.text → i ≡ j
  pub within : (d : DomainState) → Contains m.domains d → count_bound_by m.names d.number ≤ d.quotas.names

-- ---- Segments and their frames.

-- What is asked of the top frame of a segment: that of a thread's top segment runs, or has called a segment that was taken away, where
-- revoked is pending; every other has called the segment above it.
abbrev pub TopFits : Machine → Inside → Segment → FrameState → Type 0
TopFits m inside s f = FitsAsTop m.classes inside.heap f ⊎ ((s.shared.revoked ≡ true) × FitsAtCall m.classes inside.heap f)

abbrev pub CallerFits : Machine → Inside → FrameState → Type 0
CallerFits m inside f = FitsAtCall m.classes inside.heap f

-- the segment belongs to a live domain, and its frames fit
pub record IsSealedSegment (m : Machine) (Top : Inside → FrameState → Type 0) (s : Segment) : Type 0 where
  pub home : LiveDomain m s.shared.domain
  pub frames : AreSealedFrames (surroundings m home.domain) (Top home.inside) home.inside.heap s.frames

-- a thread's segments, lowest first
abbrev pub SegmentsFit : Machine → List Segment → Type 0
SegmentsFit m [] = ⊥
SegmentsFit m (s ∷ []) = IsSealedSegment m (λ inside f. TopFits m inside s f) s
SegmentsFit m (s ∷ above ∷ more) = IsSealedSegment m (CallerFits m) s × SegmentsFit m (above ∷ more)

-- ---- Threads.

pub record AreSealedThreads (m : Machine) : Type 0 where
  pub segments : (thread : Thread) → Contains m.threads thread → SegmentsFit m thread.segments
  pub rise : (i j : ℕ) (a b : Thread) → i < j → slice_get m.threads i ≡ Some a → slice_get m.threads j ≡ Some b
      → a.number.0 < b.number.0
  pub before : (thread : Thread) → Contains m.threads thread → (1 ≤ thread.number.0) × (thread.number.0 < m.next_thread)
  pub first_numbers : (1 ≤ m.next_thread) × (1 ≤ m.next_segment)
  pub segments_before : (thread : Thread) (s : Segment) → Contains m.threads thread → Contains thread.segments s
      → (1 ≤ s.shared.number.0) × (s.shared.number.0 < m.next_segment)
  -- a segment's number is in no other place
  pub segments_differ : (i j k l : ℕ) (a b : Thread) (s r : Segment) → slice_get m.threads i ≡ Some a → slice_get m.threads j ≡ Some b
      → slice_get a.segments k ≡ Some s → slice_get b.segments l ≡ Some r → s.shared.number ≡ r.shared.number → (i ≡ j) × (k ≡ l)

-- a Task's number was given out, and no segment of another domain has it
pub record AreSealedTasks (m : Machine) : Type 0 where
  pub given_out : (d : DomainState) (inside : Inside) (a : ℕ) (n : SegmentNo) → Contains m.domains d → d.inside ≡ Some inside
      → Contains inside.heap (record { name = a; object = Task n }) → (1 ≤ n.0) × (n.0 < m.next_segment)
  pub own : (d : DomainState) (inside : Inside) (a : ℕ) (thread : Thread) (s : Segment) → Contains m.domains d → d.inside ≡ Some inside
      → Contains inside.heap (record { name = a; object = Task s.shared.number }) → Contains m.threads thread → Contains thread.segments s
      → s.shared.domain ≡ d.number

-- ---- Classes in progress.

abbrev pub segment_initialisers : DomainId → ClassId → Segment → ℕ
segment_initialisers d c s = if s.shared.domain.0 == d.0 then count_by (initialises c) s.frames else 0

-- how many frames of a thread initialise the class in the domain
abbrev pub initialisers_of : DomainId → ClassId → Thread → ℕ
initialisers_of d c thread = sum_by (segment_initialisers d c) thread.segments

pub record AreSealedInitialisers (m : Machine) : Type 0 where
  -- a class in progress has one initialiser frame in the domain, on the thread that is named with it, and no other class has one
  pub one : (thread : Thread) (d : DomainState) (inside : Inside) (c : ClassId) → Contains m.threads thread
      → Contains m.domains d → d.inside ≡ Some inside → initialisers_of d.number c thread ≡ progress_by thread.number inside.own c
  pub live : (d : DomainState) (inside : Inside) (c : ClassId) (t : ThreadNo) → Contains m.domains d → d.inside ≡ Some inside
      → state_of inside.own c ≡ State.InProgress t → IsLiveThread m t

-- ---- The whole machine.

pub record IsSealed (m : Machine) : Type 0 where
  pub domains : AreSealedDomains m
  pub heap_places : IsSealedPool (heap_pool m) m
  pub stack_places : IsSealedPool (stack_pool m) m
  pub capabilities : AreSealedCapabilities m
  pub names : AreSealedNames m
  pub threads : AreSealedThreads m
  pub tasks : AreSealedTasks m
  pub initialisers : AreSealedInitialisers m
