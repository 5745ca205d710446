-- What a step of a thread may change outside of the domain in which its top segment runs: by what the step was. That domain may change
-- its own inside, capabilities and bound names.
use Rattle.std.specs.Prelude.{◌≡◌, ◌≢◌, ℕ, ◌+◌, ◌≤◌, ◌⊎◌, false, true, List, [], ◌∷◌, ◌++◌, length, Contains, Some, None}
use Rattle.std.specs.List.{AllByRecursion, AllZip}
use Rattle.jk_model.specs.declared.identifiers.ClassId.{ClassId}
use Rattle.jk_model.specs.declared.identifiers.CapId.{CapId}
use Rattle.jk_model.specs.declared.identifiers.DomainId.{DomainId}
use Rattle.jk_model.specs.declared.identifiers.MemberId.{MemberId}
use Rattle.jk_model.specs.declared.identifiers.SegmentNo.{SegmentNo}
use Rattle.jk_model.specs.declared.identifiers.ThreadNo.{ThreadNo}
use Rattle.jk_model_domains.specs.declared.states.ClassState.TheVariants as State
use Rattle.jk_model_domains.specs.Objects.{NamedObject}
use Rattle.jk_model_domains.specs.OwnStates.{OwnState, state_of, static_of}
use Rattle.jk_model_frames.specs.Frames.{FrameState}
use Rattle.jk_model_heaps.specs.Capabilities.{OwnedCapability, capability_numbered}
use Rattle.jk_model_heaps.specs.Workings.{Inside}
use Rattle.jk_model_sharing.specs.BoundNames.{without_names_of}
use Rattle.jk_model_sharing.specs.Segments.{SharedSegment, segments_left, with_revoked}
use Rattle.jk_model_machine_state.specs.Machines.{DomainState, IsLiveThread, Machine, Segment, Thread, caps_of, domain_at, segment_form, thread_numbered}
use Rattle.jk_model_machine_state.specs.Places.{first_segment}
use Rattle.jk_model_runs.specs.Steps.{Deed, EndedDomain, Entered, Flagged, LeftSegments, Rested, Worked}

-- The step of thread t from a machine.
pub record StepOf : Type 0 where
  pub machine : Machine
  pub thread : ThreadNo
  pub deed : Deed

-- ---- Whom it may reach.

-- the domain is the owner of a capability
abbrev pub Owns : Machine → DomainId → CapId → Type 0
Owns m d k = (c : OwnedCapability) × (capability_numbered (caps_of m) k ≡ Some c) × (c.owner ≡ d)

-- A segment of the thread that a throwable or an answer may come to where so many are left: at most so many stand above it, and no orphan, whose
-- answer would be dropped.
pub record IsReached (x : StepOf) (n : ℕ) (s : Segment) : Type 0 where
  pub of : Thread
  pub is_thread : thread_numbered x.machine x.thread ≡ Some of
  pub lower : List Segment
  pub above : List Segment
  pub are_segments : of.segments ≡ lower ++ s ∷ above
  pub few : (1 ≤ length above) × (length above ≤ n)
  pub no_orphans : AllByRecursion (λ (r : Segment). r.shared.orphan ≡ false) above

-- ---- Another domain.

-- its heap has more objects, and nothing of it changed
abbrev pub HasMoreObjects : Inside → Inside → Type 0
HasMoreObjects old new = (more : List NamedObject) × (new ≡ record old { heap = old.heap ++ more })

-- a frame of a segment of the domain that is reached initialises the class
abbrev pub IsDropped : StepOf → ℕ → DomainId → ClassId → Type 0
IsDropped x n d c =
    (s : Segment) × (f : FrameState) × IsReached x n s × (s.shared.domain ≡ d) × Contains s.frames f × (f.head.initialises ≡ Some c)

-- classes may be broken now whose initialisers were dropped, and all else is as it was
pub record HasBrokenClasses (x : StepOf) (n : ℕ) (d : DomainId) (old new : OwnState) : Type 0 where
  pub states : (c : ClassId) → (state_of new c ≡ state_of old c)
      ⊎ ((state_of old c ≡ State.InProgress x.thread) × (state_of new c ≡ State.Broken) × IsDropped x n d c)
  pub statics : (m : MemberId) → static_of new m ≡ static_of old m
  pub rest : (new.literals ≡ old.literals) × (new.out ≡ old.out) × (new.standing ≡ old.standing)

-- something came to a segment of the domain: its heap has more objects, and classes may be broken
pub record IsFallenInto (x : StepOf) (n : ℕ) (d : DomainId) (old new : Inside) : Type 0 where
  pub segment : Segment
  pub reached : IsReached x n segment
  pub home : segment.shared.domain ≡ d
  pub grown : Inside
  pub objects : HasMoreObjects old grown
  pub own : HasBrokenClasses x n d grown.own new.own
  pub rest : new ≡ record grown { own = new.own }

abbrev pub InsideChanges : StepOf → Deed → DomainId → Inside → Inside → Type 0
InsideChanges x (Entered k m) d old new = (new ≡ old) ⊎ (Owns x.machine d k × HasMoreObjects old new)
InsideChanges x (LeftSegments n) d old new = (new ≡ old) ⊎ IsFallenInto x n d old new
InsideChanges x deed d old new = new ≡ old

-- of a domain nothing changes but its inside, and of a dead one nothing
pub record DomainChanges (x : StepOf) (old new : DomainState) : Type 0 where
  pub rest : new ≡ record old { inside = new.inside }
  pub inside : (new.inside ≡ old.inside)
      ⊎ ((before : Inside) × (after : Inside) × (old.inside ≡ Some before) × (new.inside ≡ Some after)
      × InsideChanges x x.deed old.number before after)

-- ---- Segments of threads. The top segment of the thread that steps is one of the domain d.

-- other flags of the segment of this number, which is one of the domain: suspended, or a stop that is pending
abbrev pub HasFlags : DomainId → SegmentNo → Segment → Segment → Type 0
HasFlags d n old new =
    (new ≡ old)
    ⊎ ((old.shared.number ≡ n) × (old.shared.domain ≡ d)
    × ((flags : SharedSegment) × (flags.number ≡ n) × (flags.domain ≡ d) × (flags.revoked ≡ old.shared.revoked)
    × (flags.orphan ≡ old.shared.orphan) × (new ≡ record old { shared = flags })))

-- those of another thread
abbrev pub OthersChange : DomainId → Deed → List Segment → List Segment → Type 0
OthersChange d (Flagged n) old new = AllZip (HasFlags d n) old new
OthersChange d (EndedDomain e) old new = new ≡ segments_left segment_form e old
OthersChange d deed old new = new ≡ old

-- the lower segments stay, and the top one keeps its number and its domain
pub record HasOtherTop (old new : List Segment) : Type 0 where
  pub lower : List Segment
  pub before : Segment
  pub after : Segment
  pub were : old ≡ lower ++ before ∷ []
  pub are : new ≡ lower ++ after ∷ []
  pub same : (after.shared.number ≡ before.shared.number) × (after.shared.domain ≡ before.shared.domain)

-- Directly below a segment that is left: frames are dropped and one goes on; or, where that is an orphan, a RevokedException is pending.
abbrev pub Resumes : Segment → Segment → Segment → Type 0
Resumes above old new =
    ((above.shared.orphan ≡ false) × (new.shared ≡ old.shared)
    × ((callers : List FrameState) × (upper : List FrameState) × (f : FrameState) × (g : FrameState) × (old.frames ≡ callers ++ f ∷ upper)
    × (new.frames ≡ callers ++ g ∷ []) × (g.head.method ≡ f.head.method)))
    ⊎ ((above.shared.orphan ≡ true) × (new ≡ record old { shared = with_revoked true old.shared }))

-- so many segments are left, and the one below them goes on; or none is below
pub record HasLeft (n : ℕ) (old new : List Segment) : Type 0 where
  pub kept : List Segment
  pub lowest : Segment
  pub others : List Segment
  pub were : old ≡ kept ++ lowest ∷ others
  pub as_many : 1 + length others ≡ n
  pub are : ((kept ≡ []) × (new ≡ []))
      ⊎ ((lower : List Segment) × (s : Segment) × (r : Segment) × (kept ≡ lower ++ s ∷ []) × (new ≡ lower ++ r ∷ []) × Resumes lowest s r)

-- those of the thread that steps; none where it isn't live after that
abbrev pub OwnChange : StepOf → DomainId → Deed → List Segment → List Segment → Type 0
OwnChange x d Rested old new = new ≡ old
OwnChange x d Worked old new = HasOtherTop old new
-- the new segment is one of the capability's owner, with one frame, the next number and no flag
OwnChange x d (Entered k m) old new =
    (mid : List Segment) × (owner : DomainId) × (frame : FrameState) × HasOtherTop old mid × Owns x.machine owner k
    × (new ≡ mid ++ first_segment x.machine owner frame ∷ [])
OwnChange x d (LeftSegments n) old new = HasLeft n old new
OwnChange x d (Flagged n) old new = (mid : List Segment) × HasOtherTop old mid × AllZip (HasFlags d n) mid new
OwnChange x d (EndedDomain e) old new = new ≡ segments_left segment_form e old

-- a thread keeps what isn't its segments, or has none left and has ended
abbrev pub ThreadChanges : (List Segment → List Segment → Type 0) → Thread → Machine → Type 0
ThreadChanges Change old new =
    ((after : Thread) × (thread_numbered new old.number ≡ Some after) × (after ≡ record old { segments = after.segments })
    × Change old.segments after.segments)
    ⊎ ((thread_numbered new old.number ≡ None) × Change old.segments [])

-- ---- All of it.

-- how many numbers of segments are drawn
abbrev pub drawn_by : Deed → ℕ
drawn_by (Entered k m) = 1
drawn_by deed = 0

pub record Confined (x : StepOf) (d : DomainId) (new : Machine) : Type 0 where
  pub classes : new.classes ≡ x.machine.classes
  pub pools : (new.heap_pages ≡ x.machine.heap_pages) × (new.stack_pages ≡ x.machine.stack_pages)
  pub as_many : length new.domains ≡ length x.machine.domains
  pub domains : (e : DomainId) (old after : DomainState) → e ≢ d → domain_at x.machine e ≡ Some old → domain_at new e ≡ Some after
      → DomainChanges x old after
  -- other domains keep their bound names
  pub names : without_names_of d new.names ≡ without_names_of d x.machine.names
  pub threads : (u : ThreadNo) (old : Thread) → u ≢ x.thread → thread_numbered x.machine u ≡ Some old
      → ThreadChanges (OthersChange d x.deed) old new
  pub own_thread : (old : Thread) → thread_numbered x.machine x.thread ≡ Some old → ThreadChanges (OwnChange x d x.deed) old new
  pub no_more : (u : ThreadNo) → IsLiveThread new u → IsLiveThread x.machine u
  -- it is its own domain that a step ends
  pub own_end : (e : DomainId) → x.deed ≡ EndedDomain e → e ≡ d
  pub next_thread : new.next_thread ≡ x.machine.next_thread
  pub next_segment : new.next_segment ≡ x.machine.next_segment + drawn_by x.deed
