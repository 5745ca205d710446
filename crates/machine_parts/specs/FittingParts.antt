-- How the parts of a machine fit each other: each list has the same domains, the stores have just the live ones and the segments of live
-- threads, what they count is what these cost, and no object is marked.
use Rattle.std.specs.Prelude.{◌≡◌, ◌≢◌, ℕ, List, length, Contains, Option, Some, None, is_some, slice_get}
use Rattle.jk_model.specs.declared.identifiers.ClassId.{ClassId}
use Rattle.jk_model.specs.declared.identifiers.DomainId.{DomainId}
use Rattle.jk_model.specs.declared.identifiers.SegmentNo.{SegmentNo}
use Rattle.jk_model_classes.specs.declared.records.ClassRecord.{ClassRecord}
use Rattle.jk_model_classes.specs.declared.sharing.Stub.{Stub}
use Rattle.jk_model_classes.specs.Classes.{record_of}
use Rattle.jk_model_classes.specs.Stubs.{ImplementsRemote}
use Rattle.jk_model_classes.specs.Worlds.{DomainRecord}
use Rattle.jk_model_domains.specs.OwnStates.{OwnState}
use Rattle.jk_model_heaps.specs.Capabilities.{Capability}
use Rattle.jk_model_heaps.specs.Heaps.{heap_words}
use Rattle.jk_model_sharing.specs.KnownStubs.{AreKnownStubs}
use Rattle.jk_model_sharing.specs.Segments.{SharedSegment, SharedThread}
use Rattle.jk_model_sharing.specs.SharedStates.{SharedDomain, SharedState, stub_for}
use Rattle.jk_model_machine_state.specs.Machines.{chunks_used}
use Rattle.jk_model_machine_state.specs.Places.{LiveDomain}
use Rattle.frame_store.specs.FrameContents.{StoredSegment}
use Rattle.machine_parts.specs.MachineParts.{MachineParts, frames_in, machine_of}

-- ---- Domains.

-- The world, what is shared and the own states have the same domains, each at its number, of which the same live.
pub record HaveOneList (p : MachineParts) : Type 0 where
  pub shared : length p.shared.domains ≡ length p.world.domains
  pub owns : length p.owns ≡ length p.world.domains
  pub numbered : (i : ℕ) (names : DomainRecord) → slice_get p.world.domains i ≡ Some names → names.id.0 ≡ i
  pub same_number : (i : ℕ) (names : DomainRecord) (s : SharedDomain) → slice_get p.world.domains i ≡ Some names
      → slice_get p.shared.domains i ≡ Some s → (s.number ≡ names.id) × (s.live ≡ names.live)
  pub same_life : (i : ℕ) (names : DomainRecord) (own : Option OwnState) → slice_get p.world.domains i ≡ Some names
      → slice_get p.owns i ≡ Some own → is_some own ≡ names.live

-- The stores have the live domains with their quotas, and no others.
pub record HaveLiveDomains (p : MachineParts) : Type 0 where
  pub words : (d : DomainId) (live : LiveDomain (machine_of p) d) → p.heap.quota d ≡ Some live.domain.quotas.heap
  pub chunks : (d : DomainId) (live : LiveDomain (machine_of p) d) → p.frames.quota d ≡ Some live.domain.quotas.chunks
  pub no_others : (d : DomainId) → (LiveDomain (machine_of p) d → ⊥) → (p.heap.quota d ≡ None) × (p.frames.quota d ≡ None)

-- ---- What the stores count.

pub record CountWhatIsUsed (p : MachineParts) : Type 0 where
  pub words : (d : DomainId) → p.heap.used d ≡ heap_words p.world.classes (p.heap.heap d)
  pub chunks : (d : DomainId) → p.frames.used d ≡ chunks_used (machine_of p) d

-- ---- Segments: the store has those of the live threads, each with its domain, and no others.

pub record HaveSegments (p : MachineParts) : Type 0 where
  pub each : (t : SharedThread) (s : SharedSegment) → Contains p.shared.threads t → Contains t.segments s
      → p.frames.segment s.number ≡ Some (record { domain = s.domain; frames = frames_in p.frames s.number })
  pub no_others : (n : SegmentNo) (g : StoredSegment) → p.frames.segment n ≡ Some g
      → (t : SharedThread) × (s : SharedSegment) × Contains p.shared.threads t × Contains t.segments s × (s.number ≡ n)

-- ---- Stubs: each is known, and each class and each capability that wants one has one.

pub record HaveStubs (classes : List ClassRecord) (s : SharedState) : Type 0 where
  pub known : AreKnownStubs classes s.stubs
  pub all : (c : ClassId) (r : ClassRecord) → record_of classes c ≡ Some r → r.home ≢ None → ImplementsRemote classes c
      → (stub : Stub) × (stub_for s c ≡ Some stub)
  -- each capability was made with a stub
  pub made : (d : SharedDomain) (c : Capability) → Contains s.domains d → Contains d.caps.made c → (stub : Stub) × (stub_for s c.class ≡ Some stub)

-- ---- All of it.

pub record AreFittingParts (p : MachineParts) : Type 0 where
  pub domains : HaveOneList p
  pub live : HaveLiveDomains p
  pub used : CountWhatIsUsed p
  pub segments : HaveSegments p
  pub stubs : HaveStubs p.world.classes p.shared
  -- no object is marked
  pub calm : (d : DomainId) (a : ℕ) → p.heap.mark d a ≡ 0
