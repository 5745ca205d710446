-- What a change of one of the parts is to the machine: a store's change is that of one domain's heap or of one segment's frames, and so on. Each
-- is stated of contents alone, so that it serves every body that makes the change.
use Rattle.std.specs.Prelude.{◌≡◌, ℕ, ◌==◌, List, [], ◌∷◌, ◌++◌, map, Option, Some, slice_get, slice_set, if◌then◌else◌}
use Rattle.std.specs.Option.{option_map_or}
use Rattle.jk_model.specs.declared.identifiers.DomainId.{DomainId}
use Rattle.jk_model.specs.declared.identifiers.SegmentNo.{SegmentNo}
use Rattle.jk_model.specs.declared.identifiers.ThreadNo.{ThreadNo}
use Rattle.jk_model_classes.specs.Worlds.{DomainRecord}
use Rattle.jk_model_domains.specs.Objects.{NamedObject}
use Rattle.jk_model_domains.specs.OwnStates.{OwnState}
use Rattle.jk_model_frames.specs.Frames.{FrameState}
use Rattle.jk_model_heaps.specs.Workings.{with_heap, with_own}
use Rattle.jk_model_sharing.specs.SharedStates.{SharedDomain, spent}
use Rattle.jk_model_machine_state.specs.Machines.{Machine, Segment, Thread, paid, with_inside, with_segments, with_stacks}
use Rattle.jk_model_machine_state.specs.Places.{LiveDomain, RunningSegment}
use Rattle.object_store.specs.HeapContents.{HeapBecomes, HeapContent}
use Rattle.frame_store.specs.FrameContents.{Changes, FrameContent, StoredSegment}
use Rattle.machine_parts.specs.FittingParts.{HaveOneList}
use Rattle.machine_parts.specs.MachineParts.{MachineParts, domain_state, inside_of, machine_of}

-- ---- Segments have different numbers, and threads too.

pub record AreSegmentsApart (m : Machine) : Type 0 where
  pub threads : (i j : ℕ) (a b : Thread) → slice_get m.threads i ≡ Some a → slice_get m.threads j ≡ Some b → a.number ≡ b.number → i ≡ j
  pub segments : (i j k l : ℕ) (a b : Thread) (s r : Segment) → slice_get m.threads i ≡ Some a → slice_get m.threads j ≡ Some b
      → slice_get a.segments k ≡ Some s → slice_get b.segments l ≡ Some r → s.shared.number ≡ r.shared.number → (i ≡ j) × (k ≡ l)

-- ---- A live domain, by the parts.

-- what the three lists have at a domain's number
pub record StandsInParts (p : MachineParts) (d : DomainId) (own : OwnState) (names : DomainRecord) (s : SharedDomain) : Type 0 where
  pub is_named : slice_get p.world.domains d.0 ≡ Some names
  pub is_shared : slice_get p.shared.domains d.0 ≡ Some s
  pub is_own : slice_get p.owns d.0 ≡ Some (Some own)
  pub number : names.id ≡ d

-- A live domain's heap is that of the store, its table that of the world, and its quotas those that are shared.
abbrev pub LiveDomainsAreOfParts : Type 0
LiveDomainsAreOfParts =
    (p : MachineParts) (d : DomainId) (l : LiveDomain (machine_of p) d) → HaveOneList p
    → (own : OwnState) × (names : DomainRecord) × (s : SharedDomain) × StandsInParts p d own names s
    × (l.domain ≡ domain_state p.heap p.frames names s (Some own)) × (l.inside ≡ inside_of p.heap p.frames d own)

-- ---- The heap of a live domain becomes another one.

abbrev pub HeapsChangeMachines : Type 0
HeapsChangeMachines =
    (p : MachineParts) (new : HeapContent) (d : DomainId) (heap : List NamedObject) (used : ℕ) (l : LiveDomain (machine_of p) d) → HaveOneList p
    → HeapBecomes p.heap new d heap used → machine_of (record p { heap = new }) ≡ with_inside d (with_heap l.inside heap) (machine_of p)

-- ---- So does its own state.

abbrev pub OwnStatesChangeMachines : Type 0
OwnStatesChangeMachines =
    (p : MachineParts) (own : OwnState) (d : DomainId) (l : LiveDomain (machine_of p) d) → HaveOneList p
    → machine_of (record p { owns = slice_set p.owns d.0 (Some own) }) ≡ with_inside d (with_own l.inside own) (machine_of p)

-- ---- A step is paid.

abbrev pub PaymentsChangeMachines : Type 0
PaymentsChangeMachines = (p : MachineParts) (d : DomainId) → HaveOneList p → machine_of (record p { shared = spent d p.shared }) ≡ paid d (machine_of p)

-- ---- A segment gets other frames, or goes from the store.

-- the segment of this number with these frames, whatever thread has it
abbrev pub with_frames_in : SegmentNo → List FrameState → Segment → Segment
with_frames_in n frames s = if s.shared.number.0 == n.0 then record s { frames = frames } else s

abbrev pub with_frames_of : SegmentNo → List FrameState → Machine → Machine
with_frames_of n frames m = with_stacks (map (with_frames_in n frames)) m

abbrev pub frames_stored : Option StoredSegment → List FrameState
frames_stored segment = option_map_or (λ (g : StoredSegment). g.frames) segment []

abbrev pub FramesChangeMachines : Type 0
FramesChangeMachines =
    (p : MachineParts) (new : FrameContent) (n : SegmentNo) (d : DomainId) (segment : Option StoredSegment) (used : ℕ)
    → Changes p.frames new n d segment used
    → machine_of (record p { frames = new }) ≡ with_frames_of n (frames_stored segment) (machine_of p)

-- Where no other segment has its number, those frames are the running segment's.
abbrev pub RunningFramesChange : Type 0
RunningFramesChange =
    (m : Machine) (t : ThreadNo) (r : RunningSegment m t) (frames : List FrameState) → AreSegmentsApart m
    → with_frames_of r.segment.shared.number frames m ≡ with_segments t (r.lower ++ record r.segment { frames = frames } ∷ []) m
