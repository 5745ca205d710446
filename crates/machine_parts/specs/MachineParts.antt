-- The machine for which some parts stand: the classes, names and offers of a world, the own state of each live domain, what domains share,
-- and the heaps and frames that two stores hold.
use Rattle.std.specs.Prelude.{List, [], ◌∷◌, map, Option, option_map}
use Rattle.std.specs.Option.{option_map_or}
use Rattle.jk_model.specs.declared.identifiers.DomainId.{DomainId}
use Rattle.jk_model.specs.declared.identifiers.SegmentNo.{SegmentNo}
use Rattle.jk_model_classes.specs.Worlds.{DomainRecord, WorldRecord}
use Rattle.jk_model_domains.specs.OwnStates.{OwnState}
use Rattle.jk_model_frames.specs.Frames.{FrameState}
use Rattle.jk_model_heaps.specs.Workings.{Inside}
use Rattle.jk_model_sharing.specs.Segments.{SharedSegment, SharedThread}
use Rattle.jk_model_sharing.specs.SharedStates.{SharedDomain, SharedState}
use Rattle.jk_model_machine_state.specs.Machines.{DomainState, Machine, Segment, Thread}
use Rattle.object_store.specs.HeapContents.{HeapContent}
use Rattle.frame_store.specs.FrameContents.{FrameContent, StoredSegment}

pub record MachineParts : Type 0 where
  pub world : WorldRecord
  -- the own state of each domain, at its number; none of one that was killed
  pub owns : List (Option OwnState)
  pub shared : SharedState
  pub heap : HeapContent
  pub frames : FrameContent

-- ---- Domains.

-- what a live domain with this own state has
abbrev pub inside_of : HeapContent → FrameContent → DomainId → OwnState → Inside
inside_of heap frames d own = record { own = own; heap = heap.heap d; heap_at = heap.first_page d; stack_at = frames.first_page d }

abbrev pub domain_state : HeapContent → FrameContent → DomainRecord → SharedDomain → Option OwnState → DomainState
domain_state heap frames names s own = record {
  number = names.id;
  name = names.name;
  quotas = s.quotas;
  steps_left = s.steps_left;
  table = names.table;
  offers = names.offers;
  caps = s.caps;
  inside = option_map (inside_of heap frames names.id) own;
}

-- as many as all three lists have
abbrev pub domain_states : HeapContent → FrameContent → List DomainRecord → List SharedDomain → List (Option OwnState) → List DomainState
domain_states heap frames (names ∷ world) (s ∷ shared) (own ∷ owns) =
    domain_state heap frames names s own ∷ domain_states heap frames world shared owns
domain_states heap frames _ _ _ = []

-- ---- Threads.

-- the frames of a segment; none of one that the store doesn't have
abbrev pub frames_in : FrameContent → SegmentNo → List FrameState
frames_in c n = option_map_or (λ (g : StoredSegment). g.frames) (c.segment n) []

abbrev pub segment_with_frames : FrameContent → SharedSegment → Segment
segment_with_frames c s = record { shared = s; frames = frames_in c s.number }

abbrev pub thread_with_frames : FrameContent → SharedThread → Thread
thread_with_frames c t = record { number = t.number; domain = t.domain; segments = map (segment_with_frames c) t.segments }

-- ---- The whole.

abbrev pub machine_of : MachineParts → Machine
machine_of p = record {
  heap_pages = p.heap.pages;
  stack_pages = p.frames.pages;
  classes = p.world.classes;
  domains = domain_states p.heap p.frames p.world.domains p.shared.domains p.owns;
  names = p.shared.names;
  threads = map (thread_with_frames p.frames) p.shared.threads;
  next_thread = p.shared.next_thread;
  next_segment = p.shared.next_segment;
}
