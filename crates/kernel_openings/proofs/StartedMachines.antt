-- Where objects are made in a domain's heap, a thread begins there, and its segment has one frame in the store, the machine has them.
use Rattle.std.proofs.Common.{◌≡◌, ◌+◌, ◌<◌, List, [], ◌∷◌, ◌++◌, Contains, Option, Some, None, refl, sym, ap, subst, ◌∙◌, arith}
use Rattle.std.specs.Option.{option_map_or}
use Rattle.list_lemmas.proofs.ItemsOfLists.{Contains-flat_map}
use Rattle.jk_model.specs.declared.identifiers.DomainId.{DomainId}
use Rattle.jk_model.specs.declared.identifiers.SegmentNo.{SegmentNo}
use Rattle.jk_model_domains.specs.Objects.{NamedObject}
use Rattle.jk_model_frames.specs.Frames.{FrameState, segment_chunks}
use Rattle.jk_model_heaps.specs.Heaps.{heap_words}
use Rattle.jk_model_heaps.specs.Workings.{with_heap}
use Rattle.jk_model_sharing.specs.Segments.{SharedSegment, SharedThread}
use Rattle.jk_model_sharing.specs.SharedStates.{begun}
use Rattle.jk_model_machine_state.specs.Machines.{Segment, Thread, with_inside}
use Rattle.jk_model_machine_state.specs.Places.{LiveDomain}
use Rattle.jk_model_runs.specs.Starts.{with_new_thread}
use Rattle.object_store.specs.HeapContents.{HeapContent}
use Rattle.frame_store.specs.FrameContents.{Changes, FrameContent, StoredSegment}
use Rattle.heap_loops.specs.ObjectsMade.{MakesObjects}
use Rattle.thread_segments.specs.SoundStates.{AreSound}
use Rattle.machine_parts.specs.FittingParts.{AreFittingParts}
use Rattle.machine_parts.specs.MachineParts.{MachineParts, frames_in, machine_of, thread_with_frames}
use Rattle.machine_parts.proofs.DomainsChanged.{heaps_change_machines}
use Rattle.machine_parts.proofs.SegmentsChanged.{frames_change_machines}
use Rattle.machine_parts.proofs.SharedChanged.{gone_frames, starts_change_machines}
use Rattle.kernel_openings.proofs.PartsByPlace.{from_shared_segment, from_shared_thread}

-- the segment that is drawn next
abbrev pub next_segment : MachineParts → SegmentNo
next_segment p = record { 0 = p.shared.next_segment }

-- the parts with a thread more, over these stores
abbrev pub with_thread : MachineParts → DomainId → HeapContent → FrameContent → MachineParts
with_thread p d heap frames = record p { shared = begun d p.shared; heap = heap; frames = frames }

-- What is made in the stores: objects, and a segment with one frame.
pub record StartsInStores (p : MachineParts) (heap : HeapContent) (frames : FrameContent) (d : DomainId) (made : List NamedObject) (frame : FrameState)
    : Type 0 where
  pub objects : MakesObjects p.heap heap p.world.classes d made
  pub segment : Changes p.frames frames (next_segment p) d (Some (record { domain = d; frames = frame ∷ [] }))
      (p.frames.used d + segment_chunks (frame ∷ []))

module _ (p : MachineParts) (fit : AreFittingParts p) (sound : AreSound p.shared) where
  -- each segment has a number below the next
  pub numbers_below : (t : SharedThread) (s : SharedSegment) → Contains p.shared.threads t → Contains t.segments s
      → s.number.0 < p.shared.next_segment
  numbers_below t s has_thread has_segment =
      (sound.segments.before s (Contains-flat_map (λ (x : SharedThread). x.segments) p.shared.threads t s has_thread has_segment)).1

  pub none_there : p.frames.segment (next_segment p) ≡ None
  none_there = by (p.frames.segment (next_segment p)) refl
    where
      by : (o : Option StoredSegment) → p.frames.segment (next_segment p) ≡ o → p.frames.segment (next_segment p) ≡ None
      by None is = is
      by (Some g) is =
          let at = fit.segments.no_others (next_segment p) g is in
          let low = numbers_below at.0 at.1 at.2 at.3 in
          let same : at.1.number.0 ≡ p.shared.next_segment = ap (λ (n : SegmentNo). n.0) at.4 in
          absurd (omega (arith, low, same))

  none_in_machine : (heap : HeapContent) (thread : Thread) (s : Segment) → Contains (machine_of (record p { heap = heap })).threads thread
      → Contains thread.segments s → s.shared.number.0 ≡ p.shared.next_segment → ⊥
  none_in_machine heap thread s has_thread has_segment same =
      let from = from_shared_thread p.frames p.shared.threads thread has_thread in
      let in_it : Contains (thread_with_frames p.frames from.0).segments s =
      subst (λ (x : Thread). Contains x.segments s) (sym from.2) has_segment in
      let of = from_shared_segment p.frames from.0.segments s in_it in
      let low = numbers_below from.0 of.0 from.1 of.1 in
      let number : of.0.number.0 ≡ s.shared.number.0 = ap (λ (x : Segment). x.shared.number.0) of.2 in
      omega (arith, low, number, same)

  module _ (d : DomainId) (l : LiveDomain (machine_of p) d) (heap : HeapContent) (frames : FrameContent) (made : List NamedObject) (frame : FrameState)
      (h : StartsInStores p heap frames d made frame) where
    in_store : frames_in frames (next_segment p) ≡ frame ∷ []
    in_store = ap (λ (o : Option StoredSegment). option_map_or (λ (g : StoredSegment). g.frames) o []) h.segment.becomes

    pub machine_after : machine_of (with_thread p d heap frames)
        ≡ with_new_thread d frame (with_inside d (with_heap l.inside (p.heap.heap d ++ made)) (machine_of p))
    machine_after =
        starts_change_machines (record p { heap = heap; frames = frames }) d frame in_store
        ∙ ap (with_new_thread d frame)
        (frames_change_machines (record p { heap = heap }) frames (next_segment p) d (Some (record { domain = d; frames = frame ∷ [] }))
        (p.frames.used d + segment_chunks (frame ∷ [])) h.segment
        ∙ gone_frames (machine_of (record p { heap = heap })) (next_segment p) (frame ∷ []) (none_in_machine heap)
        ∙ heaps_change_machines p heap d (p.heap.heap d ++ made) (p.heap.used d + heap_words p.world.classes made) l fit.domains h.objects.becomes)
