-- Where the store of objects has another heap of the domain, and the store of frames another top frame of the segment, they hold the run
-- with these.
use Rattle.std.proofs.Common.{◌≡◌, ℕ, ◌+◌, List, [], ◌∷◌, ◌++◌, Option, Some, sym, ap, subst, ◌∙◌}
use Rattle.std.proofs.lemmas.Option.{same_Some}
use Rattle.list_lemmas.proofs.LastItems.{one_last}
use Rattle.jk_model_frames.specs.Frames.{FrameState, frames_chunks, head_chunks}
use Rattle.jk_model_domains.specs.Objects.{NamedObject}
use Rattle.jk_model_heaps.specs.Heaps.{heap_words}
use Rattle.jk_model_heaps.specs.Workings.{Inside, Run, with_heap}
use Rattle.class_init.specs.KeptStates.{KeptState}
use Rattle.frame_store.specs.FrameContents.{Changes, SetsTop, StoredSegment}
use Rattle.object_store.specs.HeapContents.{HeapBecomes}
use Rattle.row_laws.proofs.FramesInARow.{chunks_same}
use Rattle.step_contents.specs.Conditions.{MayDo}
use Rattle.step_contents.specs.Contents.{Becomes, Contents, FramesBecome, Here, InsideBecomes, inside_in, with_frame}
use Rattle.step_contents.specs.PlacesInCode.{PlaceInCode}

module _ (c new : Contents) (here : Here) (at : PlaceInCode) (may : MayDo c here at) (own : new.own ≡ c.own) where
  abbrev pub heap_after : List NamedObject
  heap_after = new.heaps.heap here.domain

  module _ (heaps : HeapBecomes c.heaps new.heaps here.domain heap_after (heap_words here.world.classes heap_after))
      (g : FrameState) (sets : SetsTop c.frames new.frames here.segment g) (same : g.head ≡ may.frame.head) where
    is_inside : with_heap may.run.inside heap_after ≡ inside_in new here
    is_inside =
        ap (λ (i : Inside). with_heap i heap_after) may.holds.inside
        ∙ ap (λ (p : Option ℕ). let i : Inside = record {
          own = c.own.state;
          heap = heap_after;
          heap_at = p;
          stack_at = c.frames.first_page here.domain;
        } in i) (sym (heaps.domains.first_page here.domain))
        ∙ ap (λ (p : Option ℕ). let i : Inside = record {
          own = c.own.state;
          heap = heap_after;
          heap_at = new.heaps.first_page here.domain;
          stack_at = p;
        } in i) (sym (sets.2.domains.first_page here.domain))
        ∙ ap (λ (k : KeptState). let i : Inside = record {
          own = k.state;
          heap = heap_after;
          heap_at = new.heaps.first_page here.domain;
          stack_at = new.frames.first_page here.domain;
        } in i) (sym own)

    inside_becomes : InsideBecomes c new here (with_heap may.run.inside heap_after)
    inside_becomes = record { is_inside = is_inside; heaps = heaps; rooms = ap (λ (k : KeptState). k.rooms) own }

    frames_become : FramesBecome c new here may.run.frames (may.callers ++ g ∷ [])
    frames_become =
        let top = sets.1 in
        let whole : StoredSegment = record { domain = here.domain; frames = may.run.frames } in
        let is : top.segment ≡ whole = same_Some top.segment whole (sym top.is_there ∙ may.holds.frames) in
        let lists : top.lower ++ sets.0 ∷ [] ≡ may.callers ++ may.frame ∷ [] =
        sym top.frames ∙ ap (λ (x : StoredSegment). x.frames) is ∙ may.are_frames in
        let lower : top.lower ≡ may.callers = (one_last top.lower may.callers sets.0 may.frame lists).0 in
        let there : Changes c.frames new.frames here.segment here.domain
        (Some (let x : StoredSegment = record { domain = here.domain; frames = top.lower ++ g ∷ [] } in x)) (c.frames.used here.domain) =
        subst (λ (x : StoredSegment). Changes c.frames new.frames here.segment x.domain
        (Some (let y : StoredSegment = record { domain = x.domain; frames = top.lower ++ g ∷ [] } in y)) (c.frames.used x.domain)) is sets.2 in
        record {
          used = c.frames.used here.domain;
          chunks = ap (λ (n : ℕ). c.frames.used here.domain + n)
              (ap frames_chunks may.are_frames ∙ chunks_same may.callers g may.frame (ap head_chunks (sym same)));
          changes = subst (λ (l : List FrameState). Changes c.frames new.frames here.segment here.domain
              (Some (let x : StoredSegment = record { domain = here.domain; frames = l ++ g ∷ [] } in x)) (c.frames.used here.domain)) lower there;
        }

    pub becomes : Becomes c new here may.run (with_frame may.callers g (with_heap may.run.inside heap_after))
    becomes = record { inside = inside_becomes; frames = frames_become }

    -- the heap and the frame are as they were
    module _ (kept : heap_after ≡ may.run.inside.heap) where
      as_before : (f : FrameState) → f ≡ may.frame → with_frame may.callers f (with_heap may.run.inside heap_after) ≡ may.run
      as_before f is =
          ap (λ (x : FrameState). with_frame may.callers x (with_heap may.run.inside heap_after)) is
          ∙ ap (λ (heap : List NamedObject). with_frame may.callers may.frame (with_heap may.run.inside heap)) kept
          ∙ ap (λ (l : List FrameState). let r : Run = record { inside = may.run.inside; frames = l } in r) (sym may.are_frames)

      pub stays : g ≡ may.frame → Becomes c new here may.run may.run
      stays is = subst (Becomes c new here may.run) (as_before g is) becomes

      pub heap_stays : Becomes c new here may.run (with_frame may.callers g may.run.inside)
      heap_stays =
          subst (λ (heap : List NamedObject). Becomes c new here may.run (with_frame may.callers g (with_heap may.run.inside heap))) kept becomes
