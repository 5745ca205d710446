-- What one change of a segment's top frame, and two changes one after another, make of a store of frames.
use Rattle.std.proofs.Common.{◌≡◌, ℕ, ◌-◌, ◌≤◌, List, [], ◌∷◌, ◌++◌, Option, Some, refl, sym, ap, subst, ◌∙◌, arith}
use Rattle.std.proofs.lemmas.List.Sums.{sum_by_push}
use Rattle.std.proofs.lemmas.Option.{same_Some}
use Rattle.list_lemmas.proofs.LastItems.{one_last}
use Rattle.jk_model.specs.declared.identifiers.DomainId.{DomainId}
use Rattle.jk_model.specs.declared.identifiers.SegmentNo.{SegmentNo}
use Rattle.jk_model_frames.specs.Frames.{FrameState, head_chunks}
use Rattle.frame_store.specs.FrameContents.{Changes, FrameContent, IsContent, Pops, SetsTop, StoredSegment, TopFrame}
pub use Rattle.frame_store.proofs.ChangesInTurn.{then_changes}
use Rattle.step_contents.specs.Contents.{Contents, FramesBecome, HasFrames, Here}

abbrev pub segment_of : DomainId → List FrameState → StoredSegment
segment_of d frames = record { domain = d; frames = frames }

module _ (c : FrameContent) (s : SegmentNo) (d : DomainId) (below : List FrameState) (f : FrameState)
    (there : c.segment s ≡ Some (segment_of d (below ++ f ∷ []))) where
  pub top_there : TopFrame c s f
  top_there = record { segment = segment_of d (below ++ f ∷ []); is_there = there; lower = below; frames = refl }

  -- the segment and the frames below its top frame, whatever tells them
  record IsTop (k : FrameState) (top : TopFrame c s k) : Type 0 where
    segment : top.segment ≡ segment_of d (below ++ f ∷ [])
    lower : top.lower ≡ below
    frame : k ≡ f

  is_top : (k : FrameState) (top : TopFrame c s k) → IsTop k top
  is_top k top =
      let segment : top.segment ≡ segment_of d (below ++ f ∷ []) = same_Some top.segment _ (sym top.is_there ∙ there) in
      let both = one_last top.lower below k f (sym top.frames ∙ ap (λ (x : StoredSegment). x.frames) segment) in
      record { segment = segment; lower = both.0; frame = both.1 }

  pub pops_it : (new : FrameContent) → Pops c new s → Changes c new s d (Some (segment_of d below)) (c.used d - head_chunks f.head)
  pops_it new (k, top, changes) =
      let is = is_top k top in
      let one = subst (λ (x : FrameState). Changes c new s top.segment.domain (Some (segment_of top.segment.domain top.lower))
      (c.used top.segment.domain - head_chunks x.head)) is.frame changes in
      let two = subst (λ (l : List FrameState). Changes c new s top.segment.domain (Some (segment_of top.segment.domain l))
      (c.used top.segment.domain - head_chunks f.head)) is.lower one in
      subst (λ (x : StoredSegment). Changes c new s x.domain (Some (segment_of x.domain below)) (c.used x.domain - head_chunks f.head)) is.segment two

  pub sets_it : (new : FrameContent) (g : FrameState) → SetsTop c new s g → Changes c new s d (Some (segment_of d (below ++ g ∷ []))) (c.used d)
  sets_it new g (k, top, changes) =
      let is = is_top k top in
      let one = subst (λ (l : List FrameState). Changes c new s top.segment.domain (Some (segment_of top.segment.domain (l ++ g ∷ [])))
      (c.used top.segment.domain)) is.lower changes in
      subst (λ (x : StoredSegment). Changes c new s x.domain (Some (segment_of x.domain (below ++ g ∷ []))) (c.used x.domain)) is.segment one

  -- the domain pays for the frame
  pub frame_paid : IsContent c → head_chunks f.head ≤ c.used d
  frame_paid holds =
      let paid = (holds.owned s (segment_of d (below ++ f ∷ [])) there).1 in
      let last = sum_by_push (λ (x : FrameState). head_chunks x.head) below f in
      omega (arith, paid, last)

-- ---- The frames of a segment, which were others before.

pub same_frames : (c : Contents) (here : Here) (frames : List FrameState) → HasFrames c here frames → FramesBecome c c here frames frames
same_frames c here frames there = record {
  used = c.frames.used here.domain;
  chunks = refl;
  changes = record {
    domains = record { pages = refl; took_all = refl; quota = λ d. refl; first_page = λ d. refl };
    becomes = there;
    others = λ r differ. refl;
    uses = refl;
    other_domains = λ e differ. refl;
  };
}

module _ (old mid new : Contents) (here : Here) (before below : List FrameState) (f : FrameState)
    (become : FramesBecome old mid here before (below ++ f ∷ [])) where
  abbrev d : DomainId
  d = here.domain

  pub frames_popped : IsContent mid.frames → Pops mid.frames new.frames here.segment → FramesBecome old new here before below
  frames_popped holds pops =
      let changes = pops_it mid.frames here.segment d below f become.changes.becomes new.frames pops in
      let paid = frame_paid mid.frames here.segment d below f become.changes.becomes holds in
      let last = sum_by_push (λ (x : FrameState). head_chunks x.head) below f in
      record {
        used = mid.frames.used d - head_chunks f.head;
        chunks = omega (arith, become.chunks, become.changes.uses, paid, last);
        changes = then_changes old.frames mid.frames new.frames here.segment d (Some (segment_of d (below ++ f ∷ []))) (Some (segment_of d below))
            become.used (mid.frames.used d - head_chunks f.head) become.changes changes;
      }

  pub frames_set : (g : FrameState) → head_chunks g.head ≡ head_chunks f.head → SetsTop mid.frames new.frames here.segment g
      → FramesBecome old new here before (below ++ g ∷ [])
  frames_set g same sets =
      let changes = sets_it mid.frames here.segment d below f become.changes.becomes new.frames g sets in
      let was = sum_by_push (λ (x : FrameState). head_chunks x.head) below f in
      let is = sum_by_push (λ (x : FrameState). head_chunks x.head) below g in
      record {
        used = mid.frames.used d;
        chunks = omega (arith, become.chunks, become.changes.uses, was, is, same);
        changes = then_changes old.frames mid.frames new.frames here.segment d (Some (segment_of d (below ++ f ∷ [])))
            (Some (segment_of d (below ++ g ∷ []))) become.used (mid.frames.used d) become.changes changes;
      }
