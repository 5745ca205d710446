-- A segment has one top frame, and what changes it twice changes it once.
use Rattle.std.proofs.Common.{◌≡◌, List, [], ◌∷◌, ◌++◌, Some, refl, sym, ap, subst, ◌∙◌}
use Rattle.std.proofs.lemmas.Option.{same_Some}
use Rattle.list_lemmas.proofs.LastItems.{one_last}
use Rattle.jk_model.specs.declared.identifiers.SegmentNo.{SegmentNo}
use Rattle.jk_model_frames.specs.Frames.{FrameState}
use Rattle.frame_store.specs.FrameContents.{Changes, FrameContent, SetsTop, StoredSegment, TopFrame}
use Rattle.number_ops.specs.TopChanges.{Becomes}
pub use Rattle.frame_store.proofs.ChangesInTurn.{both_keep}

pub same_top : (c : FrameContent) (s : SegmentNo) (f g : FrameState) → TopFrame c s f → TopFrame c s g → f ≡ g
same_top c s f g a b =
    let segments : a.segment ≡ b.segment = same_Some a.segment b.segment (sym a.is_there ∙ b.is_there) in
    let lists : a.lower ++ f ∷ [] ≡ b.lower ++ g ∷ [] = sym a.frames ∙ ap (λ (x : StoredSegment). x.frames) segments ∙ b.frames in
    (one_last a.lower b.lower f g lists).1

pub top_after : (old new : FrameContent) (s : SegmentNo) (g : FrameState) → SetsTop old new s g → TopFrame new s g
top_after old new s g h = record {
  segment = record h.1.segment { frames = h.1.lower ++ g ∷ [] };
  is_there = h.2.becomes;
  lower = h.1.lower;
  frames = refl;
}

pub then_sets : (a b c : FrameContent) (s : SegmentNo) (g h : FrameState) → SetsTop a b s g → SetsTop b c s h → SetsTop a c s h
then_sets a b c s g h first second =
    let top = first.1 in
    let next = second.1 in
    let whole : StoredSegment = record top.segment { frames = top.lower ++ g ∷ [] } in
    let same : whole ≡ next.segment = same_Some whole next.segment (sym first.2.becomes ∙ next.is_there) in
    let lists : top.lower ++ g ∷ [] ≡ next.lower ++ second.0 ∷ [] = ap (λ (x : StoredSegment). x.frames) same ∙ next.frames in
    let lower : top.lower ≡ next.lower = (one_last top.lower next.lower g second.0 lists).0 in
    let there : Changes b c s top.segment.domain
    (Some (let x : StoredSegment = record top.segment { frames = next.lower ++ h ∷ [] } in x)) (b.used top.segment.domain) =
    subst (λ (x : StoredSegment). Changes b c s x.domain
    (Some (let y : StoredSegment = record x { frames = next.lower ++ h ∷ [] } in y)) (b.used x.domain)) (sym same) second.2 in
    let here : Changes b c s top.segment.domain
    (Some (let x : StoredSegment = record top.segment { frames = top.lower ++ h ∷ [] } in x)) (b.used top.segment.domain) =
    subst (λ (l : List FrameState). Changes b c s top.segment.domain
    (Some (let x : StoredSegment = record top.segment { frames = l ++ h ∷ [] } in x)) (b.used top.segment.domain)) (sym lower) there in (
      first.0,
      top,
      record {
        domains = both_keep a b c first.2.domains here.domains;
        becomes = here.becomes;
        others = λ r differ. here.others r differ ∙ first.2.others r differ;
        uses = here.uses ∙ first.2.uses;
        other_domains = λ e differ. here.other_domains e differ ∙ first.2.other_domains e differ;
      },
    )

-- a top frame that becomes itself
pub stays : (c : FrameContent) (s : SegmentNo) (f : FrameState) → TopFrame c s f → SetsTop c c s f
stays c s f top =
    let same : top.segment ≡ (let x : StoredSegment = record top.segment { frames = top.lower ++ f ∷ [] } in x) =
    ap (λ (l : List FrameState). let x : StoredSegment = record top.segment { frames = l } in x) top.frames in (
      f,
      top,
      record {
        domains = record { pages = refl; took_all = refl; quota = λ d. refl; first_page = λ d. refl };
        becomes = top.is_there ∙ ap Some same;
        others = λ r differ. refl;
        uses = refl;
        other_domains = λ e differ. refl;
      },
    )

pub then_becomes : (a b c : FrameContent) (s : SegmentNo) (f g h : FrameState) → Becomes a b s f g → Becomes b c s g h → Becomes a c s f h
then_becomes a b c s f g h first second = record { top = first.top; sets = then_sets a b c s g h first.sets second.sets }

-- the second change begins where the first ended
pub met_between : (a b c : FrameContent) (s : SegmentNo) (f g g' h : FrameState) → Becomes a b s f g → Becomes b c s g' h → g ≡ g'
met_between a b c s f g g' h first second = same_top b s g g' (top_after a b s g first.sets) second.top

pub joined : (a b c : FrameContent) (s : SegmentNo) (f g g' h : FrameState) → Becomes a b s f g → Becomes b c s g' h → Becomes a c s f h
joined a b c s f g g' h first second = record { top = first.top; sets = then_sets a b c s g h first.sets second.sets }
