-- What a change of a segment that is seen alone is to the store that lent it.
use Rattle.std.proofs.Common.{◌≡◌, ℕ, List, Some, sym, ◌∙◌}
use Rattle.jk_model.specs.declared.identifiers.SegmentNo.{SegmentNo}
use Rattle.jk_model_frames.specs.Frames.{FrameState}
use Rattle.frame_store.specs.FrameContents.{Changes, FrameContent, IsOnly, KeepsOthers, StoredSegment}

module _ (c one : FrameContent) (s : SegmentNo) (was : IsOnly c s one) where
  module _ (n then : FrameContent) (is : IsOnly n s then) (keeps : KeepsOthers c n s) where
    pub change_in_store : (g : StoredSegment) → c.segment s ≡ Some g → (frames : List FrameState) (used : ℕ)
        → Changes one then s g.domain (Some (record g { frames = frames })) used → Changes c n s g.domain (Some (record g { frames = frames })) used
    change_in_store g there frames used b =
        let now : n.segment s ≡ Some (record g { frames = frames }) = sym is.segment ∙ b.becomes in
        record {
          domains = keeps.domains;
          becomes = now;
          others = keeps.others;
          uses = sym (is.used (record g { frames = frames }) now) ∙ b.uses;
          other_domains = keeps.other_domains g there;
        }
