-- The head is read at the cursor.
use Rattle.std.proofs.Common.{◌∙◌, ap, sym}
use Rattle.jk_model_frames.specs.Frames.{FrameState}
use Rattle.frame_store.proofs.LentCalls.{frame_there, value_was}
use Rattle.frame_store.proofs.one_segment.OneSegmentSegmentFrames.head.Goals as goal

pub head-requires : goal.head-requires
head-requires g c =
    let one = c.args.self.now in
    frame_there one.domain.ghost_name one.domain.now one.at c.args._s one.right c.requires.0 c.requires.1

pub returns : goal.returns
returns g c =
    let one = c.args.self.now in
    λ f top. c.head.ensures ∙ ap (λ (h : FrameState). h.head) (sym (value_was one.domain.ghost_name one.domain.now one.at c.args._s one.right f top))
