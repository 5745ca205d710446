-- The entries are counted at the cursor.
use Rattle.std.proofs.Common.{◌∙◌, length, ap, sym}
use Rattle.jk_model_frames.specs.Frames.{FrameState}
use Rattle.frame_store.proofs.LentCalls.{frame_there, value_was}
use Rattle.frame_store.proofs.one_segment.OneSegmentSegmentFrames.height.Goals as goal

pub height-requires : goal.height-requires
height-requires g c =
    let one = c.args.self.now in
    frame_there one.domain.ghost_name one.domain.now one.at c.args._s one.right c.requires.0 c.requires.1

pub returns : goal.returns
returns g c =
    let one = c.args.self.now in
    λ f top. c.height.ensures ∙ ap (λ (h : FrameState). length h.stack) (sym (value_was one.domain.ghost_name one.domain.now one.at c.args._s one.right f top))
