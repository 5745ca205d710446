-- The top frame is read where the cursor or a look-up has it.
use Rattle.std.proofs.Common.{◌∙◌, length, sym, ap}
use Rattle.jk_model_frames.specs.Frames.{FrameState}
use Rattle.frame_store.proofs.CursorPoints.{frame_here, reads_at, reads_within, value_here}
use Rattle.frame_store.proofs.plain_frames.PlainFramesSegmentFrames.height.Goals as goal

pub index-requires : goal.index-requires
index-requires c =
    let st = c.args.self.now in
    reads_within _ _ _ c.args.s st.ok _ _ c.top-domain.ensures c.as_slice.result c.as_slice.ensures.entries

pub height-requires : goal.height-requires
height-requires c =
    let st = c.args.self.now in
    frame_here _ _ _ c.args.s st.ok _ _ c.top-domain.ensures c.index.result.now
    (reads_at _ _ _ c.args.s st.ok _ _ c.top-domain.ensures c.as_slice.result c.as_slice.ensures.entries c.index.result.now c.index.ensures)

pub returns : goal.returns
returns c =
    let st = c.args.self.now in
    λ f top.
    c.height.ensures
    ∙ ap (λ (g : FrameState). length g.stack) (sym (value_here _ _ _ c.args.s st.ok _ _ c.top-domain.ensures c.index.result.now
    (reads_at _ _ _ c.args.s st.ok _ _ c.top-domain.ensures c.as_slice.result c.as_slice.ensures.entries c.index.result.now c.index.ensures) f top))
