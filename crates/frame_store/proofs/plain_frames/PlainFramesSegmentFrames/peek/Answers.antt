-- The top frame is read where the cursor has it.
use Rattle.std.proofs.Common.{◌<◌, ◌-◌, ◌∙◌, length, slice_get, ap, subst}
use Rattle.jk_model_frames.specs.Frames.{FrameState}
use Rattle.frame_store.proofs.CursorPoints.{found_here, frame_here, reads_at, reads_within, value_here}
use Rattle.frame_store.proofs.plain_frames.PlainFramesSegmentFrames.peek.Goals as goal

pub index-requires : goal.index-requires
index-requires c =
    let st = c.args.self.now in
    let k = c.is_at.ensures.points c.if-is_at.true (c.requires.0, c.requires.1) in
    reads_within _ _ _ c.args.s st.ok _ _ k.top c.as_slice-domains.result c.as_slice-domains.ensures.entries

pub entry_below-requires-clause-frame : goal.entry_below-requires-clause-frame
entry_below-requires-clause-frame c =
    let st = c.args.self.now in
    let k = c.is_at.ensures.points c.if-is_at.true (c.requires.0, c.requires.1) in
    let x = c.index.result.now in
    let reads = reads_at _ _ _ c.args.s st.ok _ _ k.top c.as_slice-domains.result c.as_slice-domains.ensures.entries x c.index.ensures in
    frame_here _ _ _ c.args.s st.ok _ _ k.top x reads

pub entry_below-requires-clause-values : goal.entry_below-requires-clause-values
entry_below-requires-clause-values c =
    let st = c.args.self.now in
    let k = c.is_at.ensures.points c.if-is_at.true (c.requires.0, c.requires.1) in
    let x = c.index.result.now in
    let reads = reads_at _ _ _ c.args.s st.ok _ _ k.top c.as_slice-domains.result c.as_slice-domains.ensures.entries x c.index.ensures in
    k.values x _ (found_here _ _ _ c.args.s st.ok _ _ k.top x reads)

pub entry_below-requires-clause-there : goal.entry_below-requires-clause-there
entry_below-requires-clause-there c =
    let st = c.args.self.now in
    let k = c.is_at.ensures.points c.if-is_at.true (c.requires.0, c.requires.1) in
    let x = c.index.result.now in
    let reads = reads_at _ _ _ c.args.s st.ok _ _ k.top c.as_slice-domains.result c.as_slice-domains.ensures.entries x c.index.ensures in
    let P : FrameState → Type 0 = λ (g : FrameState). c.args.below < length g.stack in
    subst P (value_here _ _ _ c.args.s st.ok _ _ k.top x reads c.requires.0 c.requires.1) c.requires.2

pub returns-then-is_at : goal.returns-then-is_at
returns-then-is_at c =
    let st = c.args.self.now in
    let k = c.is_at.ensures.points c.if-is_at.true (c.requires.0, c.requires.1) in
    let x = c.index.result.now in
    let reads = reads_at _ _ _ c.args.s st.ok _ _ k.top c.as_slice-domains.result c.as_slice-domains.ensures.entries x c.index.ensures in
    λ f top.
    ap (λ (g : FrameState). slice_get g.stack (length g.stack - 1 - c.args.below)) (value_here _ _ _ c.args.s st.ok _ _ k.top x reads f top)
    ∙ c.entry_below.ensures
