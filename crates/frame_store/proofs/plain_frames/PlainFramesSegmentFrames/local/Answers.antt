-- The top frame is read where the cursor has it.
use Rattle.std.proofs.Common.{◌<◌, ◌∙◌, length, slice_get, ap, subst}
use Rattle.jk_model_frames.specs.Frames.{FrameState}
use Rattle.frame_store.proofs.CursorPoints.{found_here, frame_here, reads_at, reads_within, value_here}
use Rattle.frame_store.proofs.plain_frames.PlainFramesSegmentFrames.local.Goals as goal

pub index-requires : goal.index-requires
index-requires c =
    let st = c.args.self.now in
    let k = c.is_at.ensures.points c.if-is_at.true (c.requires.0, c.requires.1) in
    reads_within _ _ _ c.args.s st.ok _ _ k.top c.as_slice-domains.result c.as_slice-domains.ensures.entries

pub local-requires-clause-frame : goal.local-requires-clause-frame
local-requires-clause-frame c =
    let st = c.args.self.now in
    let k = c.is_at.ensures.points c.if-is_at.true (c.requires.0, c.requires.1) in
    let x = c.index.result.now in
    let reads = reads_at _ _ _ c.args.s st.ok _ _ k.top c.as_slice-domains.result c.as_slice-domains.ensures.entries x c.index.ensures in
    frame_here _ _ _ c.args.s st.ok _ _ k.top x reads

pub local-requires-clause-start : goal.local-requires-clause-start
local-requires-clause-start c =
    let st = c.args.self.now in
    let k = c.is_at.ensures.points c.if-is_at.true (c.requires.0, c.requires.1) in
    let x = c.index.result.now in
    let reads = reads_at _ _ _ c.args.s st.ok _ _ k.top c.as_slice-domains.result c.as_slice-domains.ensures.entries x c.index.ensures in
    (k.values x _ (found_here _ _ _ c.args.s st.ok _ _ k.top x reads)).start

pub local-requires-clause-there : goal.local-requires-clause-there
local-requires-clause-there c =
    let st = c.args.self.now in
    let k = c.is_at.ensures.points c.if-is_at.true (c.requires.0, c.requires.1) in
    let x = c.index.result.now in
    let reads = reads_at _ _ _ c.args.s st.ok _ _ k.top c.as_slice-domains.result c.as_slice-domains.ensures.entries x c.index.ensures in
    let P : FrameState → Type 0 = λ (g : FrameState). c.args.i < length g.locals in
    subst P (value_here _ _ _ c.args.s st.ok _ _ k.top x reads c.requires.0 c.requires.1) c.requires.2

pub returns-then-is_at : goal.returns-then-is_at
returns-then-is_at c =
    let st = c.args.self.now in
    let k = c.is_at.ensures.points c.if-is_at.true (c.requires.0, c.requires.1) in
    let x = c.index.result.now in
    let reads = reads_at _ _ _ c.args.s st.ok _ _ k.top c.as_slice-domains.result c.as_slice-domains.ensures.entries x c.index.ensures in
    λ f top.
    ap (λ (g : FrameState). slice_get g.locals c.args.i) (value_here _ _ _ c.args.s st.ok _ _ k.top x reads f top)
    ∙ c.local.ensures
