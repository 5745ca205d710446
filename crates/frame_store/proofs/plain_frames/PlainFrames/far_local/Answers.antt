-- The top frame is found in its domain.
use Rattle.std.proofs.Common.{◌<◌, ◌∙◌, length, slice_get, ap, subst, is_some}
use Rattle.jk_model_frames.specs.Frames.{FrameState}
use Rattle.frame_store.proofs.CursorPoints.{has_domain, found_here, frame_here, points, value_here}
use Rattle.frame_store.proofs.plain_frames.PlainFrames.far_local.Goals as goal

pub look_up-found-requires : goal.look_up-found-requires
look_up-found-requires c = ap is_some c.requires.1.is_there

pub at-requires : goal.at-requires
at-requires c =
    let st = c.args.self.now in
    let k = points _ _ _ c.args.s st.ok _ c.look_up-found.ensures.right (c.requires.0, c.requires.1) in
    has_domain _ _ _ c.args.s st.ok _ _ k.top

pub local-requires-clause-frame : goal.local-requires-clause-frame
local-requires-clause-frame c =
    let st = c.args.self.now in
    let k = points _ _ _ c.args.s st.ok _ c.look_up-found.ensures.right (c.requires.0, c.requires.1) in
    let x = c.at.result.now in
    frame_here _ _ _ c.args.s st.ok _ _ k.top x c.at.ensures

pub local-requires-clause-start : goal.local-requires-clause-start
local-requires-clause-start c =
    let st = c.args.self.now in
    let k = points _ _ _ c.args.s st.ok _ c.look_up-found.ensures.right (c.requires.0, c.requires.1) in
    let x = c.at.result.now in
    (k.values x _ (found_here _ _ _ c.args.s st.ok _ _ k.top x c.at.ensures)).start

pub local-requires-clause-there : goal.local-requires-clause-there
local-requires-clause-there c =
    let st = c.args.self.now in
    let k = points _ _ _ c.args.s st.ok _ c.look_up-found.ensures.right (c.requires.0, c.requires.1) in
    let x = c.at.result.now in
    let P : FrameState → Type 0 = λ (g : FrameState). c.args.i < length g.locals in
    subst P (value_here _ _ _ c.args.s st.ok _ _ k.top x c.at.ensures c.requires.0 c.requires.1) c.requires.2

pub returns : goal.returns
returns c =
    let st = c.args.self.now in
    let k = points _ _ _ c.args.s st.ok _ c.look_up-found.ensures.right (c.requires.0, c.requires.1) in
    let x = c.at.result.now in
    λ f top.
    ap (λ (g : FrameState). slice_get g.locals c.args.i) (value_here _ _ _ c.args.s st.ok _ _ k.top x c.at.ensures f top)
    ∙ c.local.ensures
