-- A local of the top frame is written in the domain at the cursor.
use Rattle.std.proofs.Common.{◌<◌, length, set, subst, ap, is_some}
use Rattle.jk_model_frames.specs.Frames.{FrameState}
use Rattle.frame_store.proofs.CursorWrites.{at_domain, frame_at, values_at, value_was, set_stays, sets}
use Rattle.frame_store.proofs.plain_frames.PlainFramesSegmentFrames.set_local.Goals as goal

pub touch-requires : goal.touch-requires
touch-requires c = ap is_some c.requires.1.is_there

pub set_local-requires-clause-frame : goal.set_local-requires-clause-frame
set_local-requires-clause-frame c =
    let st = c.touch.new.self in
    frame_at _ _ _ _ c.args.s st.ok st.cursor (c.touch.ensures.points (c.requires.0, c.requires.1)) c.touch.ensures.same
    c.pair_mut-x.result.1.now c.pair_mut-x.result.0.now c.pair_mut-x.ensures.value

pub set_local-requires-clause-start : goal.set_local-requires-clause-start
set_local-requires-clause-start c =
    let st = c.touch.new.self in
    (values_at _ _ _ _ c.args.s st.ok st.cursor (c.touch.ensures.points (c.requires.0, c.requires.1)) c.touch.ensures.same
    c.pair_mut-x.result.1.now c.pair_mut-x.result.0.now c.pair_mut-x.ensures.value).start

pub set_local-requires-clause-there : goal.set_local-requires-clause-there
set_local-requires-clause-there c =
    let st = c.touch.new.self in
    let P : FrameState → Type 0 = λ (g : FrameState). c.args.i < length g.locals in
    subst P (value_was _ _ _ _ c.args.s st.ok st.cursor (c.touch.ensures.points (c.requires.0, c.requires.1)) c.touch.ensures.same
    c.pair_mut-x.result.1.now c.pair_mut-x.result.0.now c.pair_mut-x.ensures.value c.requires.0 c.requires.1) c.requires.2

pub invariant_of-self : goal.invariant_of-self
invariant_of-self c =
    let st = c.touch.new.self in
    let e = c.set_local.ensures in
    let stays =
    set_stays _ _ _ _ c.args.s st.ok st.cursor (c.touch.ensures.points (c.requires.0, c.requires.1)) c.touch.ensures.same
    c.pair_mut-x.result.1.now c.pair_mut-x.result.0.now c.pair_mut-x.ensures.value c.set_local.new.self c.pair_mut-x.ensures.unique
    (λ (g : FrameState). record g { locals = set g.locals c.args.i c.args.v }) e.becomes e.frames e.parts e.locals c.touch.ensures.at in
    record { ok = stays.0; at = stays.1 }

pub pair_mut-x-requires : goal.pair_mut-x-requires
pair_mut-x-requires c =
    let st = c.touch.new.self in
    at_domain _ _ _ _ c.args.s st.ok st.cursor (c.touch.ensures.points (c.requires.0, c.requires.1)) c.touch.ensures.same

pub returns : goal.returns
returns c =
    let st = c.touch.new.self in
    sets _ _ _ _ c.args.s st.ok st.cursor (c.touch.ensures.points (c.requires.0, c.requires.1)) c.touch.ensures.same
    c.pair_mut-x.result.1.now c.pair_mut-x.result.0.now c.pair_mut-x.ensures.value c.set_local.new.self c.pair_mut-x.ensures.unique
    (λ (g : FrameState). record g { locals = set g.locals c.args.i c.args.v }) c.set_local.ensures.becomes
