-- A value comes in the place of entries in the domain at the cursor.
use Rattle.std.proofs.Common.{◌≤◌, length, subst, ap, is_some}
use Rattle.jk_model_frames.specs.Frames.{FrameState}
use Rattle.frame_store.proofs.CursorWrites.{at_domain, frame_at, values_at, value_was, exchanged_stays, exchanges}
use Rattle.frame_store.proofs.plain_frames.PlainFramesSegmentFrames.exchange.Goals as goal

pub touch-requires : goal.touch-requires
touch-requires c = ap is_some c.requires.there.1.is_there

pub exchange-requires-clause-frame : goal.exchange-requires-clause-frame
exchange-requires-clause-frame c =
    let st = c.touch.new.self in
    frame_at _ _ _ _ c.args.s st.ok st.cursor (c.touch.ensures.points (c.requires.there.0, c.requires.there.1)) c.touch.ensures.same
    c.pair_mut-x.result.1.now c.pair_mut-x.result.0.now c.pair_mut-x.ensures.value

pub exchange-requires-clause-values : goal.exchange-requires-clause-values
exchange-requires-clause-values c =
    let st = c.touch.new.self in
    values_at _ _ _ _ c.args.s st.ok st.cursor (c.touch.ensures.points (c.requires.there.0, c.requires.there.1)) c.touch.ensures.same
    c.pair_mut-x.result.1.now c.pair_mut-x.result.0.now c.pair_mut-x.ensures.value

pub exchange-requires-clause-enough : goal.exchange-requires-clause-enough
exchange-requires-clause-enough c =
    let st = c.touch.new.self in
    let P : FrameState → Type 0 = λ (g : FrameState). c.args.count ≤ length g.stack in
    subst P (value_was _ _ _ _ c.args.s st.ok st.cursor (c.touch.ensures.points (c.requires.there.0, c.requires.there.1)) c.touch.ensures.same
    c.pair_mut-x.result.1.now c.pair_mut-x.result.0.now c.pair_mut-x.ensures.value c.requires.there.0 c.requires.there.1) c.requires.there.2

pub pair_mut-x-requires : goal.pair_mut-x-requires
pair_mut-x-requires c =
    let st = c.touch.new.self in
    at_domain _ _ _ _ c.args.s st.ok st.cursor (c.touch.ensures.points (c.requires.there.0, c.requires.there.1)) c.touch.ensures.same

pub invariant_of-self : goal.invariant_of-self
invariant_of-self c =
    let st = c.touch.new.self in
    let e = c.exchange.ensures in
    let P : FrameState → Type 0 = λ (g : FrameState). c.args.count ≤ length g.stack in
    let many = subst P (value_was _ _ _ _ c.args.s st.ok st.cursor (c.touch.ensures.points (c.requires.there.0, c.requires.there.1)) c.touch.ensures.same
    c.pair_mut-x.result.1.now c.pair_mut-x.result.0.now c.pair_mut-x.ensures.value c.requires.there.0 c.requires.there.1) c.requires.there.2 in
    let stays =
    exchanged_stays _ _ _ _ c.args.s st.ok st.cursor (c.touch.ensures.points (c.requires.there.0, c.requires.there.1)) c.touch.ensures.same
    c.pair_mut-x.result.1.now c.pair_mut-x.result.0.now c.pair_mut-x.ensures.value c.exchange.new.self c.pair_mut-x.ensures.unique
    c.args.count c.args.v e.becomes many e.frames e.parts e.locals c.touch.ensures.at in
    record { ok = stays.0; at = stays.1 }

pub returns : goal.returns
returns c =
    let st = c.touch.new.self in
    exchanges _ _ _ _ c.args.s st.ok st.cursor (c.touch.ensures.points (c.requires.there.0, c.requires.there.1)) c.touch.ensures.same
    c.pair_mut-x.result.1.now c.pair_mut-x.result.0.now c.pair_mut-x.ensures.value c.exchange.new.self c.pair_mut-x.ensures.unique
    c.args.count c.args.v c.exchange.ensures.becomes
