-- An entry is pushed in the domain at the cursor.
use Rattle.std.proofs.Common.{◌<◌, ◌++◌, ◌∷◌, [], length, subst, ap, is_some}
use Rattle.jk_model_frames.specs.Frames.{FrameState}
use Rattle.frame_store.proofs.CursorWrites.{at_domain, frame_at, values_at, value_was, set_stays, sets}
use Rattle.frame_store.proofs.plain_frames.PlainFramesSegmentFrames.push_value.Goals as goal

pub touch-requires : goal.touch-requires
touch-requires c = ap is_some c.requires.1.is_there

pub push_value-requires-clause-frame : goal.push_value-requires-clause-frame
push_value-requires-clause-frame c =
    let st = c.touch.new.self in
    frame_at _ _ _ _ c.args.s st.ok st.cursor (c.touch.ensures.points (c.requires.0, c.requires.1)) c.touch.ensures.same
    c.pair_mut-x.result.1.now c.pair_mut-x.result.0.now c.pair_mut-x.ensures.value

pub push_value-requires-clause-values : goal.push_value-requires-clause-values
push_value-requires-clause-values c =
    let st = c.touch.new.self in
    values_at _ _ _ _ c.args.s st.ok st.cursor (c.touch.ensures.points (c.requires.0, c.requires.1)) c.touch.ensures.same
    c.pair_mut-x.result.1.now c.pair_mut-x.result.0.now c.pair_mut-x.ensures.value

pub push_value-requires-clause-room : goal.push_value-requires-clause-room
push_value-requires-clause-room c =
    let st = c.touch.new.self in
    let P : FrameState → Type 0 = λ (g : FrameState). length g.stack < g.head.max_stack in
    subst P (value_was _ _ _ _ c.args.s st.ok st.cursor (c.touch.ensures.points (c.requires.0, c.requires.1)) c.touch.ensures.same
    c.pair_mut-x.result.1.now c.pair_mut-x.result.0.now c.pair_mut-x.ensures.value c.requires.0 c.requires.1) c.requires.2

pub invariant_of-self : goal.invariant_of-self
invariant_of-self c =
    let st = c.touch.new.self in
    let e = c.push_value.ensures in
    let stays =
    set_stays _ _ _ _ c.args.s st.ok st.cursor (c.touch.ensures.points (c.requires.0, c.requires.1)) c.touch.ensures.same
    c.pair_mut-x.result.1.now c.pair_mut-x.result.0.now c.pair_mut-x.ensures.value c.push_value.new.self c.pair_mut-x.ensures.unique
    (λ (g : FrameState). record g { stack = g.stack ++ c.args.v ∷ [] }) e.becomes e.frames e.parts e.locals c.touch.ensures.at in
    record { ok = stays.0; at = stays.1 }

pub pair_mut-x-requires : goal.pair_mut-x-requires
pair_mut-x-requires c =
    let st = c.touch.new.self in
    at_domain _ _ _ _ c.args.s st.ok st.cursor (c.touch.ensures.points (c.requires.0, c.requires.1)) c.touch.ensures.same

pub returns : goal.returns
returns c =
    let st = c.touch.new.self in
    sets _ _ _ _ c.args.s st.ok st.cursor (c.touch.ensures.points (c.requires.0, c.requires.1)) c.touch.ensures.same
    c.pair_mut-x.result.1.now c.pair_mut-x.result.0.now c.pair_mut-x.ensures.value c.push_value.new.self c.pair_mut-x.ensures.unique
    (λ (g : FrameState). record g { stack = g.stack ++ c.args.v ∷ [] }) c.push_value.ensures.becomes
