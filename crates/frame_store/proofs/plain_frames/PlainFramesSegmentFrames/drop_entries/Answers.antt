-- Entries go off in the domain at the cursor.
use Rattle.std.proofs.Common.{◌≤◌, length, subst, ap, is_some}
use Rattle.jk_model_frames.specs.Frames.{FrameState}
use Rattle.frame_store.proofs.CursorWrites.{at_domain, frame_at, value_was, dropped_stays, drops}
use Rattle.frame_store.proofs.plain_frames.PlainFramesSegmentFrames.drop_entries.Goals as goal

pub touch-requires : goal.touch-requires
touch-requires c = ap is_some c.requires.1.is_there

pub drop_entries-requires-clause-frame : goal.drop_entries-requires-clause-frame
drop_entries-requires-clause-frame c =
    let st = c.touch.new.self in
    frame_at _ _ _ _ c.args.s st.ok st.cursor (c.touch.ensures.points (c.requires.0, c.requires.1)) c.touch.ensures.same
    c.pair_mut-x.result.1.now c.pair_mut-x.result.0.now c.pair_mut-x.ensures.value

pub drop_entries-requires-clause-enough : goal.drop_entries-requires-clause-enough
drop_entries-requires-clause-enough c =
    let st = c.touch.new.self in
    let P : FrameState → Type 0 = λ (g : FrameState). c.args.count ≤ length g.stack in
    subst P (value_was _ _ _ _ c.args.s st.ok st.cursor (c.touch.ensures.points (c.requires.0, c.requires.1)) c.touch.ensures.same
    c.pair_mut-x.result.1.now c.pair_mut-x.result.0.now c.pair_mut-x.ensures.value c.requires.0 c.requires.1) c.requires.2

pub pair_mut-x-requires : goal.pair_mut-x-requires
pair_mut-x-requires c =
    let st = c.touch.new.self in
    at_domain _ _ _ _ c.args.s st.ok st.cursor (c.touch.ensures.points (c.requires.0, c.requires.1)) c.touch.ensures.same

pub invariant_of-self : goal.invariant_of-self
invariant_of-self c =
    let st = c.touch.new.self in
    let e = c.drop_entries.ensures in
    let P : FrameState → Type 0 = λ (g : FrameState). c.args.count ≤ length g.stack in
    let many = subst P (value_was _ _ _ _ c.args.s st.ok st.cursor (c.touch.ensures.points (c.requires.0, c.requires.1)) c.touch.ensures.same
    c.pair_mut-x.result.1.now c.pair_mut-x.result.0.now c.pair_mut-x.ensures.value c.requires.0 c.requires.1) c.requires.2 in
    let stays =
    dropped_stays _ _ _ _ c.args.s st.ok st.cursor (c.touch.ensures.points (c.requires.0, c.requires.1)) c.touch.ensures.same
    c.pair_mut-x.result.1.now c.pair_mut-x.result.0.now c.pair_mut-x.ensures.value c.drop_entries.new.self c.pair_mut-x.ensures.unique
    c.args.count e.becomes many e.frames e.parts e.locals c.touch.ensures.at in
    record { ok = stays.0; at = stays.1 }

pub returns : goal.returns
returns c =
    let st = c.touch.new.self in
    drops _ _ _ _ c.args.s st.ok st.cursor (c.touch.ensures.points (c.requires.0, c.requires.1)) c.touch.ensures.same
    c.pair_mut-x.result.1.now c.pair_mut-x.result.0.now c.pair_mut-x.ensures.value c.drop_entries.new.self c.pair_mut-x.ensures.unique
    c.args.count c.drop_entries.ensures.becomes
