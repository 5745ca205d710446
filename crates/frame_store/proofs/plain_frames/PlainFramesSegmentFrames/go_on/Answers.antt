-- The top frame goes on in the domain at the cursor.
use Rattle.std.proofs.Common.{◌+◌, ◌^◌, ◌<◌, None, ap, is_some, subst}
use Rattle.jk_model_frames.specs.Frames.{FrameState}
use Rattle.frame_store.proofs.CursorWrites.{at_domain, frame_at, set_stays, sets, value_was}
use Rattle.frame_store.proofs.plain_frames.PlainFramesSegmentFrames.go_on.Goals as goal

pub touch-requires : goal.touch-requires
touch-requires c = ap is_some c.requires.1.is_there

pub pair_mut-x-requires : goal.pair_mut-x-requires
pair_mut-x-requires c =
    let st = c.touch.new.self in
    at_domain _ _ _ _ c.args.s st.ok st.cursor (c.touch.ensures.points (c.requires.0, c.requires.1)) c.touch.ensures.same

pub go_on-requires-clause-frame : goal.go_on-requires-clause-frame
go_on-requires-clause-frame c =
    let st = c.touch.new.self in
    frame_at _ _ _ _ c.args.s st.ok st.cursor (c.touch.ensures.points (c.requires.0, c.requires.1)) c.touch.ensures.same
    c.pair_mut-x.result.1.now c.pair_mut-x.result.0.now c.pair_mut-x.ensures.value

pub go_on-requires-clause-place : goal.go_on-requires-clause-place
go_on-requires-clause-place c =
    let st = c.touch.new.self in
    let P : FrameState → Type 0 = λ (f : FrameState). f.head.at + 1 < 2 ^ 32 in
    subst P (value_was _ _ _ _ c.args.s st.ok st.cursor (c.touch.ensures.points (c.requires.0, c.requires.1)) c.touch.ensures.same
    c.pair_mut-x.result.1.now c.pair_mut-x.result.0.now c.pair_mut-x.ensures.value c.requires.0 c.requires.1) c.requires.2

pub invariant_of-self : goal.invariant_of-self
invariant_of-self c =
    let st = c.touch.new.self in
    let e = c.go_on.ensures in
    let stays =
    set_stays _ _ _ _ c.args.s st.ok st.cursor (c.touch.ensures.points (c.requires.0, c.requires.1)) c.touch.ensures.same
    c.pair_mut-x.result.1.now c.pair_mut-x.result.0.now c.pair_mut-x.ensures.value c.go_on.new.self c.pair_mut-x.ensures.unique
    (λ (g : FrameState). record g { head = record g.head { at = g.head.at + 1; need = None } }) e.becomes e.frames e.parts e.locals c.touch.ensures.at in
    record { ok = stays.0; at = stays.1 }

pub returns : goal.returns
returns c =
    let st = c.touch.new.self in
    sets _ _ _ _ c.args.s st.ok st.cursor (c.touch.ensures.points (c.requires.0, c.requires.1)) c.touch.ensures.same
    c.pair_mut-x.result.1.now c.pair_mut-x.result.0.now c.pair_mut-x.ensures.value c.go_on.new.self c.pair_mut-x.ensures.unique
    (λ (g : FrameState). record g { head = record g.head { at = g.head.at + 1; need = None } }) c.go_on.ensures.becomes
