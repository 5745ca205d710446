-- The head of the top frame is written in the domain at the cursor.
use Rattle.std.proofs.Common.{ap, is_some}
use Rattle.jk_model_frames.specs.Frames.{FrameState}
use Rattle.frame_store.proofs.CursorWrites.{at_domain, frame_at, set_stays, sets}
use Rattle.frame_store.proofs.plain_frames.PlainFramesSegmentFrames.go.Goals as goal

pub touch-requires : goal.touch-requires
touch-requires c = ap is_some c.requires.1.is_there

pub go-requires : goal.go-requires
go-requires c =
    let st = c.touch.new.self in
    frame_at _ _ _ _ c.args.s st.ok st.cursor (c.touch.ensures.points c.requires) c.touch.ensures.same
    c.pair_mut-x.result.1.now c.pair_mut-x.result.0.now c.pair_mut-x.ensures.value

pub invariant_of-self : goal.invariant_of-self
invariant_of-self c =
    let st = c.touch.new.self in
    let e = c.go.ensures in
    let stays =
    set_stays _ _ _ _ c.args.s st.ok st.cursor (c.touch.ensures.points c.requires) c.touch.ensures.same
    c.pair_mut-x.result.1.now c.pair_mut-x.result.0.now c.pair_mut-x.ensures.value c.go.new.self c.pair_mut-x.ensures.unique
    (λ (g : FrameState). record g { head = record g.head { at = c.args.at; need = c.args.need } }) e.becomes e.frames e.parts e.locals c.touch.ensures.at in
    record { ok = stays.0; at = stays.1 }

pub pair_mut-x-requires : goal.pair_mut-x-requires
pair_mut-x-requires c =
    let st = c.touch.new.self in
    at_domain _ _ _ _ c.args.s st.ok st.cursor (c.touch.ensures.points c.requires) c.touch.ensures.same

pub returns : goal.returns
returns c =
    let st = c.touch.new.self in
    sets _ _ _ _ c.args.s st.ok st.cursor (c.touch.ensures.points c.requires) c.touch.ensures.same
    c.pair_mut-x.result.1.now c.pair_mut-x.result.0.now c.pair_mut-x.ensures.value c.go.new.self c.pair_mut-x.ensures.unique
    (λ (g : FrameState). record g { head = record g.head { at = c.args.at; need = c.args.need } }) c.go.ensures.becomes
