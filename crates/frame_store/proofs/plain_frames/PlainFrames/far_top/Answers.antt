-- The top frame is found by a look-up.
use Rattle.std.proofs.Common.{ap, is_some}
use Rattle.frame_store.proofs.CursorPoints.{points}
use Rattle.frame_store.proofs.plain_frames.PlainFrames.far_top.Goals as goal

pub look_up-found-requires : goal.look_up-found-requires
look_up-found-requires c = ap is_some c.requires.1.is_there

pub returns : goal.returns
returns c =
    let st = c.args.self.now in
    (points _ _ _ c.args.s st.ok _ c.look_up-found.ensures.right c.requires).top
