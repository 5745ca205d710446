-- The cursor is right for the segment after the move.
use Rattle.std.proofs.Common.{subst, sym}
use Rattle.frame_store.specs.FrameContents.{HasTop}
use Rattle.frame_store.proofs.CursorPoints.{points}
use Rattle.frame_store.proofs.plain_frames.PlainFrames.touch.Goals as goal

pub returns-then-not-is_at-clause-points : goal.returns-then-not-is_at-clause-points
returns-then-not-is_at-clause-points c =
    let st = c.move_to.new.self in
    λ has. points _ _ _ c.args.s st.ok st.cursor c.move_to.ensures.right (subst (λ q. HasTop q c.args.s) (sym c.move_to.ensures.same) has)
