-- The cursor is right for the segment.
use Rattle.std.proofs.Common.{ℕ, subst}
use Rattle.std.proofs.lemmas.Bool.{eqb-true}
use Rattle.frame_store.specs.Cursors.{IsRightFor}
use Rattle.frame_store.proofs.CursorPoints.{points}
use Rattle.frame_store.proofs.plain_frames.PlainFrames.is_at.Goals as goal

pub returns-clause-points : goal.returns-clause-points
returns-clause-points c =
    let st = c.args.self.now in
    λ at has.
    let here = eqb-true st.cursor.segment c.args.s.0 at in
    let P : ℕ → Type 0 = λ r. IsRightFor st.domains st.places r st.cursor in
    points _ _ _ c.args.s st.ok st.cursor (subst P here st.at) has
