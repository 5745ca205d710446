-- The frame is that of the start, and one that the code may have.
use Rattle.type_rows.specs.CodeViews.{scope_of}
use Rattle.type_rows.proofs.StartsAreFrames.{started}
use Rattle.type_rows.proofs.starts.start_frame.Goals as goal

pub returns-clause-some : goal.returns-clause-some
returns-clause-some c =
    started (scope_of c.args.view.now) c.in_ok-locals.locals c.fill.new.locals c.new.result c.has_fresh_this.result c.in_ok-locals.ensures
    (rw c.from.ensures at (c.in_ok-fill.ensures.room.0 c.if-not-branch.false))
    (rw c.from.ensures at (c.in_ok-fill.ensures.filled c.if-not-branch.false)) c.new.ensures
    c.has_fresh_this.ensures
