-- The ends that are noted, and then the level above.
use Rattle.std.proofs.Common.{inl, inr, arith, ◌-◌}
use Rattle.handler_cover.proofs.RangesTakenApart.{IsLeftTaken, IsRightTaken, partly_above, partly_done, partly_left_end, partly_right_end, partly_start, partly_up, partly_within}
use Rattle.handler_cover.proofs.tree.CoverTree.note_entry.Goals as goal
use Rattle.handler_cover.proofs.tree.CoverTree.note_entry.Goals.{then-left-eq1+in_ok-note, else-left-eq1, then-right-eq1+in_ok-note-2, else-right-eq1}

pub loop-level-init : goal.loop-level-init
loop-level-init c = rw c.min-right.ensures (partly_start c.requires)

pub note-requires-clause-node : goal.note-requires-clause-node
note-requires-clause-node c =
    partly_within c.loop-level.invariant (omega (arith, c.loop-level.invariant.gains.count)) c.loop-level.left c.if-left-right.false

pub note-requires-then-right-eq1-clause-node : goal.note-requires-then-right-eq1-clause-node
note-requires-then-right-eq1-clause-node c =
    let taken : IsLeftTaken c.loop-level.self c.if-left-eq1.self c.args.x c.loop-level.level c.loop-level.left c.if-left-eq1.left =
    elim c.if-left-eq1.branch [
      | then-left-eq1+in_ok-note w ↦ inl (w.if-left-eq1.true, rw w.self-is w.in_ok-note.ensures, w.left-is)
      | else-left-eq1 w ↦ inr (w.if-left-eq1.false, w.self-is, w.left-is)
    ]
    in let left = partly_left_end c.if-left-eq1.self c.if-left-eq1.left c.loop-level.invariant c.if-left-right.false taken
    in partly_within left.0 (omega (arith, left.0.gains.count)) (c.loop-level.right - 1) (omega arith)

pub loop-level-preserved : goal.loop-level-preserved
loop-level-preserved c =
    let left_taken : IsLeftTaken c.loop-level.self c.if-left-eq1.self c.args.x c.loop-level.level c.loop-level.left c.if-left-eq1.left =
    elim c.if-left-eq1.branch [
      | then-left-eq1+in_ok-note w ↦ inl (w.if-left-eq1.true, rw w.self-is w.in_ok-note.ensures, w.left-is)
      | else-left-eq1 w ↦ inr (w.if-left-eq1.false, w.self-is, w.left-is)
    ]
    in let right_taken : IsRightTaken c.if-left-eq1.self c.if-right-eq1.self c.args.x c.loop-level.level c.loop-level.right c.if-right-eq1.right =
    elim c.if-right-eq1.branch [
      | then-right-eq1+in_ok-note-2 w ↦ inl (w.if-right-eq1.true, rw w.self-is w.in_ok-note-2.ensures, w.right-is)
      | else-right-eq1 w ↦ inr (w.if-right-eq1.false, w.self-is, w.right-is)
    ]
    in let left = partly_left_end c.if-left-eq1.self c.if-left-eq1.left c.loop-level.invariant c.if-left-right.false left_taken
    in let both = partly_right_end c.if-right-eq1.self c.if-right-eq1.right left right_taken
    in partly_up both (omega (arith, both.0.gains.count))

pub returns-after-loop-level : goal.returns-after-loop-level
returns-after-loop-level c =
    partly_done c.loop-level.invariant (partly_above c.loop-level.invariant (omega (arith, c.loop-level.invariant.gains.count)))

pub returns-then-left-right : goal.returns-then-left-right
returns-then-left-right c = partly_done c.loop-level.invariant c.if-left-right.true
