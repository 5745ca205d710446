-- The next line goes on with the script, or is the first at fault.
use Rattle.std.proofs.lemmas.Result.{err_from_is_err_and}
use Rattle.jk_model.specs.ScriptGrammar.{line_event}
use Rattle.script_reader.proofs.LinesInTurn.{refused_line, after_event, after_no_event}
use Rattle.script_reader.proofs.script.read_lines.Goals as goal
use Rattle.script_reader.proofs.script.read_lines.Goals.{in-Some-2+in_ok-push, in_default-2}

pub returns-in_err-event : goal.returns-in_err-event
returns-in_err-event c =
    let p = err_from_is_err_and c.from_residual.result c.from_residual.ensures.1 in
    rw (p.1, p.2) (refused_line line_event c.args.bytes.now c.loop-line.rest.now c.in-Some.line.now c.in-Some.after.now
    c.loop-line.number c.loop-line.events c.in_err-event.field-0.0 c.loop-line.invariant c.in-Some.ensures.lines
    c.if-number-gt-MAX_LINES.false c.in_err-event.ensures)

pub loop-line-preserved : goal.loop-line-preserved
loop-line-preserved c =
    elim c.match-branch-2.branch [
      | in-Some-2+in_ok-push w ↦
          rw (w.events-is, w.in_ok-push.ensures.ok) (after_event line_event c.args.bytes.now c.loop-line.rest.now c.in-Some.line.now
          c.in-Some.after.now c.loop-line.number c.loop-line.events w.in-Some-2.event c.loop-line.invariant c.in-Some.ensures.lines
          c.if-number-gt-MAX_LINES.false (rw w.in-Some-2.is at c.in_ok-event.ensures))
      | in_default-2 w ↦
          rw w.events-is (after_no_event line_event c.args.bytes.now c.loop-line.rest.now c.in-Some.line.now c.in-Some.after.now
          c.loop-line.number c.loop-line.events c.loop-line.invariant c.in-Some.ensures.lines
          c.if-number-gt-MAX_LINES.false (rw w.in_default-2.is at c.in_ok-event.ensures))
    ]
