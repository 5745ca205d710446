-- One line more.
use Rattle.asm_reader.proofs.LinesInTurn.{one_more}
use Rattle.asm_reader.proofs.lines.read_lines.Goals as goal

pub loop-line-preserved : goal.loop-line-preserved
loop-line-preserved c =
    rw c.in_ok-push.ensures.ok (one_more c.args.text.now c.loop-line.rest.now c.in-Some.after.now c.in-Some.line.now c.loop-line.readings
    c.in_ok-reading_of.field-0 c.loop-line.invariant c.in-Some.ensures.0 c.in_ok-reading_of.ensures)
