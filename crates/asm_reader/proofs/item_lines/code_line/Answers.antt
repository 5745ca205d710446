-- No label, no instruction, and words after a label that say nothing.
use Rattle.asm_reader.proofs.CodeLines.{neither_is_code, mark_alone_is_no_code}
use Rattle.asm_reader.proofs.item_lines.code_line.Goals as goal

pub returns-in-None : goal.returns-in-None
returns-in-None c = neither_is_code c.args.words.now c.in_default.ensures (rw c.in-None.is at c.in_ok-statement.ensures)

pub returns-in_default-2 : goal.returns-in_default-2
returns-in_default-2 c =
    mark_alone_is_no_code c.args.words.now c.in-Some.label.now c.in-Some.rest.now c.in-Some.ensures
    (rw c.in_default-2.is at c.in_ok-statement-2.ensures)
