-- Words that are no item.
use Rattle.asm_reader.proofs.LinesInTurn.{no_item}
use Rattle.asm_reader.proofs.lines.reading_of.Goals as goal

pub returns-in_default : goal.returns-in_default
returns-in_default c =
    let split = rw c.in-Words.is at c.in_ok-words_of.ensures in
    let none = rw (c.in_default.is, c.as_slice.ensures) at c.in_ok-item.ensures in
    no_item c.args.line.now c.in-Words.words split.0 split.1 none
