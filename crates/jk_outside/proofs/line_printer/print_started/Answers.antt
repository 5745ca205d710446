-- The parts make the text of the line.
use Rattle.std.proofs.Common.{rules}
use Rattle.jk_outside.proofs.LineTexts.{started_text, number_is}
use Rattle.jk_outside.proofs.PartsInOrder.{Prints-as}
use Rattle.jk_outside.proofs.line_printer.print_started.Goals as goal

pub returns : goal.returns
returns g c =
    let number = number_is c.args.thread.0 c.from.result (search rules) c.from.ensures in
    Prints-as (started_text c.args.thread.0 _ c.args.domain.now number) c.print_parts.ensures
