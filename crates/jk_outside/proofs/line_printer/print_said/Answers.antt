-- The parts make the text of the line.
use Rattle.jk_outside.proofs.LineTexts.{said_text}
use Rattle.jk_outside.proofs.PartsInOrder.{Prints-as}
use Rattle.jk_outside.proofs.line_printer.print_said.Goals as goal

pub returns : goal.returns
returns g c = Prints-as (said_text c.args.domain.now c.args.text.now) c.print_parts.ensures
