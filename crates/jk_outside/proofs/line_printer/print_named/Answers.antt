-- The three parts make the text.
use Rattle.jk_outside.proofs.LineTexts.{three}
use Rattle.jk_outside.proofs.PartsInOrder.{Prints-as}
use Rattle.jk_outside.proofs.line_printer.print_named.Goals as goal

pub returns : goal.returns
returns g c = Prints-as (three c.args.front.now c.args.name.now c.args.back.now) c.print_parts.ensures
