-- The parts make the text.
use Rattle.std.proofs.Common.{rules}
use Rattle.jk_model.specs.Text.{shown}
use Rattle.jk_outside.proofs.LineTexts.{thread_text, number_is}
use Rattle.jk_outside.proofs.PartsInOrder.{Prints-as}
use Rattle.jk_outside.proofs.line_printer.print_thread.Goals as goal

pub returns : goal.returns
returns g c =
    let number = number_is c.args.thread.0 c.from.result (search rules) c.from.ensures in
    Prints-as (thread_text c.args.thread.0 _ c.args.fate.now (shown c.args.class.now) number) c.print_parts.ensures
