-- The parts make the text of the line.
use Rattle.std.proofs.Common.{◌<◌, ◌^◌, arith}
use Rattle.jk_outside.proofs.LineTexts.{start_refused_text, number_is}
use Rattle.jk_outside.proofs.PartsInOrder.{Prints-as}
use Rattle.jk_outside.proofs.line_printer.print_start_refused.Goals as goal

pub returns : goal.returns
returns g c =
    let below : c.args.number < 2 ^ 32 = omega (arith, c.ranges.number.fits) in
    let number = number_is c.args.number c.from.result below c.from.ensures in
    Prints-as (start_refused_text c.args.domain.now c.args.number _ number) c.print_parts.ensures
