-- The parts make the text of the line, with a place and without one.
use Rattle.std.proofs.Common.{rules}
use Rattle.jk_outside.proofs.LineTexts.{refused_text, refused_at_text, number_is}
use Rattle.jk_outside.proofs.PartsInOrder.{Prints-as}
use Rattle.jk_outside.proofs.line_printer.print_refused.Goals as goal

pub returns-in-Whole : goal.returns-in-Whole
returns-in-Whole g c =
    rw c.in-Whole.is (Prints-as (refused_text c.args.domain.now c.rule_name.result.now c.args.rule c.rule_name.ensures) c.print_parts.ensures)

pub returns-in-At : goal.returns-in-At
returns-in-At g c =
    let number = number_is c.in-At.number c.from.result (search rules) c.from.ensures in
    rw c.in-At.is (Prints-as (refused_at_text c.args.domain.now c.rule_name-in-At.result.now c.in-At.path.now c.args.rule c.in-At.number _
    c.rule_name-in-At.ensures number) c.print_parts-in-At.ensures)
