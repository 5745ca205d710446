-- The number of the name's class tells.
use Rattle.std.proofs.Common.{sym}
use Rattle.resolver_rules.proofs.NamesJudged.{another_class, no_system_class}
use Rattle.resolver_rules.proofs.judged.is_of_another_system_class.Goals as goal

pub returns-in-Some : goal.returns-in-Some
returns-in-Some c = rw c.from.ensures (another_class c.args.name.now c.in-Some.number c.args.class (sym c.in-Some.ensures))

pub returns-in-None : goal.returns-in-None
returns-in-None c = no_system_class c.args.name.now c.args.class (sym c.in-None.ensures)
