-- The class of the name is the one at its number.
use Rattle.name_rules.proofs.BadParts.{closed_tells, none_closed, number_within}
use Rattle.name_rules.proofs.scope.is_closed.Goals as goal

pub system_class-requires : goal.system_class-requires
system_class-requires c = number_within c.args.name.now c.in-Some.n c.in-Some.ensures

pub returns-in-Some : goal.returns-in-Some
returns-in-Some c =
    closed_tells c.args.name.now c.in-Some.n c.system_class.ensures.0 c.system_class.result.closed c.in-Some.ensures c.system_class.ensures.1
    c.system_class.ensures.2.closed

pub returns-in-None : goal.returns-in-None
returns-in-None c = none_closed c.args.name.now c.in-None.ensures
