-- The slots are those of the shape that is known of the descriptor.
use Rattle.class_rules.proofs.MethodHasOneCode.{takes_more, takes_none}
use Rattle.class_rules.proofs.method_codes.arguments_of.Goals as goal

pub returns-in-Some : goal.returns-in-Some
returns-in-Some c =
    takes_more c.args.pool.now.entries.now c.args.flags c.args.method.now c.in-Some.descriptor c.has.result c.slots_of.result c.in-Some.ensures
    c.has.ensures c.slots_of.ensures

pub returns-in-None : goal.returns-in-None
returns-in-None c = takes_none c.args.pool.now.entries.now c.args.flags c.args.method.now c.in-None.ensures
