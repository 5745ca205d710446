-- The body is read, and what it names are classes.
use Rattle.class_rules.proofs.MethodsByFlags.{none_thrown, thrown_answer}
use Rattle.class_rules.proofs.attributes.are_thrown.Goals as goal

pub returns-in-Ok : goal.returns-in-Ok
returns-in-Ok c =
    thrown_answer c.are_all_classes.result c.args.pool.now c.args.body.now c.in-Ok.indices c.as_slice.result.now c.in-Ok.rest.now c.in-Ok.ensures.gives
    c.in-Ok.ensures.layout c.in-Ok.ensures.values c.as_slice.ensures c.are_all_classes.ensures

pub returns-in-Err-EndsEarly : goal.returns-in-Err-EndsEarly
returns-in-Err-EndsEarly c = none_thrown c.args.pool.now c.args.body.now (rw c.in-Err-EndsEarly.field-0-is at c.in-Err-EndsEarly.ensures.gives)
