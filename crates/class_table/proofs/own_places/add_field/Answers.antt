-- The field stands after those before it, and is among the instance fields where it is one.
use Rattle.std.proofs.Common.{◌+◌, arith, sym, ◌∙◌}
use Rattle.class_table.proofs.OwnPlacesGrow.{places-static, places-instance}
use Rattle.class_table.proofs.own_places.add_field.Goals as goal

pub returns-then-is_long-clause-added : goal.returns-then-is_long-clause-added
returns-then-is_long-clause-added c = λ d front e are.
    let own = c.args.own.now in
    places-instance d front c.args.field.now own c.push-then-is_instance_field.new.self c.push.new.self (own.longs + 1) c.args.place c.len.result
    (omega (arith, c.requires.longs, c.requires.place)) e are
    (sym c.is_instance_field.ensures ∙ c.if-is_instance_field.true) (omega (arith, c.if-is_long.ensures)) c.in_ok-push-2.ensures.ok
    c.len.ensures c.in_ok-push.ensures.ok

pub returns-else-is_long-clause-added : goal.returns-else-is_long-clause-added
returns-else-is_long-clause-added c = λ d front e are.
    let own = c.args.own.now in
    places-instance d front c.args.field.now own c.push-then-is_instance_field.new.self c.push.new.self own.longs c.args.place c.len.result
    (omega (arith, c.requires.longs, c.requires.place)) e are
    (sym c.is_instance_field.ensures ∙ c.if-is_instance_field.true) (omega (arith, c.if-is_long.ensures)) c.in_ok-push-2.ensures.ok
    c.len.ensures c.in_ok-push.ensures.ok

pub returns-else-is_instance_field-clause-added : goal.returns-else-is_instance_field-clause-added
returns-else-is_instance_field-clause-added c = λ d front e are.
    places-static d front c.args.field.now c.args.own.now c.push.new.self c.len.result are
    (sym c.is_instance_field.ensures ∙ c.if-is_instance_field.false) c.len.ensures c.in_ok-push.ensures.ok
