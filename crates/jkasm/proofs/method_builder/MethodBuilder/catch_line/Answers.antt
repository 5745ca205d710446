-- The handler has the places of its labels, and the pool the class that it catches.
use Rattle.std.proofs.Common.{sym, subst}
use Rattle.jkasm.specs.Building.{IsMethodSoFar, all_codes}
use Rattle.jkasm.proofs.MethodLineByLine.{with_catch, so_far_with_catch}
use Rattle.jkasm.proofs.method_builder.MethodBuilder.catch_line.Goals as goal

pub returns-clause-built : goal.returns-clause-built
returns-clause-built c = λ m later is.
    let b = c.args.self.now in
    let placed = c.in-Some.ensures (all_codes m later) is.labels in
    subst (λ handlers. IsMethodSoFar c.caught.new.pool (with_catch m c.args.line.now) later (record b { handlers = handlers }))
    (sym c.in_ok-push.ensures.ok)
    (so_far_with_catch c.args.pool.now c.caught.new.pool m c.args.line.now later b c.in_ok-catch.catch c.in-Some.handler is
    c.in_ok-catch.ensures.takes.extends placed c.in_ok-catch.ensures.is_caught)
