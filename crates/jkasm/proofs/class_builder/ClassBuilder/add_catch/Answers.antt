-- The method has one handler more.
use Rattle.jkasm.proofs.ItemsAdded.{method_of, catch_added}
use Rattle.jkasm.proofs.class_builder.ClassBuilder.add_catch.Goals as goal

pub returns-clause-added : goal.returns-clause-added
returns-clause-added c =
    λ o later built limits. let (m, of, is) = method_of o _ c.args.self.now c.in-Some.method built c.in-Some.is in
    let good = c.in_ok-catch_line.ensures.good m later is in
    catch_added o c.args.line.now later c.args.self.now c.catch_line.new.pool m c.catch_line.new.self built limits of
    (c.in_ok-catch_line.ensures.built m later is) good.0 good.1 c.in_ok-catch_line.ensures.takes
