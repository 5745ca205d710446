-- The method has one code line more.
use Rattle.jkasm.proofs.ItemsAdded.{method_of, code_added}
use Rattle.jkasm.proofs.class_builder.ClassBuilder.add_code.Goals as goal

pub returns-clause-added : goal.returns-clause-added
returns-clause-added c =
    λ o later built limits. let (m, of, is) = method_of o _ c.args.self.now c.in-Some.method built c.in-Some.is in
    code_added o c.args.line.now later c.args.self.now c.code_line.new.pool m c.code_line.new.self built limits of
    (c.in_ok-code_line.ensures.built m later is) (c.in_ok-code_line.ensures.good m later is) c.in_ok-code_line.ensures.takes
