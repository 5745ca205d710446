-- The class is said.
use Rattle.std.proofs.Common.{sym}
use Rattle.jkasm.proofs.ItemsAdded.{class_added}
use Rattle.jkasm.proofs.class_builder.ClassBuilder.add_class.Goals as goal

pub returns-clause-added : goal.returns-clause-added
returns-clause-added c =
    λ o later built limits. class_added o c.args.line.now later c.args.self.now c.build_header.new.pool c.in_ok-header.header built limits
    (sym c.if-is_some.ensures) c.in_ok-header.ensures.says c.in_ok-header.ensures.takes c.in_ok-header.ensures.short
