-- The line has the instruction that can't be written.
use Rattle.std.proofs.Common.{sym, subst}
use Rattle.jkasm.specs.LineWriting.{CannotBeWritten}
use Rattle.jkasm.proofs.method_builder.write_line.Goals as goal

pub returns-in-Some-clause-fault : goal.returns-in-Some-clause-fault
returns-in-Some-clause-fault c = λ codes labels e.
    subst (λ s. CannotBeWritten codes c.args.pool.now c.args.code.now s) (sym c.in-Some.is) (c.write_statement.ensures.fault codes labels e)
