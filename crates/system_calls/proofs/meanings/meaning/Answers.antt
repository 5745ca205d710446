-- The classes of throwables, and those that have no methods.
use Rattle.std.proofs.Common.{◌∙◌, arith}
use Rattle.system_calls.proofs.ClassesOfMeanings.{of_exceptions, of_no_others}
use Rattle.system_calls.proofs.meanings.meaning.Goals as goal

pub returns-in-15-to-44 : goal.returns-in-15-to-44
returns-in-15-to-44 c = c.exception_meaning.ensures ∙ of_exceptions c.args.m (omega arith) (omega arith) (omega arith)

pub returns-in_default-2 : goal.returns-in_default-2
returns-in_default-2 c =
    of_no_others c.args.m.class.0 c.args.m.index (omega arith) (omega arith) (omega arith) (omega arith) (omega arith) (omega arith) (omega arith)
    (omega arith) (omega arith) (omega arith) (omega arith) (omega arith) (λ low. omega arith)
