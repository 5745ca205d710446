-- The code that was looked at is that of each scope of the method.
use Rattle.std.proofs.Common.{arith}
use Rattle.bench_classes.proofs.typing.reached.Goals as goal

pub verify-requires : goal.verify-requires
verify-requires c = record { short = λ s scope. rw (c.in_ok-code.ensures s scope) (omega arith) }
