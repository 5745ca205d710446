-- There are as many numbers.
use Rattle.std.proofs.Common.{Err, ap, arith}
use Rattle.capability_table.specs.declared.table.CapsError.{CapsError}
use Rattle.thread_segments.proofs.restoring.admit.Goals as goal

pub unreachable-requires : goal.unreachable-requires
unreachable-requires c = omega (arith, c.in-Err-Numbers.ensures.numbers (ap (λ (e : CapsError). Err e) c.in-Err-Numbers.field-0-is), c.requires.numbers)
