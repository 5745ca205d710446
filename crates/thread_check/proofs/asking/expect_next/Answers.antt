-- The lists have as many domains.
use Rattle.std.proofs.Common.{arith}
use Rattle.thread_check.proofs.ToldByParts.{next_told}
use Rattle.thread_check.proofs.asking.expect_next.Goals as goal

pub returns : goal.returns
returns c = next_told c.args.shared.now c.in_ok-parts.parts c.args.d c.in_ok-parts.ensures (omega (arith, c.len.ensures, c.if-len-d.false))
