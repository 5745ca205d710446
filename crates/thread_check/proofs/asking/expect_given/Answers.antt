-- Something is known of it.
use Rattle.std.proofs.Common.{sym, ◌∙◌}
use Rattle.thread_check.proofs.ToldByParts.{capability_told}
use Rattle.thread_check.proofs.asking.expect_given.Goals as goal

pub returns : goal.returns
returns c = capability_told c.args.shared.now c.args.k c.in-Some._status (sym c.status.ensures ∙ c.in-Some.is)
