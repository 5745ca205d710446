-- It has a top.
use Rattle.std.proofs.Common.{sym, ◌∙◌}
use Rattle.thread_check.proofs.ToldByParts.{thread_told}
use Rattle.thread_check.proofs.asking.expect_thread.Goals as goal

pub returns : goal.returns
returns c = thread_told c.args.shared.now c.args.t c.in-Some._top (sym c.top.ensures ∙ c.in-Some.is)
