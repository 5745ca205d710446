-- Something is known of it.
use Rattle.std.proofs.Common.{sym, ◌∙◌}
use Rattle.thread_check.proofs.ToldByParts.{segment_told}
use Rattle.thread_check.proofs.asking.expect_segment.Goals as goal

pub returns : goal.returns
returns c = segment_told c.args.shared.now c.args.s c.in-Some._info (sym c.segment.ensures ∙ c.in-Some.is)
