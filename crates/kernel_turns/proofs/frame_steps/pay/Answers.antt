-- So many steps were paid at once, which is as many one after another.
use Rattle.std.proofs.Common.{◌∙◌}
use Rattle.kernel_turns.proofs.PaidTimes.{all_at_once}
use Rattle.kernel_turns.proofs.frame_steps.pay.Goals as goal

pub returns : goal.returns
returns c = c.spend_steps.ensures ∙ all_at_once c.args.d c.args.steps c.args.shared.now
