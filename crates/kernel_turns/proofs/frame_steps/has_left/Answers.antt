-- Whatever doesn't go on leaves.
use Rattle.kernel_turns.proofs.SegmentsRun.{leaves_else}
use Rattle.kernel_turns.proofs.frame_steps.has_left.Goals as goal

pub returns-in_default : goal.returns-in_default
returns-in_default c = leaves_else c.args.went c.in_default.not-GoesOn
