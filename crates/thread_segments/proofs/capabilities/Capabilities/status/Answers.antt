-- What the table says of a number is what is known of its capability.
use Rattle.std.proofs.Common.{◌∙◌}
use Rattle.thread_segments.proofs.RangesWithClasses.{status_is}
use Rattle.thread_segments.proofs.capabilities.Capabilities.status.Goals as goal

pub returns : goal.returns
returns c =
    rw (← c.self.view_is)
    (c.status.ensures ∙ status_is c.self.inside.classes.items c.args.k c.self.inside.table)
