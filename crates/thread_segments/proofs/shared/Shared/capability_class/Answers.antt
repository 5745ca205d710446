-- The ranges are those of the domains.
use Rattle.std.proofs.Common.{◌∙◌}
use Rattle.thread_segments.proofs.StatesByPart.{class_here}
use Rattle.thread_segments.proofs.shared.Shared.capability_class.Goals as goal

pub returns : goal.returns
returns c =
    let s = c.self.inside in
    rw (← c.self.view_is) (c.class_of.ensures ∙ class_here s.domains.items s.caps s.stubs.stubs s.names s.threads c.self.invariant.counted c.args.k)
