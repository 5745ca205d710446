-- The ranges are those of the domains.
use Rattle.std.proofs.Common.{◌∙◌}
use Rattle.thread_segments.proofs.StatesByPart.{numbers_here}
use Rattle.thread_segments.proofs.shared.Shared.numbers_left.Goals as goal

pub returns : goal.returns
returns c =
    let s = c.self.inside in
    rw (← c.self.view_is) (c.numbers_left.ensures.left ∙ numbers_here s.domains.items s.caps s.stubs.stubs s.names s.threads c.self.invariant.counted)
