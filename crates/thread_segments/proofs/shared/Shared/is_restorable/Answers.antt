-- It is sound, its domains are few, and its segments rise.
use Rattle.std.proofs.Common.{subst}
use Rattle.jk_model_sharing.specs.SharedStates.{SharedState}
use Rattle.thread_segments.specs.RestoredStates.{IsRestorable}
use Rattle.thread_segments.proofs.Restorable.{restorable}
use Rattle.thread_segments.proofs.shared.Shared.is_restorable.Goals as goal

pub returns : goal.returns
returns c =
    let s = c.self.inside in
    subst (λ (x : SharedState). IsRestorable x) c.self.view_is
    (restorable s.domains.items s.caps s.stubs.stubs s.names s.threads c.self.invariant c.segments_rise.ensures)
