-- The threads are as before.
use Rattle.std.proofs.Common.{refl}
use Rattle.thread_segments.proofs.shared.Shared.list_endings.Goals as goal

pub invariant_of-self : goal.invariant_of-self
invariant_of-self c = rw c.list_endings.ensures c.self.invariant

pub returns : goal.returns
returns c = rw (← c.self.view_is, c.list_endings.ensures) refl
