-- A name that isn't bound isn't missed.
use Rattle.std.proofs.Common.{refl}
use Rattle.jk_model_sharing.specs.BoundNames.{not_bound}
use Rattle.thread_segments.proofs.shared.Shared.unbind.Goals as goal

pub returns-in-None : goal.returns-in-None
returns-in-None c = rw (← c.self.view_is) (record { names = c.self.inside.names.names; unbinds = not_bound c.in-None.ensures; becomes = refl })
