-- A world of the system classes alone.
use Rattle.load_check.proofs.WorldsAfterLoads.{may_load_first}
use Rattle.load_check.proofs.worlds.first_world.Goals as goal

pub returns : goal.returns
returns c = may_load_first c.in_ok-world.world c.in_ok-world.ensures.classes c.in_ok-world.ensures.domains c.holds.ensures.ordered
