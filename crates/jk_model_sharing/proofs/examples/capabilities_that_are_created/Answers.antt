-- Each by its case.
use Rattle.std.proofs.Common.{arith}
use Rattle.jk_model_sharing.specs.CapabilityCalls.{has_room, used_up}
use Rattle.jk_model_sharing.proofs.examples.capabilities_that_are_created.Goals as goal

pub returns-clause-second : goal.returns-clause-second
returns-clause-second c = has_room (omega arith)

pub returns-clause-third : goal.returns-clause-third
returns-clause-third c = used_up (omega arith)
