-- Each by its case.
use Rattle.std.proofs.Common.{refl}
use Rattle.jk_model_sharing.specs.CapabilityCalls.{of_another, own}
use Rattle.jk_model_sharing.proofs.examples.capabilities_that_are_revoked.Goals as goal

pub returns-clause-own : goal.returns-clause-own
returns-clause-own c = own refl

pub returns-clause-again : goal.returns-clause-again
returns-clause-again c = own refl

pub returns-clause-of_another : goal.returns-clause-of_another
returns-clause-of_another c = of_another refl
