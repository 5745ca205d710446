-- Each by its case.
use Rattle.std.proofs.Common.{refl}
use Rattle.std.specs.Prelude.{codes}
use Rattle.jk_model_sharing.specs.BoundNames.{not_bound, not_own, removed}
use Rattle.jk_model_sharing.specs.Examples.{ann, bob, bound}
use Rattle.jk_model_sharing.proofs.DomainsDiffer.{bob_is_not_ann}
use Rattle.jk_model_sharing.proofs.examples.names_that_are_removed.Goals as goal

pub returns-clause-own : goal.returns-clause-own
returns-clause-own c = removed (bound (codes "p") 1 ann) refl refl

pub returns-clause-of_another : goal.returns-clause-of_another
returns-clause-of_another c = not_own (bound (codes "q") 2 bob) refl bob_is_not_ann

pub returns-clause-not_bound : goal.returns-clause-not_bound
returns-clause-not_bound c = not_bound refl
