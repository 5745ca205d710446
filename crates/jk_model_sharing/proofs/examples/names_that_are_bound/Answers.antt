-- Each by its case.
use Rattle.std.proofs.Common.{refl, arith}
use Rattle.std.specs.Prelude.{codes}
use Rattle.jk_model_sharing.specs.BoundNames.{new_name, of_another, one_too_many, own_name, too_long}
use Rattle.jk_model_sharing.specs.Examples.{ann, bob, bound}
use Rattle.jk_model_sharing.proofs.DomainsDiffer.{bob_is_not_ann}
use Rattle.jk_model_sharing.proofs.examples.names_that_are_bound.Goals as goal

pub returns-clause-own_name : goal.returns-clause-own_name
returns-clause-own_name c = own_name (bound (codes "p") 1 ann) (omega arith) refl refl

pub returns-clause-second : goal.returns-clause-second
returns-clause-second c = one_too_many (omega arith) refl (omega arith)

pub returns-clause-last : goal.returns-clause-last
returns-clause-last c = new_name (omega arith) refl (omega arith)

pub returns-clause-of_another : goal.returns-clause-of_another
returns-clause-of_another c = of_another (bound (codes "q") 2 bob) (omega arith) refl bob_is_not_ann

pub returns-clause-too_long : goal.returns-clause-too_long
returns-clause-too_long c = too_long (omega arith)
