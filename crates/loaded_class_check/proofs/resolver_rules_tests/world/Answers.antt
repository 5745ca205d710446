-- A world of the system classes alone.
use Rattle.loaded_class_check.proofs.FirstWorld.{all_of_system, first_world}
use Rattle.loaded_class_check.proofs.resolver_rules_tests.world.Goals as goal

pub returns-clause-world : goal.returns-clause-world
returns-clause-world c = first_world c.in_ok-world.world c.in_ok-world.ensures.classes c.in_ok-world.ensures.domains c.holds.ensures.ordered

pub returns-clause-system : goal.returns-clause-system
returns-clause-system c = all_of_system c.in_ok-world.world.classes c.in_ok-world.ensures.classes
