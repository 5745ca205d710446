-- The name that is copied is the one that is free.
use Rattle.loaded_class_check.proofs.domain_resolver_tests.add.Goals as goal

pub add_domain-requires-clause-free : goal.add_domain-requires-clause-free
add_domain-requires-clause-free g c = rw c.in_ok-name.ensures c.in_default.ensures
