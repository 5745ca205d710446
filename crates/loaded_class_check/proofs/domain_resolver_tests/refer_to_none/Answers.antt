-- No system class refers to a class.
use Rattle.domain_resolver.proofs.SystemClassesAlone.{refer_to_none}
use Rattle.loaded_class_check.proofs.domain_resolver_tests.refer_to_none.Goals as goal

pub returns : goal.returns
returns c = refer_to_none c.args._classes.now c.requires
