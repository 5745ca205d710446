-- There is no class file, and the text is short.
use Rattle.std.proofs.Common.{ap, arith, length}
use Rattle.loaded_class_check.proofs.FirstWorld.{no_class_files}
use Rattle.loaded_class_check.proofs.resolver_rules_tests.files.Goals as goal

pub returns : goal.returns
returns c = no_class_files _ c.new-classes.ensures (omega (arith, c.requires, ap length c.in_ok-resolver.ensures))
