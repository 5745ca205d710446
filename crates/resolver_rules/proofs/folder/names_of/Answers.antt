-- All files were taken in.
use Rattle.std.proofs.Common.{arith}
use Rattle.resolver_rules.specs.ClassNames.{has_name}
use Rattle.resolver_rules.proofs.NamesInTheIndex.{names_end}
use Rattle.resolver_rules.proofs.folder.names_of.Goals as goal

pub returns : goal.returns
returns c = record { each = names_end (has_name c.loop-file.names) c.args.files.now c.loop-file.file-index (omega arith) c.loop-file.invariant }
