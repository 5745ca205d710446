-- The index has the names of the files so far.
use Rattle.resolver_rules.specs.ClassNames.{has_name}
use Rattle.resolver_rules.proofs.NamesInTheIndex.{HasNamesBefore}
use Rattle.resolver_rules.proofs.folder.names_of.Given as goal

abbrev pub invariant-loop-file : goal.invariant-loop-file
invariant-loop-file l = HasNamesBefore (has_name l.names) l.files l.file-index
