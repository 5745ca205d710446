-- No name so far means something else.
use Rattle.jk_model_folders.specs.FolderRules.{class_paths}
use Rattle.resolver_rules.proofs.NamesJudged.{AreFreeTo}
use Rattle.resolver_rules.proofs.judged.are_free.Given as goal

abbrev pub invariant-loop-place : goal.invariant-loop-place
invariant-loop-place l = AreFreeTo (class_paths l.folder) l.names l.first l.place
