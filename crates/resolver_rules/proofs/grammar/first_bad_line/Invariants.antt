-- No line so far breaks L6, and there are no more lines than bytes.
use Rattle.std.proofs.Common.{◌+◌, ◌≤◌, length}
use Rattle.jk_model_folders.specs.FolderRules.{class_paths}
use Rattle.resolver_rules.specs.Lines.{ArePassed}
use Rattle.resolver_rules.proofs.grammar.first_bad_line.Given as goal

abbrev pub invariant-loop-line : goal.invariant-loop-line
invariant-loop-line l = record {
  passed : ArePassed (class_paths l.folder) l.folder.resolver l.rest l.number;
  few : l.number + length l.rest ≤ 1048577;
}

abbrev pub decreases-loop-line : goal.decreases-loop-line
decreases-loop-line l = length l.rest
