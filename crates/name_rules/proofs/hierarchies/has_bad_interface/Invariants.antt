-- None of the texts so far is a bad name of an interface.
use Rattle.std.proofs.Common.{ℕ, ◌<◌}
use Rattle.name_rules.specs.BadHierarchies.{TextIsBad, folder_scope}
use Rattle.name_rules.specs.FolderEdges.{IsListedName}
use Rattle.name_rules.proofs.hierarchies.has_bad_interface.Given as goal

abbrev pub invariant-loop-n : goal.invariant-loop-n
invariant-loop-n l = (k : ℕ) → k < l.n → IsListedName l.f.file k → TextIsBad (folder_scope l.x) l.f.file k → ⊥
