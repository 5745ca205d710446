-- None of the files so far is bad.
use Rattle.std.proofs.Common.{◌≡◌, ℕ, ◌<◌, Some, slice_get}
use Rattle.name_rules.specs.BadHierarchies.{IsBadAt, folder_scope}
use Rattle.class_files.specs.declared.folder_class.FolderClass.{FolderClass}
use Rattle.name_rules.proofs.hierarchies.first_bad_hierarchy.Given as goal

abbrev pub invariant-loop-i : goal.invariant-loop-i
invariant-loop-i l =
    (j : ℕ) (f : FolderClass) → j < l.i → slice_get l.folder j ≡ Some f → IsBadAt (folder_scope l.scope) l.above.items j f.file → ⊥
