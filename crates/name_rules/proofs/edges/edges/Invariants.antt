-- The rows so far are those of the files so far.
use Rattle.std.proofs.Common.{◌≡◌, ℕ, length, Bool, Some, slice_get}
use Rattle.std.specs.Global.{Vec}
use Rattle.name_rules.specs.FolderEdges.{GoesTo}
use Rattle.name_rules.specs.Marks.{MarksOf}
use Rattle.class_files.specs.declared.folder_class.FolderClass.{FolderClass}
use Rattle.name_rules.proofs.edges.edges.Given as goal

abbrev pub invariant-loop-f : goal.invariant-loop-f
invariant-loop-f l = record {
  as_many : length l.rows.items ≡ l.f-index;
  each : (i : ℕ) (f : FolderClass) (row : Vec Bool) → slice_get l.folder i ≡ Some f → slice_get l.rows.items i ≡ Some row
      → MarksOf (length l.folder) (GoesTo f.file l.own) row.items;
}
