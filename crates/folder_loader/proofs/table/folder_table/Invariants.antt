-- The classes before this place of the order have their names.
use Rattle.class_files.specs.FolderClasses.{files_of}
use Rattle.folder_loader.specs.FolderTables.{IsTableUpTo}
use Rattle.folder_loader.proofs.table.folder_table.Given as goal

abbrev pub invariant-loop-place : goal.invariant-loop-place
invariant-loop-place l = IsTableUpTo (files_of l.classes) l.order l.first l.place l.fn.names l.names
