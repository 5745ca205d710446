-- What the methods of the classes so far say they throw.
use Rattle.std.proofs.Common.{take}
use Rattle.class_files.specs.FolderClasses.{files_of}
use Rattle.folder_loader.specs.ClassesInOrder.{AreDeclared}
use Rattle.folder_loader.proofs.thrown.declared_by.Given as goal

abbrev pub invariant-loop-place : goal.invariant-loop-place
invariant-loop-place l = AreDeclared l.names (files_of l.classes) (take l.place-index l.order) l.declared
