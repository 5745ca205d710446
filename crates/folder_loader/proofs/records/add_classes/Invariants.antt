-- The classes of the places so far stand behind the others.
use Rattle.std.proofs.Common.{take}
use Rattle.class_files.specs.FolderClasses.{files_of}
use Rattle.folder_loader.specs.ClassesInOrder.{HasRecords}
use Rattle.folder_loader.proofs.records.add_classes.Given as goal

abbrev pub invariant-loop-place : goal.invariant-loop-place
invariant-loop-place l = HasRecords l.names l.home (files_of l.classes) (take l.place-index l.order) l.fn.world l.world
