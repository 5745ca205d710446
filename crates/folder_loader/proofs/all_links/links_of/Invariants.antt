-- The links of the classes so far.
use Rattle.std.proofs.Common.{take}
use Rattle.class_files.specs.FolderClasses.{files_of}
use Rattle.folder_loader.specs.ClassesInOrder.{AreLinksAmong, AreOfFiles}
use Rattle.folder_loader.proofs.all_links.links_of.Given as goal

abbrev pub invariant-loop-place : goal.invariant-loop-place
invariant-loop-place l = AreOfFiles (AreLinksAmong l.names l.t) (files_of l.classes) (take l.place-index l.order) l.all
