-- The files before this place gave their names.
use Rattle.class_files.specs.FolderClasses.{files_of}
use Rattle.folder_loader.proofs.NamesGiven.{AreOwnUpTo}
use Rattle.folder_loader.proofs.own_names.own_names.Given as goal

abbrev pub invariant-loop-place : goal.invariant-loop-place
invariant-loop-place l = AreOwnUpTo (files_of l.classes) l.place l.own
