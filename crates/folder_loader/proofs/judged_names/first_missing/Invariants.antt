-- The classes that the files before this place name are known.
use Rattle.class_files.specs.FolderClasses.{files_of}
use Rattle.folder_loader.proofs.NamesJudged.{AreKnownUpTo}
use Rattle.folder_loader.proofs.judged_names.first_missing.Given as goal

abbrev pub invariant-loop-file : goal.invariant-loop-file
invariant-loop-file l = AreKnownUpTo (files_of l.classes) l.outer l.file
