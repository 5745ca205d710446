-- The class files before this place were read.
use Rattle.std.proofs.Common.{◌≡◌, [], Some, map, string_bytes, take}
use Rattle.jk_model.specs.Outside.{Tree}
use Rattle.jk_outside.specs.Counts.{HasTaken}
use Rattle.folder_reader.specs.AskedOnce.{AsksSome, whole_paths}
use Rattle.folder_reader.specs.Calls.{Moves}
use Rattle.folder_reader.specs.Listings.{AreRead, sum_of}
use Rattle.folder_reader.proofs.class_files.read_classes.Given as goal

abbrev pub invariant-loop-path : goal.invariant-loop-path
invariant-loop-path g l = record {
  read : AreRead (g.F.Files.tree l.fn.files) l.root (take l.path-index (map string_bytes l.paths)) l.classes;
  sum : l.sum ≡ sum_of l.classes;
  counted : HasTaken (g.F.Files.tree l.fn.files) l.sum (g.F.Files.taken l.fn.files) (g.F.Files.taken l.files);
  moves : Moves l.root (g.F.Files.tree l.fn.files) (g.F.Files.tree l.files) (g.F.Files.faults l.fn.files) (g.F.Files.faults l.files)
      (g.F.Files.taken l.fn.files) (g.F.Files.taken l.files) (g.F.Files.asked l.fn.files) (g.F.Files.asked l.files);
  asks : AsksSome (g.F.Files.asked l.fn.files) (g.F.Files.asked l.files) [] (whole_paths l.root (take l.path-index (map string_bytes l.paths)));
  calm : (t : Tree) → g.F.Files.tree l.fn.files ≡ Some t → g.F.Files.faults l.files ≡ g.F.Files.faults l.fn.files;
}
