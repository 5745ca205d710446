-- The paths so far are those of the class files before this place.
use Rattle.std.proofs.Common.{◌≡◌, map, string_bytes, take}
use Rattle.folder_reader.specs.Paths.{class_paths}
use Rattle.folder_reader.proofs.class_files.unsorted_paths.Given as goal

abbrev pub invariant-loop-f : goal.invariant-loop-f
invariant-loop-f l = map string_bytes l.paths.items ≡ class_paths (take l.f-index l.found)
