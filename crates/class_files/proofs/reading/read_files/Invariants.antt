-- The files before this place were read.
use Rattle.class_files.proofs.ReadFiles.{AreReadUpTo}
use Rattle.class_files.proofs.reading.read_files.Given as goal

abbrev pub invariant-loop-place : goal.invariant-loop-place
invariant-loop-place l = AreReadUpTo l.files l.place l.first l.classes
