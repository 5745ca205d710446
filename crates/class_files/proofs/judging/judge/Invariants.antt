-- The class files before this place were judged.
use Rattle.class_files.specs.FolderClasses.{files_of}
use Rattle.class_files.proofs.JudgedFiles.{IsJudged}
use Rattle.class_files.proofs.judging.judge.Given as goal

abbrev pub invariant-loop-place : goal.invariant-loop-place
invariant-loop-place l = IsJudged l.files (files_of l.classes) l.place l.first
