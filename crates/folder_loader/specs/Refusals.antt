-- With what a folder is refused for a line of its `resolver.txt`, or for a class file.
use Rattle.std.specs.Prelude.{◌≡◌, ⊤, ◌<◌, length, Some, slice_get}
use Rattle.jk_model.specs.declared.output.Place.TheVariants.{At}
use Rattle.jk_model.specs.declared.output.Rule.TheVariants.{L6, L7}
use Rattle.jk_model_folders.specs.declared.files.FolderFile.{FolderFile}
use Rattle.jk_model_folders.specs.declared.files.FolderFiles.{FolderFiles}
use Rattle.jk_model_folders.specs.FolderTrees.{RESOLVER}
use Rattle.class_files.specs.declared.faults.ClassFilesError.{ClassFilesError}
use Rattle.class_files.specs.declared.faults.ClassFilesError.TheVariants as File
use Rattle.folder_loader.specs.declared.answers.LoadAnswer.{LoadAnswer}
use Rattle.folder_loader.specs.declared.answers.LoadAnswer.TheVariants.{Refused, ReadFault, OutOfMemory}
use Rattle.resolver_rules.specs.declared.outer.ResolverFault.{ResolverFault}
use Rattle.resolver_rules.specs.declared.outer.ResolverFault.TheVariants as Line

abbrev pub IsLineRefusal : ResolverFault → LoadAnswer → Type 0
IsLineRefusal fault ReadFault = ⊥
IsLineRefusal fault OutOfMemory = ⊤
IsLineRefusal (Line.BadLine n) (Refused rule place) = (rule ≡ L6) × (place ≡ At RESOLVER n)
IsLineRefusal (Line.NotOffered n) (Refused rule place) = (rule ≡ L7) × (place ≡ At RESOLVER n)
IsLineRefusal Line.OutOfMemory (Refused rule place) = ⊥

-- the file at fault is one of the folder
abbrev pub IsFileThere : FolderFiles → ClassFilesError → Type 0
IsFileThere f (File.Broken fault) = fault.file < length f.classes
IsFileThere f File.OutOfMemory = ⊤

abbrev pub IsFileRefusal : FolderFiles → ClassFilesError → LoadAnswer → Type 0
IsFileRefusal f e ReadFault = ⊥
IsFileRefusal f e OutOfMemory = ⊤
IsFileRefusal f (File.Broken fault) (Refused rule place) =
    (file : FolderFile) × (slice_get f.classes fault.file ≡ Some file) × (rule ≡ fault.rule) × (place ≡ At file.path fault.number)
IsFileRefusal f File.OutOfMemory (Refused rule place) = ⊥
