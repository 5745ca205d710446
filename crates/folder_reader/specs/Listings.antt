-- Class files to be read, and those that were read.
use Rattle.std.specs.Prelude.{◌≡◌, ℕ, ⊤, ◌≤◌, IsSome, IsUtf8, List, length, map, sum_by, false, Option, Some, None}
use Rattle.std.specs.List.{AllByRecursion}
use Rattle.jk_model.specs.declared.entries.Entry.{Entry}
use Rattle.jk_model.specs.Outside.{FileIs, Tree}
use Rattle.jk_model_folders.specs.declared.files.FolderFile.{FolderFile}
use Rattle.jk_model_folders.specs.FolderTrees.{IsClassPath, MAX_CLASSES, MAX_FILE, StandsBelow}
use Rattle.folder_reader.specs.FolderAnswers.{IsWithin}
use Rattle.folder_reader.specs.Paths.{whole_path}

-- a file stands at the path
pub record IsFilePath (t : Tree) (root path : List ℕ) : Type 0 where
  pub level : ℕ
  pub entry : Entry
  pub stands : StandsBelow t root path level entry
  pub is_file : entry.folder ≡ false
  pub file : IsSome (t.file (whole_path root path))

abbrev pub IsToldFilePath : Option Tree → List ℕ → List ℕ → Type 0
IsToldFilePath None root path = ⊤
IsToldFilePath (Some t) root path = IsFilePath t root path

-- a class file that is to be read
pub record IsToRead (tree : Option Tree) (root path : List ℕ) : Type 0 where
  pub class : IsClassPath path
  pub utf8 : IsUtf8 path
  pub within : IsWithin root (whole_path root path)
  pub told : IsToldFilePath tree root path

abbrev pub sum_of : List FolderFile → ℕ
sum_of files = sum_by (λ (f : FolderFile). length f.bytes) files

-- the files were read, and are within the limits
pub record AreRead (tree : Option Tree) (root : List ℕ) (to_read : List (List ℕ)) (files : List FolderFile) : Type 0 where
  pub paths : map (λ (f : FolderFile). f.path) files ≡ to_read
  pub bytes : AllByRecursion (λ (f : FolderFile). FileIs tree (whole_path root f.path) f.bytes) files
  pub short : AllByRecursion (λ (f : FolderFile). length f.bytes ≤ MAX_FILE) files
  pub together : sum_of files ≤ MAX_CLASSES
