-- What is answered where a folder is loaded, told or not.
use Rattle.std.specs.Prelude.{◌≡◌, ℕ, List, Option}
use Rattle.jk_model.specs.declared.output.Place.{Place}
use Rattle.jk_model.specs.declared.output.Place.TheVariants.{Whole}
use Rattle.jk_model.specs.declared.output.Rule.{Rule}
use Rattle.jk_model.specs.declared.output.Rule.TheVariants.{L1, L2, L5}
use Rattle.jk_model.specs.Outside.{Tree, ◌/-◌}
use Rattle.jk_model_classes.specs.Worlds.{WorldRecord}
use Rattle.jk_model_folders.specs.declared.files.FolderFiles.{FolderFiles}
use Rattle.jk_model_folders.specs.FolderRules.{IsFilesFault, IsLive}
use Rattle.jk_model_folders.specs.FolderTrees.{AreFiles, AreToldFiles}
use Rattle.jk_model_folders.specs.Loads.{Loads}
use Rattle.folder_reader.specs.FolderAnswers.{IsAbsent, IsLarge}
use Rattle.folder_reader.specs.declared.reading.FolderError.{FolderError}
use Rattle.folder_reader.specs.declared.reading.FolderError.TheVariants as Read
use Rattle.folder_loader.specs.declared.answers.Loaded.{Loaded}
use Rattle.folder_loader.specs.declared.answers.LoadAnswer.{LoadAnswer}
use Rattle.folder_loader.specs.declared.answers.LoadAnswer.TheVariants.{Refused, ReadFault, OutOfMemory}

-- The folder at this path has files, which break no rule, and what it brings is this. In a told tree they are the files that
-- stand in it.
pub record HasLoaded (tree : Option Tree) (folder : List ℕ) (old : WorldRecord) (name : List ℕ) (l : Loaded) (new : WorldRecord) : Type 0 where
  pub found : FolderFiles
  pub are_files : AreFiles found
  pub are_told : AreToldFiles tree folder found
  pub loads : Loads found old name l.first l.table l.offers l.stubs new

-- The folder of this name below a root is refused by its first rule, and there. In a told tree the rule is that of the folder
-- that stands in it; else it is one of some files, or of the system, which tells no tree, that there is none.
pub data IsRefused (tree : Option Tree) (root : List ℕ) (w : WorldRecord) (name : List ℕ) : Rule → Place → Type 0 where
  name_is_live : IsLive w name → IsRefused tree root w name L1 Whole
  no_folder : (IsLive w name → ⊥) → IsAbsent tree (root /- name) → IsRefused tree root w name L2 Whole
  too_large : (IsLive w name → ⊥) → IsLarge tree (root /- name) → IsRefused tree root w name L5 Whole
  files : (f : FolderFiles) (rule : Rule) (place : Place) → (IsLive w name → ⊥) → AreFiles f → AreToldFiles tree (root /- name) f
      → IsFilesFault f w name rule place → IsRefused tree root w name rule place

-- what is answered where the files of a folder aren't read
abbrev pub IsReadRefusal : FolderError → LoadAnswer → Type 0
IsReadRefusal Read.NoFolder answer = answer ≡ Refused L2 Whole
IsReadRefusal Read.TooLarge answer = answer ≡ Refused L5 Whole
IsReadRefusal Read.ReadFault answer = answer ≡ ReadFault
IsReadRefusal Read.OutOfMemory answer = answer ≡ OutOfMemory
