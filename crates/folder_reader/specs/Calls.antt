-- What calls of the files of the system leave, and what they answer.
use Rattle.std.specs.Prelude.{◌≡◌, ◌≢◌, ℕ, ⊤, ◌<◌, ◌≤◌, ◌++◌, IsSome, IsUtf8, List, length, Option, Some, None}
use Rattle.std.specs.List.{AllByRecursion}
use Rattle.jk_model.specs.declared.entries.Entry.{Entry}
use Rattle.jk_model.specs.Outside.{AreNamed, AreThere, Ask, FolderIs, FoldersAreThere, NeverFalls, Tree}
use Rattle.jk_outside.specs.EntryNames.{ArePlain}
use Rattle.jk_model_folders.specs.FolderTrees.{MAX_FILE, MOST_ENTRIES}
use Rattle.folder_reader.specs.FolderAnswers.{AsksWithin}

-- The tree stays, no count falls, and nothing is asked but of the folder and what stands below it.
pub record Moves (root : List ℕ) (old_tree new_tree : Option Tree) (old_faults new_faults old_taken new_taken : ℕ)
    (old_asked new_asked : List Ask) : Type 0 where
  pub stays : new_tree ≡ old_tree
  pub faults : NeverFalls old_faults new_faults
  pub taken : NeverFalls old_taken new_taken
  pub asks : (more : List Ask) × (new_asked ≡ old_asked ++ more) × AllByRecursion (AsksWithin root) more

-- a told tree has the folder
abbrev pub HasFolder : Option Tree → List ℕ → Type 0
HasFolder None folder = ⊤
HasFolder (Some t) folder = t.folder folder ≢ None

-- a told tree has a file at the path
abbrev pub HasFile : Option Tree → List ℕ → Type 0
HasFile None path = ⊤
HasFile (Some t) path = IsSome (t.file path)

-- a told tree has a file at the path that is too long
abbrev pub IsLongFile : Option Tree → List ℕ → Type 0
IsLongFile None path = ⊤
IsLongFile (Some t) path = (bytes : List ℕ) × (t.file path ≡ Some bytes) × (MAX_FILE < length bytes)

-- what was listed of a folder
pub record IsListing (tree : Option Tree) (folder : List ℕ) (entries : List Entry) : Type 0 where
  pub found : FolderIs tree folder entries
  pub few : length entries ≤ MOST_ENTRIES
  pub utf8 : AllByRecursion (λ (e : Entry). IsUtf8 e.name) entries
  pub named : AreNamed tree entries
  pub plain : ArePlain tree entries
  pub there : AreThere tree folder entries
  pub folders : FoldersAreThere tree folder entries
