-- A folder has one verdict. The rules speak of some lines, class files, names and classes put behind the others; whatever these
-- are, the folder is found to break no rule, or to break the same rule first and at the same place.
use Rattle.std.specs.Prelude.{◌≡◌, ◌↔◌, ℕ, List, Contains}
use Rattle.jk_model.specs.declared.identifiers.ClassId.{ClassId}
use Rattle.jk_model.specs.declared.output.Place.{Place}
use Rattle.jk_model.specs.declared.output.Rule.{Rule}
use Rattle.jk_model.specs.Outside.{Tree, ◌/-◌}
use Rattle.jk_model_classes.specs.declared.sharing.Offer.{Offer}
use Rattle.jk_model_classes.specs.declared.sharing.Stub.{Stub}
use Rattle.jk_model_classes.specs.Worlds.{NamedClass, WorldRecord, class_named}
use Rattle.jk_model_folders.specs.declared.files.FolderFiles.{FolderFiles}
use Rattle.jk_model_folders.specs.FolderRules.{IsFilesFault, IsFolderFault}
use Rattle.jk_model_folders.specs.FolderTrees.{AreFiles, AreFilesOf}
use Rattle.jk_model_folders.specs.Loads.{Loads}

-- What is brought by files that break no rule: the first number of their classes, the names, offers and stubs of the domain, and
-- the world from now on.
pub record Brought : Type 0 where
  pub first : ClassId
  pub table : List NamedClass
  pub offers : List Offer
  pub stubs : List Stub
  pub world : WorldRecord

abbrev pub Brings : FolderFiles → WorldRecord → List ℕ → Brought → Type 0
Brings f w name b = Loads f w name b.first b.table b.offers b.stubs b.world

-- ---- Files.

-- files that break no rule have no fault
abbrev pub LoadedFilesHaveNoFault : Type 0
LoadedFilesHaveNoFault =
    (f : FolderFiles) (w : WorldRecord) (name : List ℕ) (b : Brought) (rule : Rule) (place : Place) → Brings f w name b
    → IsFilesFault f w name rule place → ⊥

abbrev pub FilesHaveOneFault : Type 0
FilesHaveOneFault =
    (f : FolderFiles) (w : WorldRecord) (name : List ℕ) (rule other : Rule) (place spot : Place) → IsFilesFault f w name rule place
    → IsFilesFault f w name other spot → (rule ≡ other) × (place ≡ spot)

-- Two that are brought are the same, but for how names and offers are listed.
pub record IsSameBrought (a b : Brought) : Type 0 where
  pub first : a.first ≡ b.first
  pub names : class_named a.table ≡ class_named b.table
  pub offers : (o : Offer) → Contains a.offers o ↔ Contains b.offers o
  pub stubs : a.stubs ≡ b.stubs
  pub world : a.world ≡ b.world

abbrev pub FilesBringOneThing : Type 0
FilesBringOneThing =
    (f : FolderFiles) (w : WorldRecord) (name : List ℕ) (a b : Brought) → Brings f w name a → Brings f w name b → IsSameBrought a b

-- ---- Folders of a told tree.

abbrev pub ToldFilesAreOne : Type 0
ToldFilesAreOne =
    (t : Tree) (root : List ℕ) (f g : FolderFiles) → AreFiles f → AreFiles g → AreFilesOf t root f → AreFilesOf t root g → f ≡ g

-- a folder whose files break no rule has no fault
abbrev pub LoadedFoldersHaveNoFault : Type 0
LoadedFoldersHaveNoFault =
    (t : Tree) (root : List ℕ) (w : WorldRecord) (name : List ℕ) (f : FolderFiles) (b : Brought) (rule : Rule) (place : Place) → AreFiles f
    → AreFilesOf t (root /- name) f → Brings f w name b → IsFolderFault t root w name rule place → ⊥

abbrev pub FoldersHaveOneFault : Type 0
FoldersHaveOneFault =
    (t : Tree) (root : List ℕ) (w : WorldRecord) (name : List ℕ) (rule other : Rule) (place spot : Place) → IsFolderFault t root w name rule place
    → IsFolderFault t root w name other spot → (rule ≡ other) × (place ≡ spot)
