-- The names of a folder's own classes, and the classes that its files name.
use Rattle.std.specs.Prelude.{◌≡◌, ℕ, ◌<◌, List, Some, slice_get}
use Rattle.jk_model.specs.declared.class_file.ClassFile.{ClassFile}
use Rattle.jk_model.specs.declared.output.Rule.TheVariants.{C18}
use Rattle.jk_model_classes.specs.Items.{Entry, Spot}
use Rattle.jk_model_classes.specs.References.{FolderScope, IsCalledClass, MissesClass}
use Rattle.jk_model_classes.specs.Worlds.{NamedClass}
use Rattle.class_files.specs.declared.faults.FileFault.{FileFault}

-- no two files are of classes of one name
abbrev pub NamesDiffer : List ClassFile → Type 0
NamesDiffer cs =
    (i j : ℕ) (a b : ClassFile) (name : List ℕ) → slice_get cs i ≡ Some a → slice_get cs j ≡ Some b → IsCalledClass a name
    → IsCalledClass b name → i ≡ j

-- Each class that a file names is one of the folder, or its name means something outside of it; whatever classes are loaded.
abbrev pub AreAllKnown : List ClassFile → List NamedClass → Type 0
AreAllKnown cs names =
    (s : FolderScope) (i : ℕ) (c : ClassFile) (spot : Spot) → s.files ≡ cs → s.names ≡ names → slice_get cs i ≡ Some c → MissesClass s c spot → ⊥

-- the first file that names a class which isn't known, and the least index where it does
pub record IsFirstMissing (cs : List ClassFile) (names : List NamedClass) (fault : FileFault) : Type 0 where
  pub rule : fault.rule ≡ C18
  pub file : ClassFile
  pub there : slice_get cs fault.file ≡ Some file
  pub misses : (s : FolderScope) → s.files ≡ cs → s.names ≡ names → MissesClass s file (Entry fault.number)
  pub least : (s : FolderScope) → s.files ≡ cs → s.names ≡ names → (i : ℕ) → i < fault.number → MissesClass s file (Entry i) → ⊥
  pub earlier : (s : FolderScope) (j : ℕ) (c : ClassFile) (spot : Spot) → s.files ≡ cs → s.names ≡ names → j < fault.file → slice_get cs j ≡ Some c
      → MissesClass s c spot → ⊥
