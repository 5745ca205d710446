-- The class files of a folder, put behind the classes that are loaded; or the first rule that they break among these.
use Rattle.std.specs.Prelude.{◌≡◌, ℕ, ◌<◌, ◌≤◌, ◌⊎◌, List, Option, ◌++◌, length, Some, slice_get}
use Rattle.jk_model.specs.declared.class_file.ClassFile.{ClassFile}
use Rattle.jk_model.specs.declared.identifiers.ClassId.{ClassId}
use Rattle.jk_model.specs.declared.identifiers.MemberId.{MemberId}
use Rattle.jk_model_classes.specs.declared.records.ClassRecord.{ClassRecord}
use Rattle.jk_model_classes.specs.declared.sharing.ResolverLine.{ResolverLine}
use Rattle.jk_model_classes.specs.Classes.{HasClass}
use Rattle.jk_model_classes.specs.OneClassRules.{one_class_rules}
use Rattle.jk_model_classes.specs.References.{IsCalledClass}
use Rattle.jk_model_classes.specs.SharedRules.{IsBeforeInOrder, path_ranks}
use Rattle.jk_model_classes.specs.Worlds.{NamedClass, WorldRecord, class_named}
use Rattle.jk_model_folders.specs.declared.files.FolderFiles.{FolderFiles}
use Rattle.jk_model_folders.specs.FolderRules.{AreClassFiles, BreaksAlone, BreaksNames, BreaksPlaced, IsFirstBroken, IsPlaced, NoneBroken, PlacedFolder, name_rules, placed_rules}
use Rattle.jk_model_folders.specs.Loads.{AreStubs}
use Rattle.jk_model_typing.specs.declared.frames.FrameType.{FrameType}
use Rattle.jk_model_typing.specs.Scopes.{CodeScope, IsScopeOf}
use Rattle.jk_model_typing.specs.Typing.{IsLeastTyping}
use Rattle.class_files.specs.declared.faults.FileFault.{FileFault}
use Rattle.folder_loader.specs.declared.answers.Loaded.{Loaded}

-- the names of the files' classes are in the order of paths
abbrev pub ArePathsInOrder : List ClassFile → Type 0
ArePathsInOrder cs =
    (i j : ℕ) (c d : ClassFile) (a b : List ℕ) → i < j → slice_get cs i ≡ Some c → slice_get cs j ≡ Some d → IsCalledClass c a → IsCalledClass d b
    → IsBeforeInOrder (path_ranks a) (path_ranks b)

-- What is known of class files and of what names mean outside of their folder.
pub record AreLinkable (w : WorldRecord) (cs : List ClassFile) (lines : List ResolverLine) (names : List NamedClass) : Type 0 where
  -- the names of the files' classes differ, and have no other meaning
  pub names_differ : (i j : ℕ) (a b : ClassFile) (name : List ℕ) → slice_get cs i ≡ Some a → slice_get cs j ≡ Some b → IsCalledClass a name
      → IsCalledClass b name → i ≡ j
  pub own_names : (i : ℕ) (c : ClassFile) (name : List ℕ) (class : ClassId) → slice_get cs i ≡ Some c → IsCalledClass c name
      → class_named names name ≡ Some class → ⊥
  -- the names are in the order of paths
  pub in_order : ArePathsInOrder cs
  -- a name means a class that is loaded
  pub named : (name : List ℕ) (class : ClassId) → class_named names name ≡ Some class → HasClass w.classes class

-- some classes stand behind those that were loaded, and all else is as before
abbrev pub HasMoreClasses : WorldRecord → WorldRecord → Type 0
HasMoreClasses old new = (more : List ClassRecord) × (new ≡ record old { classes = old.classes ++ more })

-- The classes stand behind those that were loaded, and break no rule among them.
pub record IsLinkedFolder (w : WorldRecord) (lines : List ResolverLine) (cs : List ClassFile) (names : List NamedClass) (l : Loaded)
    (new : WorldRecord) : Type 0 where
  pub none_of_names : NoneBroken name_rules (BreaksNames w cs names)
  pub placed : PlacedFolder
  pub is_placed : IsPlaced w lines cs names placed
  pub none_placed : NoneBroken placed_rules (BreaksPlaced w cs placed)
  pub first_is : l.first.0 ≡ length w.classes
  pub table_is : l.table ≡ placed.table
  pub offers_are : l.offers ≡ placed.offers
  pub stubs_are : AreStubs placed.classes l.first l.stubs
  pub world : new ≡ record w { classes = placed.classes }

-- Each method with code, of the classes from this one on, has a least typing among all classes.
abbrev pub AreTypedFrom : List ClassRecord → ClassId → Type 0
AreTypedFrom classes first =
    (m : MemberId) (s : CodeScope) → IsScopeOf classes m s → first.0 ≤ m.class.0 → (frames : List (Option FrameType)) × IsLeastTyping classes m frames

-- The first of C20 to C27 that one of them breaks.
abbrev pub IsPlacedFault : WorldRecord → List ResolverLine → List ClassFile → List NamedClass → FileFault → Type 0
IsPlacedFault w lines cs names fault =
    (p : PlacedFolder) × IsPlaced w lines cs names p × IsFirstBroken placed_rules (BreaksPlaced w cs p) fault.rule fault.file fault.number

-- The first of C18 to C27. Those from C20 on are read only where C18 and C19 hold.
abbrev pub IsLinkFault : WorldRecord → List ResolverLine → List ClassFile → List NamedClass → FileFault → Type 0
IsLinkFault w lines cs names fault =
    IsFirstBroken name_rules (BreaksNames w cs names) fault.rule fault.file fault.number
    ⊎ (NoneBroken name_rules (BreaksNames w cs names) × IsPlacedFault w lines cs names fault)

-- The same of the class files of a folder, none of which breaks a rule by itself.
abbrev pub IsLinkedFiles : FolderFiles → WorldRecord → List ResolverLine → List NamedClass → Loaded → WorldRecord → Type 0
IsLinkedFiles f w lines names l new =
    (cs : List ClassFile) × AreClassFiles f cs × NoneBroken one_class_rules (BreaksAlone f cs) × IsLinkedFolder w lines cs names l new
