-- What an accepted folder adds to the world, and what is asked of a world in which a folder is loaded.
use Rattle.std.specs.Prelude.{◌≡◌, ℕ, ◌-◌, ◌^◌, ◌<◌, List, length, take, Contains, Some, slice_get}
use Rattle.jk_model.specs.declared.class_file.ClassFile.{ClassFile}
use Rattle.jk_model.specs.declared.identifiers.ClassId.{ClassId}
use Rattle.jk_model.specs.SystemTable.{system_classes}
use Rattle.jk_model_classes.specs.declared.records.ClassRecord.{ClassRecord}
use Rattle.jk_model_classes.specs.declared.sharing.Offer.{Offer}
use Rattle.jk_model_classes.specs.declared.sharing.ResolverLine.{ResolverLine}
use Rattle.jk_model_classes.specs.declared.sharing.Stub.{Stub}
use Rattle.jk_model_classes.specs.OneClassRules.{one_class_rules}
use Rattle.jk_model_classes.specs.SharedRules.{IsOfFolder}
use Rattle.jk_model_classes.specs.Stubs.{IsStub, ImplementsRemote}
use Rattle.jk_model_classes.specs.SystemRecords.{AreSystemRecords}
use Rattle.jk_model_classes.specs.Worlds.{IsWorld, NamedClass, WorldRecord}
use Rattle.jk_model_folders.specs.declared.files.FolderFiles.{FolderFiles}
use Rattle.jk_model_folders.specs.FolderRules.{AreClassFiles, AreOuterNames, BreaksAlone, BreaksNames, BreaksPlaced, HasGoodLines, IsLive, IsPlaced, NoneBroken, PlacedFolder, name_rules, placed_rules}

-- The world in which a folder may be loaded: the domain that is loaded gets the next number, the system classes stand in
-- front, and there is room for the classes of a folder.
pub record MayLoad (w : WorldRecord) : Type 0 where
  pub world : IsWorld w (length w.domains)
  pub system : AreSystemRecords (take (length system_classes) w.classes)
  pub few_classes : length w.classes < 2 ^ 32 - 513

-- The stubs of the classes of a folder, in rising number: one for each that implements jk/Remote.
pub record AreStubs (classes : List ClassRecord) (first : ClassId) (stubs : List Stub) : Type 0 where
  pub each : (stub : Stub) → Contains stubs stub → IsOfFolder classes first stub.class × IsStub classes stub.class stub
  pub all : (c : ClassId) → IsOfFolder classes first c → ImplementsRemote classes c → (stub : Stub) × Contains stubs stub × (stub.class ≡ c)
  pub rising : (i j : ℕ) (a b : Stub) → i < j → slice_get stubs i ≡ Some a → slice_get stubs j ≡ Some b → a.class.0 < b.class.0

-- The files break no rule, and the world has their classes from now on, from `first` on; the domain's names, its offers and
-- the stubs of the classes are these.
pub record Loads (f : FolderFiles) (old : WorldRecord) (name : List ℕ) (first : ClassId) (table : List NamedClass) (offers : List Offer)
    (stubs : List Stub) (new : WorldRecord) : Type 0 where
  pub not_live : IsLive old name → ⊥
  pub lines : List ResolverLine
  pub good_lines : HasGoodLines f old name lines
  pub files : List ClassFile
  pub are_classes : AreClassFiles f files
  pub none_alone : NoneBroken one_class_rules (BreaksAlone f files)
  pub names : List NamedClass
  pub are_outer : AreOuterNames old name lines names
  pub none_of_names : NoneBroken name_rules (BreaksNames old files names)
  pub placed : PlacedFolder
  pub is_placed : IsPlaced old lines files names placed
  pub none_placed : NoneBroken placed_rules (BreaksPlaced old files placed)
  pub first_is : first.0 ≡ length old.classes
  pub table_is : table ≡ placed.table
  pub offers_are : offers ≡ placed.offers
  pub stubs_are : AreStubs placed.classes first stubs
  pub world : new ≡ record old { classes = placed.classes }
