-- Accepted folders leave classes and names sound.
use Rattle.std.specs.Prelude.{◌≤◌, ℕ, List, [], ◌∷◌, ◌++◌, Contains, Option}
use Rattle.jk_model.specs.declared.identifiers.ClassId.{ClassId}
use Rattle.jk_model.specs.declared.identifiers.MemberId.{MemberId}
use Rattle.jk_model_classes.specs.declared.records.ClassRecord.{ClassRecord}
use Rattle.jk_model_classes.specs.declared.sharing.Offer.{Offer}
use Rattle.jk_model_classes.specs.declared.sharing.Stub.{Stub}
use Rattle.jk_model_classes.specs.Classes.{AreOrdered}
use Rattle.jk_model_classes.specs.SystemRecords.{AreSystemRecords}
use Rattle.jk_model_classes.specs.Worlds.{NamedClass, WorldRecord}
use Rattle.jk_model_typing.specs.declared.frames.FrameType.{FrameType}
use Rattle.jk_model_typing.specs.Scopes.{CodeScope, IsScopeOf}
use Rattle.jk_model_typing.specs.Typing.{IsLeastTyping}
use Rattle.jk_model_folders.specs.declared.files.FolderFiles.{FolderFiles}
use Rattle.jk_model_folders.specs.Loads.{Loads, MayLoad}
use Rattle.heap_laws.specs.SoundCodes.{AreSoundCodes}
use Rattle.heap_laws.specs.SoundTables.{IsSoundTable}
use Rattle.sound_folders.specs.LinkedWorlds.{AreLinked}

-- the classes, and what names mean in each domain
pub record AreSound (classes : List ClassRecord) (tables : List (List NamedClass)) : Type 0 where
  pub codes : AreSoundCodes classes
  pub each : (table : List NamedClass) → Contains tables table → IsSoundTable classes table

-- Files that break no rule give these names, offers, stubs and classes to the domain that is loaded next, and each of the new methods with
-- code has a least typing.
pub record AcceptsFiles (f : FolderFiles) (old : WorldRecord) (name : List ℕ) (first : ClassId) (table : List NamedClass)
    (offers : List Offer) (stubs : List Stub) (new : WorldRecord) : Type 0 where
  pub may : MayLoad old
  pub loads : Loads f old name first table offers stubs new
  pub typed : (member : MemberId) (s : CodeScope) → IsScopeOf new.classes member s → first.0 ≤ member.class.0
      → (frames : List (Option FrameType)) × IsLeastTyping new.classes member frames
  pub ordered : AreOrdered new.classes

abbrev pub SystemClassesAreSound : Type 0
SystemClassesAreSound = (classes : List ClassRecord) → AreSystemRecords classes → AreSound classes [] × AreLinked classes []

abbrev pub AcceptedFoldersStaySound : Type 0
AcceptedFoldersStaySound =
    (old new : WorldRecord) (tables : List (List NamedClass)) (f : FolderFiles) (name : List ℕ) (first : ClassId) (table : List NamedClass)
    (offers : List Offer) (stubs : List Stub) → AreSound old.classes tables → AreLinked old.classes tables
    → AcceptsFiles f old name first table offers stubs new → AreSound new.classes (tables ++ table ∷ []) × AreLinked new.classes (tables ++ table ∷ [])
