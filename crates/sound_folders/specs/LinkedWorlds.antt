-- What is kept of all classes, and of what names mean in each domain, from one accepted folder to the next, beside their soundness.
use Rattle.std.specs.Prelude.{◌≡◌, ◌≢◌, ℕ, ◌<◌, ◌≤◌, List, length, Contains, Option, Some, None}
use Rattle.std.specs.List.{AllByRecursion}
use Rattle.jk_model.specs.declared.identifiers.ClassId.{ClassId}
use Rattle.jk_model.specs.declared.identifiers.MemberId.{MemberId}
use Rattle.jk_model.specs.SystemTable.{system_classes}
use Rattle.jk_model_classes.specs.declared.records.BaseRef.{BaseRef}
use Rattle.jk_model_classes.specs.declared.records.BaseRef.TheVariants as Base
use Rattle.jk_model_classes.specs.declared.records.ClassRecord.{ClassRecord}
use Rattle.jk_model_classes.specs.declared.records.Link.TheVariants as To
use Rattle.jk_model_classes.specs.declared.records.MethodRecord.{MethodRecord}
use Rattle.jk_model_classes.specs.declared.records.TypeRef.{TypeRef}
use Rattle.jk_model_classes.specs.declared.sharing.Offer.{Offer}
use Rattle.jk_model_classes.specs.declared.sharing.Stub.{Stub}
use Rattle.jk_model_classes.specs.ClassNames.{BeginsArray}
use Rattle.jk_model_classes.specs.Classes.{field_walk, method_walk, record_of}
use Rattle.jk_model_classes.specs.Lookups.{MethodIs}
use Rattle.jk_model_classes.specs.Members.{CLINIT}
use Rattle.jk_model_classes.specs.Worlds.{IsNamed, NamedClass, WorldRecord}
use Rattle.jk_model_typing.specs.declared.frames.FrameType.{FrameType}
use Rattle.jk_model_typing.specs.Scopes.{CodeScope, IsScopeOf}
use Rattle.jk_model_typing.specs.Typing.{IsLeastTyping}
use Rattle.jk_model_folders.specs.declared.files.FolderFiles.{FolderFiles}
use Rattle.jk_model_folders.specs.Loads.{Loads, MayLoad}
use Rattle.class_growth.specs.ClosedClasses.{IsClosed}
use Rattle.sound_folders.specs.NamesAndTypes.{HasOwnNames, SayTypes, SaysReferences}

abbrev pub RefersToBase : ClassRecord → BaseRef → Type 0
RefersToBase r (Base.Class c) = Contains r.references c
RefersToBase r base = Unit {0}

-- A record lists among its references its parent, its interfaces, each class that an entry of its pool names, and each in the type of
-- a method. A member to which an entry leads stands on the way up from the class that the entry names.
pub record RefersAround (classes : List ClassRecord) (r : ClassRecord) : Type 0 where
  pub parent : (p : ClassId) → r.parent ≡ Some p → Contains r.references p
  pub interfaces : AllByRecursion (Contains r.references) r.interfaces
  pub entries : (t : TypeRef) → Contains r.links (To.Class t) → RefersToBase r t.base
  pub fields : (c : ClassId) (m : MemberId) → Contains r.links (To.Field c m) → Contains r.references c × Contains (field_walk classes c) m.class
  pub methods : (c : ClassId) (m : MemberId) → Contains r.links (To.Method c m)
      → Contains r.references c × Contains (method_walk classes c) m.class
  pub types : (method : MethodRecord) → Contains r.methods method → SaysReferences classes r method

pub record AreLinked (classes : List ClassRecord) (tables : List (List NamedClass)) : Type 0 where
  pub closed : IsClosed classes
  -- of each class that isn't of the system
  pub around : (c : ClassId) (r : ClassRecord) → record_of classes c ≡ Some r → r.home ≢ None → RefersAround classes r
  -- the name of a class isn't one of an array
  pub names : (c : ClassId) (r : ClassRecord) → record_of classes c ≡ Some r → BeginsArray r.name → ⊥
  -- each domain knows the system classes
  pub knows_system : (table : List NamedClass) → Contains tables table → (c : ClassId) → c.0 < length system_classes → IsNamed table c
  -- each class that a domain knows stands under its own name, and its methods' types are said by the domain's names
  pub own_names : (table : List NamedClass) → Contains tables table → HasOwnNames classes table
  pub types : (table : List NamedClass) → Contains tables table → SayTypes classes table

-- in each of these name tables names mean what they mean in one of those
abbrev pub HaveNamesOf : List (List NamedClass) → List (List NamedClass) → Type 0
HaveNamesOf tables old = (table : List NamedClass) → Contains tables table → Contains old table

-- Files that break no rule give these names, offers, stubs and classes to the domain that is loaded next; each of the new methods
-- with code has a least typing, and none is a class initialiser.
pub record Accepts (f : FolderFiles) (old : WorldRecord) (name : List ℕ) (first : ClassId) (table : List NamedClass) (offers : List Offer)
    (stubs : List Stub) (new : WorldRecord) : Type 0 where
  pub may : MayLoad old
  pub loads : Loads f old name first table offers stubs new
  pub typed : (member : MemberId) (s : CodeScope) → IsScopeOf new.classes member s → first.0 ≤ member.class.0
      → (frames : List (Option FrameType)) × IsLeastTyping new.classes member frames
  pub no_initialisers : (member : MemberId) (method : MethodRecord) → MethodIs new.classes member method → first.0 ≤ member.class.0
      → method.name ≢ CLINIT
