-- What is known of the classes of a folder where they are judged among all others.
use Rattle.std.specs.Prelude.{◌≡◌, ℕ, ◌+◌, ◌<◌, ◌≤◌, ◌⊎◌, List, [], ◌∷◌, Option, Some, length, slice_get}
use Rattle.jk_model.specs.declared.class_file.ClassFile.{ClassFile}
use Rattle.jk_model.specs.declared.identifiers.ClassId.{ClassId}
use Rattle.jk_model.specs.declared.identifiers.DomainId.{DomainId}
use Rattle.jk_model.specs.declared.identifiers.MemberId.{MemberId}
use Rattle.jk_model.specs.declared.output.Rule.{Rule}
use Rattle.jk_model.specs.declared.output.Rule.TheVariants.{C20, C21, C22, C23, C24, C25, C26, C27}
use Rattle.jk_model_classes.specs.declared.records.ClassRecord.{ClassRecord}
use Rattle.jk_model_classes.specs.declared.records.Link.{Link}
use Rattle.jk_model_classes.specs.declared.sharing.ClassFault.{ClassFault}
use Rattle.jk_model_classes.specs.declared.sharing.Offer.{Offer}
use Rattle.jk_model_classes.specs.Classes.{record_of}
use Rattle.jk_model_classes.specs.Items.{Spot}
use Rattle.jk_model_classes.specs.LinkRules.{LinkScope, HasFinalOverridden, IsAccessRefused, MissesMember}
use Rattle.jk_model_classes.specs.References.{IsCalledClass}
use Rattle.jk_model_classes.specs.SharedRules.{BreaksC27, HasNoShareFault, IsBeforeInOrder, IsRemoteFault, IsShareFault, NoneBreaks, path_ranks}
use Rattle.jk_model_classes.specs.Worlds.{NamedClass, WorldRecord, class_named}
use Rattle.jk_model_folders.specs.FolderRules.{PlacedFolder}
use Rattle.jk_model_folders.specs.LinkedClasses.{AreLinksFor, IsRecordFor}
use Rattle.jk_model_typing.specs.declared.frames.FrameType.{FrameType}
use Rattle.jk_model_typing.specs.Scopes.{CodeScope, IsScopeOf}
use Rattle.jk_model_typing.specs.Typing.{IsLeastTyping}
use Rattle.placed_rules.specs.declared.links.LinkRule.{LinkRule}
use Rattle.placed_rules.specs.declared.links.LinkRule.TheVariants.{Members, Access, Finals}

-- ---- The rules in their order, in three parts.

-- on what the pool's references find
abbrev pub link_rules : List Rule
link_rules = C20 ∷ C21 ∷ C22 ∷ []

-- on code
abbrev pub code_rules : List Rule
code_rules = C24 ∷ C23 ∷ []

-- on what domains share
abbrev pub shared_rules : List Rule
shared_rules = C25 ∷ C26 ∷ C27 ∷ []

-- those that are read before the last part
abbrev pub earlier_rules : List Rule
earlier_rules = C20 ∷ C21 ∷ C22 ∷ C24 ∷ C23 ∷ []

-- ---- The classes of the folder stand behind all others, in their order.

-- the class at this place of the order
abbrev pub class_at : ClassId → ℕ → ClassId
class_at first k = record { 0 = first.0 + k }

-- Each class of the folder has the record of its file, in some scope.
pub record AreRecorded (classes : List ClassRecord) (first : ClassId) (order : List ℕ) (files : List ClassFile) : Type 0 where
  pub as_many : length classes ≡ first.0 + length order
  pub each : (k i : ℕ) (c : ClassFile) → slice_get order k ≡ Some i → slice_get files i ≡ Some c
      → (s : LinkScope) × (home : DomainId) × (r : ClassRecord) × (record_of classes (class_at first k) ≡ Some r) × IsRecordFor s home c r

-- what names mean in the domain, and all classes, where this one is judged
abbrev pub scope_at : List ClassRecord → List NamedClass → ClassId → LinkScope
scope_at classes table self = record { meaning = class_named table; classes = classes; self = self }

-- The class has the record of its file, and these are what the entries of its pool lead to.
abbrev pub IsLinkedAt : LinkScope → ClassFile → List Link → Type 0
IsLinkedAt s c links =
    (home : DomainId) × (r : ClassRecord) × (record_of s.classes s.self ≡ Some r) × IsRecordFor s home c r × AreLinksFor s c links

-- Each class of the folder has its record, and at its place in the order there are the links of its pool.
pub record AreLinkedIn (classes : List ClassRecord) (table : List NamedClass) (first : ClassId) (order : List ℕ) (files : List ClassFile)
    (links : List (List Link)) : Type 0 where
  pub as_many : length links ≡ length order
  pub each : (k i : ℕ) (c : ClassFile) (own : List Link) → slice_get order k ≡ Some i → slice_get files i ≡ Some c → slice_get links k ≡ Some own
      → IsLinkedAt (scope_at classes table (class_at first k)) c own

-- The names of the files' classes are in the order of paths.
abbrev pub AreInPathOrder : List ClassFile → Type 0
AreInPathOrder files =
    (i j : ℕ) (c d : ClassFile) (a b : List ℕ) → i < j → slice_get files i ≡ Some c → slice_get files j ≡ Some d → IsCalledClass c a
    → IsCalledClass d b → IsBeforeInOrder (path_ranks a) (path_ranks b)

-- ---- The parts of a placed folder that each rule is read of.

-- before its classes have their links
abbrev pub IsUnlinkedAs : WorldRecord → PlacedFolder → List ClassRecord → List NamedClass → List ℕ → ClassId → Type 0
IsUnlinkedAs w p classes table order first =
    (p.unlinked ≡ classes) × (p.table ≡ table) × (p.order ≡ order) × (length w.classes ≡ first.0)

-- with their links
abbrev pub IsLinkedAs : WorldRecord → PlacedFolder → List ClassRecord → List ℕ → ClassId → Type 0
IsLinkedAs w p classes order first = (p.classes ≡ classes) × (p.order ≡ order) × (length w.classes ≡ first.0)

-- with what the domain offers, and what its methods say they throw
pub record IsSharedAs (w : WorldRecord) (p : PlacedFolder) (now : WorldRecord) (home : DomainId) (offers : List Offer)
    (declared : List (List ClassId)) : Type 0 where
  pub world : now ≡ record w { classes = p.classes }
  pub home_is : p.home ≡ home
  pub offers_are : p.offers ≡ offers
  pub declared_are : p.declared ≡ declared

-- ---- C20 to C22.

abbrev pub HasLinkFault : LinkRule → LinkScope → ClassFile → Spot → Type 0
HasLinkFault Members s c spot = MissesMember s c spot
HasLinkFault Access s c spot = IsAccessRefused s c spot
HasLinkFault Finals s c spot = HasFinalOverridden s spot

-- ---- C23.

-- each method with code, of the classes from this one on, has a least typing
abbrev pub AreTypedFrom : List ClassRecord → ClassId → Type 0
AreTypedFrom classes first =
    (m : MemberId) (s : CodeScope) → IsScopeOf classes m s → first.0 ≤ m.class.0 → (frames : List (Option FrameType)) × IsLeastTyping classes m frames

-- ---- C25 to C27, by classes.

-- The first of the three that is broken. C27 is read only where C25 and C26 hold of all classes.
abbrev pub IsSharedFault : WorldRecord → DomainId → ClassId → List Offer → List (List ClassId) → ClassId → ClassFault → Type 0
IsSharedFault now home first offers declared c fault =
    IsShareFault now home first offers c fault ⊎ (HasNoShareFault now home first offers × IsRemoteFault now.classes first declared c fault)

abbrev pub HasNoSharedFault : WorldRecord → DomainId → ClassId → List Offer → List (List ClassId) → Type 0
HasNoSharedFault now home first offers declared = HasNoShareFault now home first offers × NoneBreaks (BreaksC27 now.classes first declared)
