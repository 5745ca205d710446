-- The first rule that a folder breaks. The rules are asked in their order, each of all files, and only where those before
-- it hold for all files. Of the files that break a rule the first counts, in the order of paths, and in it the least
-- number, members before entries of the pool.
use Rattle.std.specs.Prelude.{◌≡◌, ◌≢◌, ℕ, ◌+◌, ◌<◌, ◌⊎◌, ◌↔◌, List, [], ◌∷◌, ◌++◌, length, map, Contains, Option, Some, None, Ok, slice_get}
use Rattle.jk_model.specs.declared.class_file.ClassFile.{ClassFile}
use Rattle.jk_model.specs.declared.class_file.MemberInfo.{MemberInfo}
use Rattle.jk_model.specs.declared.identifiers.ClassId.{ClassId}
use Rattle.jk_model.specs.declared.identifiers.DomainId.{DomainId}
use Rattle.jk_model.specs.declared.output.Place.{Place}
use Rattle.jk_model.specs.declared.output.Place.TheVariants.{Whole, At}
use Rattle.jk_model.specs.declared.output.Rule.{Rule}
use Rattle.jk_model.specs.declared.output.Rule.TheVariants.{L1, L2, L5, L6, L7, C1, C2, C3, C4, C5, C18, C19, C20, C21, C22, C23, C24, C25, C26, C27}
use Rattle.jk_model.specs.ClassFile.{IsClass}
use Rattle.jk_model.specs.Outside.{Tree, ◌/-◌}
use Rattle.jk_model.specs.ReadFaults.{BreaksReading}
use Rattle.jk_model_classes.specs.declared.records.ClassRecord.{ClassRecord}
use Rattle.jk_model_classes.specs.declared.sharing.Offer.{Offer}
use Rattle.jk_model_classes.specs.declared.sharing.ResolverLine.{ResolverLine}
use Rattle.jk_model_classes.specs.declared.sharing.ResolverWord.TheVariants.{Share}
use Rattle.jk_model_classes.specs.Items.{HasItemBefore, Spot, Member, Entry, IsBefore, spot_number}
use Rattle.jk_model_classes.specs.LinkRules.{LinkScope, MissesMember, IsAccessRefused, HasFinalOverridden}
use Rattle.jk_model_classes.specs.OneClassRules.{one_class_rules, Breaks}
use Rattle.jk_model_classes.specs.References.{FolderScope, IsCalledClass, MissesClass, HasBadHierarchy}
use Rattle.jk_model_classes.specs.Resolver.{resolver_of}
use Rattle.jk_model_classes.specs.ResolverRules.{BreaksL6, BringsIn, IsNotOffered}
use Rattle.jk_model_classes.specs.SharedRules.{BreaksC25, BreaksC26, BreaksC27, DeclaredAt, folder_methods}
use Rattle.jk_model_classes.specs.SystemRecords.{system_meaning}
use Rattle.jk_model_classes.specs.Worlds.{NamedClass, WorldRecord, IsLiveNamed, class_named}
use Rattle.jk_model_typing.specs.Typing.{BreaksC23, BreaksC24}
use Rattle.jk_model_folders.specs.declared.files.FolderFile.{FolderFile}
use Rattle.jk_model_folders.specs.declared.files.FolderFiles.{FolderFiles}
use Rattle.jk_model_folders.specs.ClassOrder.{IsClassOrder}
use Rattle.jk_model_folders.specs.FolderTrees.{AreFiles, AreFilesOf, IsTooLarge, RESOLVER}
use Rattle.jk_model_folders.specs.LinkedClasses.{AreLinksFor, AreThrownBy, GoAlong, IsRecordFor, without_links}

-- ---- The first of some rules that is broken, by what each file breaks and where.

abbrev pub BreaksAt : Type 1
BreaksAt = Rule → ℕ → Spot → Type 0

pub record IsFirstBroken (rules : List Rule) (Broken : BreaksAt) (rule : Rule) (file number : ℕ) : Type 0 where
  pub place : ℕ
  pub listed : slice_get rules place ≡ Some rule
  pub earlier_rules : (other : Rule) → HasItemBefore place (λ r. r ≡ other) rules → (i : ℕ) (spot : Spot) → Broken other i spot → ⊥
  pub earlier_files : (i : ℕ) (spot : Spot) → i < file → Broken rule i spot → ⊥
  pub spot : Spot
  pub broken : Broken rule file spot
  pub least : (other : Spot) → IsBefore other spot → Broken rule file other → ⊥
  pub is_number : number ≡ spot_number spot

abbrev pub NoneBroken : List Rule → BreaksAt → Type 0
NoneBroken rules Broken = (rule : Rule) (i : ℕ) (spot : Spot) → Contains rules rule → Broken rule i spot → ⊥

-- ---- C1 to C5: the bytes of each file.

abbrev pub reading_rules : List Rule
reading_rules = C1 ∷ C2 ∷ C3 ∷ C4 ∷ C5 ∷ []

abbrev pub ReadsBadly : FolderFiles → BreaksAt
ReadsBadly f rule i spot =
    (file : FolderFile) × (n : ℕ) × (slice_get f.classes i ≡ Some file) × (spot ≡ Entry n) × BreaksReading file.bytes rule n

-- each file is a class file
abbrev pub AreClassFiles : FolderFiles → List ClassFile → Type 0
AreClassFiles f cs = GoAlong (λ (file : FolderFile) c. IsClass file.bytes c) f.classes cs

-- ---- C6 to C17: each class file by itself.

abbrev pub BreaksAlone : FolderFiles → List ClassFile → BreaksAt
BreaksAlone f cs rule i spot =
    (file : FolderFile) × (c : ClassFile) × (slice_get f.classes i ≡ Some file) × (slice_get cs i ≡ Some c)
    × Breaks rule c file.path spot

-- ---- What names mean outside of the folder: system classes, and those that the lines of `resolver.txt` bring in.

abbrev pub AreOuterNames : WorldRecord → List ℕ → List ResolverLine → List NamedClass → Type 0
AreOuterNames w into lines names =
    (name : List ℕ) (c : ClassId) → (class_named names name ≡ Some c)
    ↔ ((system_meaning name ≡ Some c) ⊎ ((line : ResolverLine) × Contains lines line × BringsIn w into line name c))

-- ---- C18 and C19: the names of classes.

abbrev pub name_rules : List Rule
name_rules = C18 ∷ C19 ∷ []

abbrev HasNameFault : Rule → FolderScope → ClassFile → Spot → Type 0
HasNameFault C18 s c spot = MissesClass s c spot
HasNameFault C19 s c spot = HasBadHierarchy s c spot
HasNameFault _ s c spot = ⊥

abbrev pub BreaksNames : WorldRecord → List ClassFile → List NamedClass → BreaksAt
BreaksNames w cs names rule i spot =
    (c : ClassFile) × (slice_get cs i ≡ Some c) × HasNameFault rule (record { files = cs; names = names; classes = w.classes }) c spot

-- ---- The classes of the folder, put behind those that are loaded.

pub record PlacedFolder : Type 0 where
  -- the number of the domain that is loaded
  pub home : DomainId
  -- the places of the files in the order of their classes
  pub order : List ℕ
  -- all classes, those of the folder at the end, without and with their links. Members are looked up where these don't
  -- stand yet; no lookup reads them.
  pub unlinked : List ClassRecord
  pub classes : List ClassRecord
  -- what names mean in the domain
  pub table : List NamedClass
  pub offers : List Offer
  -- what each method of the folder says it throws, in the order of classes and members
  pub declared : List (List ClassId)

-- the class of the file at this place has this number, the first of the folder having the number `first`
abbrev pub IsClassOfFile : ℕ → PlacedFolder → ℕ → ClassId → Type 0
IsClassOfFile first p i class = (k : ℕ) × (slice_get p.order k ≡ Some i) × (class.0 ≡ first + k)

abbrev pub link_scope : PlacedFolder → ClassId → LinkScope
link_scope p self = record { meaning = class_named p.table; classes = p.unlinked; self = self }

-- a file of the folder is of the class of this name
abbrev pub IsOwnNamed : ℕ → List ClassFile → PlacedFolder → List ℕ → ClassId → Type 0
IsOwnNamed first cs p name class =
    (i : ℕ) × (c : ClassFile) × (slice_get cs i ≡ Some c) × IsCalledClass c name × IsClassOfFile first p i class

-- the line shares this class
abbrev pub IsOffer : PlacedFolder → ResolverLine → Offer → Type 0
IsOffer p line o =
    (name : List ℕ) × (to : Option (List ℕ)) × (line.says ≡ Share name to) × (class_named p.table name ≡ Some o.class) × (o.to ≡ to)

pub record IsPlaced (w : WorldRecord) (lines : List ResolverLine) (cs : List ClassFile) (names : List NamedClass) (p : PlacedFolder) : Type 0 where
  pub home : p.home.0 ≡ length w.domains
  pub order : IsClassOrder cs p.order
  pub added : List ClassRecord
  pub unlinked : p.unlinked ≡ w.classes ++ map without_links added
  pub classes : p.classes ≡ w.classes ++ added
  pub as_many : length added ≡ length cs
  pub records : (k i : ℕ) (c : ClassFile) (r : ClassRecord) → slice_get p.order k ≡ Some i → slice_get cs i ≡ Some c
      → slice_get added k ≡ Some r → IsRecordFor (link_scope p (record { 0 = length w.classes + k })) p.home c r
      × AreLinksFor (link_scope p (record { 0 = length w.classes + k })) c r.links
  pub table : (name : List ℕ) (c : ClassId) → (class_named p.table name ≡ Some c)
      ↔ ((class_named names name ≡ Some c) ⊎ IsOwnNamed (length w.classes) cs p name c)
  pub names_differ : (i j : ℕ) (a b : NamedClass) → slice_get p.table i ≡ Some a → slice_get p.table j ≡ Some b → a.name ≡ b.name → i ≡ j
  pub offers : (o : Offer) → Contains p.offers o ↔ ((line : ResolverLine) × Contains lines line × IsOffer p line o)
  pub declared_count : length p.declared ≡ folder_methods p.classes (record { 0 = length w.classes })
  pub declared : (i j : ℕ) (c : ClassFile) (self : ClassId) (info : MemberInfo) (thrown : List ClassId) → slice_get cs i ≡ Some c
      → IsClassOfFile (length w.classes) p i self → slice_get c.methods j ≡ Some info
      → DeclaredAt p.classes (record { 0 = length w.classes }) p.declared self j thrown → AreThrownBy (link_scope p self) c info thrown

-- ---- C20 to C27: the classes of the folder among all others.

abbrev pub placed_rules : List Rule
placed_rules = C20 ∷ C21 ∷ C22 ∷ C24 ∷ C23 ∷ C25 ∷ C26 ∷ C27 ∷ []

abbrev AtMember : (ℕ → Type 0) → Spot → Type 0
AtMember Broken (Member n) = Broken n
AtMember Broken (Entry i) = ⊥

abbrev HasPlacedFault : Rule → WorldRecord → PlacedFolder → ClassId → ClassFile → Spot → Type 0
HasPlacedFault C20 w p self c spot = MissesMember (link_scope p self) c spot
HasPlacedFault C21 w p self c spot = IsAccessRefused (link_scope p self) c spot
HasPlacedFault C22 w p self c spot = HasFinalOverridden (link_scope p self) spot
HasPlacedFault C23 w p self c spot = AtMember (BreaksC23 p.classes self) spot
HasPlacedFault C24 w p self c spot = AtMember (BreaksC24 p.classes self) spot
HasPlacedFault C25 w p self c spot = AtMember (BreaksC25 p.classes (record { 0 = length w.classes }) p.offers self) spot
HasPlacedFault C26 w p self c spot =
    AtMember (BreaksC26 (record w { classes = p.classes }) p.home (record { 0 = length w.classes }) p.offers self) spot
HasPlacedFault C27 w p self c spot = AtMember (BreaksC27 p.classes (record { 0 = length w.classes }) p.declared self) spot
HasPlacedFault _ w p self c spot = ⊥

abbrev pub BreaksPlaced : WorldRecord → List ClassFile → PlacedFolder → BreaksAt
BreaksPlaced w cs p rule i spot =
    (c : ClassFile) × (self : ClassId) × (slice_get cs i ≡ Some c) × IsClassOfFile (length w.classes) p i self
    × HasPlacedFault rule w p self c spot

-- ---- `resolver.txt`.

abbrev pub class_paths : FolderFiles → List (List ℕ)
class_paths f = map (λ (c : FolderFile). c.path) f.classes

-- A line gives a name two meanings, or another meaning than the system gives it. No line does where each domain was made
-- by an accepted folder.
abbrev pub GivesTwoMeanings : WorldRecord → List ℕ → ResolverLine → Type 0
GivesTwoMeanings w into line =
    (name : List ℕ) × (c : ClassId) × (other : ClassId) × BringsIn w into line name c × (other ≢ c)
    × (BringsIn w into line name other ⊎ (system_meaning name ≡ Some other))

-- L7, by the line's place among those that say something
abbrev pub BreaksL7 : FolderFiles → WorldRecord → List ℕ → List ResolverLine → ℕ → Type 0
BreaksL7 f w into lines place =
    IsNotOffered (class_paths f) w into lines place
    ⊎ ((line : ResolverLine) × (slice_get lines place ≡ Some line) × GivesTwoMeanings w into line)

-- No line is outside the grammar, and none shares a class without a file, or brings in what it may not.
pub record HasGoodLines (f : FolderFiles) (w : WorldRecord) (into : List ℕ) (lines : List ResolverLine) : Type 0 where
  pub says : resolver_of f.resolver ≡ Ok lines
  pub shares : (n : ℕ) → BreaksL6 (class_paths f) f.resolver n → ⊥
  pub imports : (place : ℕ) → BreaksL7 f w into lines place → ⊥

-- ---- The first rule that is broken.

abbrev pub IsLive : WorldRecord → List ℕ → Type 0
IsLive w name = (d : DomainId) × IsLiveNamed w name d

-- Of the files, by what the domain of this name is to be: a rule, with the file's place and the number.
pub data IsClassFault (f : FolderFiles) (w : WorldRecord) (into : List ℕ) (rule : Rule) (file number : ℕ) : Type 0 where
  reading : IsFirstBroken reading_rules (ReadsBadly f) rule file number → IsClassFault f w into rule file number
  alone : (cs : List ClassFile) → AreClassFiles f cs → IsFirstBroken one_class_rules (BreaksAlone f cs) rule file number
      → IsClassFault f w into rule file number
  named : (lines : List ResolverLine) (cs : List ClassFile) (names : List NamedClass) → HasGoodLines f w into lines → AreClassFiles f cs
      → NoneBroken one_class_rules (BreaksAlone f cs) → AreOuterNames w into lines names
      → IsFirstBroken name_rules (BreaksNames w cs names) rule file number → IsClassFault f w into rule file number
  placed : (lines : List ResolverLine) (cs : List ClassFile) (names : List NamedClass) (p : PlacedFolder) → HasGoodLines f w into lines
      → AreClassFiles f cs → NoneBroken one_class_rules (BreaksAlone f cs) → AreOuterNames w into lines names
      → NoneBroken name_rules (BreaksNames w cs names) → IsPlaced w lines cs names p
      → IsFirstBroken placed_rules (BreaksPlaced w cs p) rule file number → IsClassFault f w into rule file number

-- Of a folder's files: of `resolver.txt` first, and then of the class files.
pub data IsFilesFault (f : FolderFiles) (w : WorldRecord) (into : List ℕ) : Rule → Place → Type 0 where
  bad_line : (n : ℕ) → BreaksL6 (class_paths f) f.resolver n → ((m : ℕ) → m < n → BreaksL6 (class_paths f) f.resolver m → ⊥)
      → IsFilesFault f w into L6 (At RESOLVER n)
  not_offered : (lines : List ResolverLine) (place : ℕ) (line : ResolverLine) → resolver_of f.resolver ≡ Ok lines
      → ((n : ℕ) → BreaksL6 (class_paths f) f.resolver n → ⊥) → slice_get lines place ≡ Some line → BreaksL7 f w into lines place
      → ((lower : ℕ) → lower < place → BreaksL7 f w into lines lower → ⊥) → IsFilesFault f w into L7 (At RESOLVER line.line)
  class_file : (lines : List ResolverLine) (rule : Rule) (i number : ℕ) (file : FolderFile) → HasGoodLines f w into lines
      → slice_get f.classes i ≡ Some file → IsClassFault f w into rule i number → IsFilesFault f w into rule (At file.path number)

-- Of the folder of this name below a root, in a told tree.
pub data IsFolderFault (t : Tree) (root : List ℕ) (w : WorldRecord) (name : List ℕ) : Rule → Place → Type 0 where
  name_is_live : IsLive w name → IsFolderFault t root w name L1 Whole
  no_folder : (IsLive w name → ⊥) → t.folder (root /- name) ≡ None → IsFolderFault t root w name L2 Whole
  too_large : (IsLive w name → ⊥) → t.folder (root /- name) ≢ None → IsTooLarge t (root /- name) → IsFolderFault t root w name L5 Whole
  files : (f : FolderFiles) (rule : Rule) (place : Place) → (IsLive w name → ⊥) → AreFiles f → AreFilesOf t (root /- name) f
      → IsFilesFault f w name rule place → IsFolderFault t root w name rule place
