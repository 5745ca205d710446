-- The classes of a folder in their order, and what is made of the file of each.
use Rattle.std.specs.Prelude.{◌≡◌, ℕ, ◌+◌, ◌<◌, ◌⊎◌, List, [], ◌++◌, Some, map, flat_map, slice_get, length}
use Rattle.std.specs.List.{AllZip}
use Rattle.jk_model.specs.declared.class_file.ClassFile.{ClassFile}
use Rattle.jk_model.specs.declared.identifiers.ClassId.{ClassId}
use Rattle.jk_model.specs.declared.identifiers.DomainId.{DomainId}
use Rattle.jk_model_classes.specs.declared.records.ClassRecord.{ClassRecord}
use Rattle.jk_model_classes.specs.declared.records.Link.{Link}
use Rattle.jk_model_classes.specs.declared.sharing.ResolverLine.{ResolverLine}
use Rattle.jk_model_classes.specs.LinkRules.{LinkScope}
use Rattle.jk_model_classes.specs.References.{HasParentNamed, IsCalledClass, ListsNamed}
use Rattle.jk_model_classes.specs.Worlds.{NamedClass, WorldRecord, class_named}
use Rattle.jk_model_folders.specs.ClassOrder.{IsClassOrder}
use Rattle.jk_model_folders.specs.FolderRules.{IsPlaced, PlacedFolder}
use Rattle.jk_model_folders.specs.LinkedClasses.{AreLinksFor, AreThrownBy, GoAlong, IsRecordFor}
use Rattle.class_linker.specs.LinkedFiles.{HasNames, IsLinkable}
use Rattle.folder_loader.specs.FolderTables.{IsFolderTable}
use Rattle.folder_loader.specs.declared.arranged.Arrangement.{Arrangement}
use Rattle.folder_loader.specs.declared.placed.Placed.{Placed}

-- what is made of the file at this place
abbrev pub IsOfFileAt : {X : Type 0} → (ClassFile → X → Type 0) → List ClassFile → ℕ → X → Type 0
IsOfFileAt {X} Is files i x = (c : ClassFile) → slice_get files i ≡ Some c → Is c x

-- for each place in the order, what is made of the file there
abbrev pub AreOfFiles : {X : Type 0} → (ClassFile → X → Type 0) → List ClassFile → List ℕ → List X → Type 0
AreOfFiles {X} Is files order xs = AllZip (IsOfFileAt Is files) order xs

-- ---- Where classes stand.

-- the parent of a class that has a name, and its interfaces, have numbers below this one
abbrev pub IsAbove : List NamedClass → ℕ → ClassFile → Type 0
IsAbove table n c =
    (own name : List ℕ) (class : ClassId) → IsCalledClass c own → HasParentNamed c name ⊎ ListsNamed c name → class_named table name ≡ Some class
    → class.0 < n

-- each class stands above its parent and its interfaces
abbrev pub StandInOrder : List ClassFile → List ℕ → ℕ → List NamedClass → Type 0
StandInOrder files order first table = (k i : ℕ) (c : ClassFile) → slice_get order k ≡ Some i → slice_get files i ≡ Some c → IsAbove table (first + k) c

-- The order of the classes, and what names mean by it.
pub record IsArranged (w : WorldRecord) (files : List ClassFile) (names : List NamedClass) (x : Arrangement) : Type 0 where
  pub first_is : x.first.0 ≡ length w.classes
  pub order : IsClassOrder files x.order.items
  pub table : IsFolderTable files x.order.items x.first.0 names x.names
  pub names_differ : (i j : ℕ) (a b : NamedClass) → slice_get x.names i ≡ Some a → slice_get x.names j ≡ Some b → a.name ≡ b.name → i ≡ j
  pub linkable : (i : ℕ) (c : ClassFile) → slice_get files i ≡ Some c → IsLinkable c x.names
  pub stand : StandInOrder files x.order.items x.first.0 x.names

-- ---- What is made of a class file.

-- its record, without links yet
abbrev pub IsRecordYet : List NamedClass → DomainId → ClassFile → ClassRecord → Type 0
IsRecordYet table home c r = (r.links ≡ []) × ((s : LinkScope) → HasNames table s → IsRecordFor s home c r)

-- what the entries of its pool lead to among these classes
abbrev pub AreLinksAmong : List NamedClass → List ClassRecord → ClassFile → List Link → Type 0
AreLinksAmong table classes c links = (s : LinkScope) → HasNames table s → s.classes ≡ classes → AreLinksFor s c links

-- what each of its methods says it throws
abbrev pub AreListsOf : List NamedClass → ClassFile → List (List ClassId) → Type 0
AreListsOf table c lists = (s : LinkScope) → HasNames table s → GoAlong (AreThrownBy s c) c.methods lists

-- the lists of all methods, in the order of classes and members
abbrev pub AreDeclared : List NamedClass → List ClassFile → List ℕ → List (List ClassId) → Type 0
AreDeclared table files order declared =
    (groups : List (List (List ClassId))) × AreOfFiles (AreListsOf table) files order groups × (declared ≡ flat_map (λ (g : List (List ClassId)). g) groups)

-- the world has their records from now on, without links yet
abbrev pub HasRecords : List NamedClass → DomainId → List ClassFile → List ℕ → WorldRecord → WorldRecord → Type 0
HasRecords table home files order old new =
    (added : List ClassRecord) × (new ≡ record old { classes = old.classes ++ added }) × AreOfFiles (IsRecordYet table home) files order added

-- ---- The folder's classes behind the others.

abbrev pub links_in : List ClassRecord → List (List Link)
links_in added = map (λ (r : ClassRecord). r.links) added

-- What is known of the classes of a folder that stand behind the others.
pub record IsPlacing (w : WorldRecord) (lines : List ResolverLine) (files : List ClassFile) (names : List NamedClass) (x : Placed) : Type 0 where
  pub placed : PlacedFolder
  pub is_placed : IsPlaced w lines files names placed
  pub first_is : x.first.0 ≡ length w.classes
  pub home_is : x.home ≡ placed.home
  pub order_is : x.order.items ≡ placed.order
  pub table_is : x.names ≡ placed.table
  pub offers_are : x.offers ≡ placed.offers
  pub declared_are : x.declared ≡ placed.declared

-- They stand there without their links yet, which are at hand.
abbrev pub StandsUnlinked : WorldRecord → List ResolverLine → List ClassFile → List NamedClass → Placed → List (List Link) → WorldRecord → Type 0
StandsUnlinked w lines files names x links new =
    (is : IsPlacing w lines files names x) × (links ≡ links_in is.is_placed.added) × (new ≡ record w { classes = is.placed.unlinked })
