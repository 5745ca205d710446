-- What the rules say of the classes of a folder that stand behind the others.
use Rattle.std.specs.Prelude.{◌≡◌, List, [], ◌∷◌}
use Rattle.jk_model.specs.declared.class_file.ClassFile.{ClassFile}
use Rattle.jk_model.specs.declared.identifiers.ClassId.{ClassId}
use Rattle.jk_model.specs.declared.output.Rule.{Rule}
use Rattle.jk_model.specs.declared.output.Rule.TheVariants.{C20, C21, C22, C23, C24, C25, C26, C27}
use Rattle.jk_model_classes.specs.declared.records.ClassRecord.{ClassRecord}
use Rattle.jk_model_classes.specs.declared.records.Link.{Link}
use Rattle.jk_model_classes.specs.declared.sharing.ResolverLine.{ResolverLine}
use Rattle.jk_model_classes.specs.declared.sharing.Stub.{Stub}
use Rattle.jk_model_classes.specs.Worlds.{NamedClass, WorldRecord}
use Rattle.jk_model_folders.specs.FolderRules.{BreaksPlaced, IsFirstBroken, NoneBroken, PlacedFolder, placed_rules}
use Rattle.jk_model_folders.specs.Loads.{AreStubs}
use Rattle.class_files.specs.declared.faults.FileFault.{FileFault}
use Rattle.folder_loader.specs.ClassesInOrder.{IsPlacing, links_in}
use Rattle.folder_loader.specs.declared.placed.Placed.{Placed}

-- ---- The rules in their order, in three parts.

abbrev pub link_rules : List Rule
link_rules = C20 ∷ C21 ∷ C22 ∷ []

abbrev pub code_rules : List Rule
code_rules = C24 ∷ C23 ∷ []

abbrev pub shared_rules : List Rule
shared_rules = C25 ∷ C26 ∷ C27 ∷ []

abbrev pub earlier_rules : List Rule
earlier_rules = C20 ∷ C21 ∷ C22 ∷ C24 ∷ C23 ∷ []

-- none of these rules is broken
abbrev pub KeepAll : List Rule → WorldRecord → List ClassFile → PlacedFolder → Type 0
KeepAll rules w files p = NoneBroken rules (BreaksPlaced w files p)

-- this is the first fault of C20 to C27
abbrev pub IsFirstOf : WorldRecord → List ClassFile → PlacedFolder → FileFault → Type 0
IsFirstOf w files p fault = IsFirstBroken placed_rules (BreaksPlaced w files p) fault.rule fault.file fault.number

-- ---- Where they are judged.

-- before they have their links, which are at hand
abbrev pub AreUnlinked : List ClassFile → Placed → List (List Link) → List ClassRecord → Type 0
AreUnlinked files x links classes =
    (w : WorldRecord) × (lines : List ResolverLine) × (names : List NamedClass) × (is : IsPlacing w lines files names x)
    × (links ≡ links_in is.is_placed.added) × (classes ≡ is.placed.unlinked)

-- with their links
abbrev pub AreLinked : List ClassFile → Placed → List ClassRecord → Type 0
AreLinked files x classes =
    (w : WorldRecord) × (lines : List ResolverLine) × (names : List NamedClass) × (is : IsPlacing w lines files names x) × (classes ≡ is.placed.classes)

-- what holds of each placed folder whose classes, still without links, are these
abbrev pub WhereUnlinked : List ClassFile → Placed → List ClassRecord → (WorldRecord → PlacedFolder → Type 0) → Type 0
WhereUnlinked files x classes Holds =
    (w : WorldRecord) (lines : List ResolverLine) (names : List NamedClass) (is : IsPlacing w lines files names x) → classes ≡ is.placed.unlinked
    → Holds w is.placed

-- what holds of each placed folder whose classes are these
abbrev pub WhereLinked : List ClassFile → Placed → List ClassRecord → (WorldRecord → PlacedFolder → Type 0) → Type 0
WhereLinked files x classes Holds =
    (w : WorldRecord) (lines : List ResolverLine) (names : List NamedClass) (is : IsPlacing w lines files names x) → classes ≡ is.placed.classes
    → Holds w is.placed

-- what holds of each placed folder of this world
abbrev pub WhereShared : List ClassFile → Placed → WorldRecord → (WorldRecord → PlacedFolder → Type 0) → Type 0
WhereShared files x now Holds =
    (w : WorldRecord) (lines : List ResolverLine) (names : List NamedClass) (is : IsPlacing w lines files names x)
    → now ≡ record w { classes = is.placed.classes } → Holds w is.placed

-- The classes have their links, and break none of these rules.
pub record IsJudged (w : WorldRecord) (files : List ClassFile) (first : ClassId) (p : PlacedFolder) (stubs : List Stub) (new : WorldRecord) : Type 0 where
  pub none_placed : KeepAll placed_rules w files p
  pub stubs_are : AreStubs p.classes first stubs
  pub world : new ≡ record w { classes = p.classes }
