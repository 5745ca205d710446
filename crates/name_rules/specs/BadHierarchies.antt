-- The parts of C19 that are judged of one class file.
use Rattle.std.specs.Prelude.{◌≡◌, ◌≢◌, ℕ, ◌⊎◌, ◌↔◌, List, Option, Some, IsTrue, not, codes}
use Rattle.jk_model.specs.Flags.{has, FINAL, INTERFACE}
use Rattle.jk_model.specs.declared.class_file.ClassFile.{ClassFile}
use Rattle.jk_model.specs.declared.identifiers.ClassId.{ClassId}
use Rattle.jk_model_classes.specs.declared.records.ClassRecord.{ClassRecord}
use Rattle.jk_model_classes.specs.Classes.{record_of}
use Rattle.jk_model_classes.specs.Members.{TextAt}
use Rattle.jk_model_classes.specs.References.{FlagsOfNamed, FolderScope, HasBadInterface, HasBadParent, IsClosedNamed}
use Rattle.jk_model_classes.specs.Worlds.{NamedClass, class_named}
use Rattle.class_files.specs.FolderClasses.{files_of}
use Rattle.name_rules.specs.FolderNames.{AreOwnNames}
use Rattle.name_rules.specs.Graphs.{HasEdge, Rows}
use Rattle.name_rules.specs.declared.scope.Scope.{Scope}

abbrev pub folder_scope : Scope → FolderScope
folder_scope x = record { files = files_of x.folder.now; names = x.outer.now; classes = x.table.now }

abbrev pub HasOwnNames : Scope → Type 0
HasOwnNames x = AreOwnNames (files_of x.folder.now) x.own.now

-- the flags of the loaded class that a name means
abbrev pub LoadedFlags : List ClassRecord → List NamedClass → List ℕ → ℕ → Type 0
LoadedFlags classes names name flags =
    (c : ClassId) × (r : ClassRecord) × (class_named names name ≡ Some c) × (record_of classes c ≡ Some r) × (flags ≡ r.flags)

-- the answer has just what is so
abbrev pub AnswersFlags : (ℕ → Type 0) → Option ℕ → Type 0
AnswersFlags AreFlags answer = (flags : ℕ) → (answer ≡ Some flags) ↔ AreFlags flags

abbrev pub IsUnfit : FolderScope → List ℕ → Type 0
IsUnfit s name = (flags : ℕ) × FlagsOfNamed s name flags × (IsTrue (has flags INTERFACE) ⊎ IsTrue (has flags FINAL))

abbrev pub IsNoInterface : FolderScope → List ℕ → Type 0
IsNoInterface s name = (flags : ℕ) × FlagsOfNamed s name flags × IsTrue (not (has flags INTERFACE))

-- a class may not extend the one of this name
abbrev pub IsBadParent : FolderScope → ClassFile → List ℕ → Type 0
IsBadParent s c name = IsClosedNamed name ⊎ IsUnfit s name ⊎ (IsTrue (has c.flags INTERFACE) × (name ≢ codes "java/lang/Object"))

-- the text at this index is the name of a class that isn't an interface
abbrev pub TextIsBad : FolderScope → ClassFile → ℕ → Type 0
TextIsBad s c n = (name : List ℕ) × TextAt c.pool n name × IsNoInterface s name

-- the file at this place goes to itself, or extends or lists what it may not
abbrev pub IsBadAt : FolderScope → Rows → ℕ → ClassFile → Type 0
IsBadAt s rows i c = HasEdge rows i i ⊎ HasBadParent s c ⊎ HasBadInterface s c
