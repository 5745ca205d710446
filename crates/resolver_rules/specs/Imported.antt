-- What the lines before a place bring in, and whether the names that a further line brings in mean something else.
use Rattle.std.specs.Prelude.{◌≡◌, ◌≢◌, ℕ, ◌<◌, ◌≤◌, ◌⊎◌, List, length, Contains, Some, slice_get}
use Rattle.jk_model.specs.declared.identifiers.ClassId.{ClassId}
use Rattle.jk_model.specs.declared.identifiers.DomainId.{DomainId}
use Rattle.jk_model_classes.specs.declared.records.ClassRecord.{ClassRecord}
use Rattle.jk_model_classes.specs.declared.sharing.ResolverLine.{ResolverLine}
use Rattle.jk_model_classes.specs.Classes.{record_of}
use Rattle.jk_model_classes.specs.ResolverRules.{HasFileOf, IsBroughtBefore}
use Rattle.jk_model_classes.specs.SystemRecords.{system_meaning}
use Rattle.jk_model_classes.specs.Worlds.{DomainRecord, NamedClass, WorldRecord, class_named, domain_of, IsLiveNamed, IsOfferedTo}
use Rattle.jk_model_folders.specs.declared.files.FolderFiles.{FolderFiles}
use Rattle.jk_model_folders.specs.FolderRules.{BreaksL7, class_paths}
use Rattle.domain_resolver.specs.Imports.{Imported, IsClash, IsImport}

-- the live domain `from` has the class under this name, and offers it to the domain `into`
abbrev pub IsOffered : WorldRecord → List ℕ → List ℕ → List ℕ → ClassId → Type 0
IsOffered w into from class c =
    (d : DomainId) × (r : DomainRecord) × IsLiveNamed w from d × (domain_of w d ≡ Some r) × (class_named r.table class ≡ Some c)
    × IsOfferedTo r.offers c into

-- the name of the class is also that of a class file of the folder, or of another system class
abbrev pub HasOtherMeaning : List (List ℕ) → List ℕ → ClassId → Type 0
HasOtherMeaning paths name c = HasFileOf paths name ⊎ ((other : ClassId) × (system_meaning name ≡ Some other) × (other ≢ c))

-- so is the class's own name
abbrev pub IsTakenClass : List (List ℕ) → List ClassRecord → ClassId → Type 0
IsTakenClass paths classes c = (r : ClassRecord) × (record_of classes c ≡ Some r) × HasOtherMeaning paths r.name c

-- no name from a place on is so taken
abbrev pub AreFreeFrom : List (List ℕ) → List NamedClass → ℕ → Type 0
AreFreeFrom paths names first =
    (k : ℕ) (e : NamedClass) → first ≤ k → slice_get names k ≡ Some e → HasOtherMeaning paths e.name e.class → ⊥

-- a name from a place on is so taken
abbrev pub HasTakenFrom : List (List ℕ) → List NamedClass → ℕ → Type 0
HasTakenFrom paths names first =
    (k : ℕ) × (e : NamedClass) × (first ≤ k) × (slice_get names k ≡ Some e) × HasOtherMeaning paths e.name e.class

abbrev pub NamesDiffer : List NamedClass → Type 0
NamesDiffer names = (i j : ℕ) (a b : NamedClass) → slice_get names i ≡ Some a → slice_get names j ≡ Some b → a.name ≡ b.name → i ≡ j

-- a class was brought in with all that it reaches, and the names that it brought are free
pub record IsFreeImport (paths : List (List ℕ)) (classes : List ClassRecord) (old : List NamedClass) (from : ClassId) (new : List NamedClass) : Type 0 where
  pub import : IsImport classes old from new
  pub free : AreFreeFrom paths new (length old)
  pub differ : NamesDiffer new

-- a name that it brought, or was to bring, means something else
pub record IsTakenImport (paths : List (List ℕ)) (classes : List ClassRecord) (old : List NamedClass) (from : ClassId) (new : List NamedClass) : Type 0 where
  pub imported : Imported classes old from new
  pub taken : IsClash classes old from new ⊎ HasTakenFrom paths new (length old)

-- The lines before a place keep L7, and these are the names that they bring in.
pub record AreBrought (f : FolderFiles) (w : WorldRecord) (into : List ℕ) (lines : List ResolverLine) (place : ℕ) (names : List NamedClass) : Type 0 where
  pub good : (lower : ℕ) → lower < place → BreaksL7 f w into lines lower → ⊥
  pub from : (e : NamedClass) → Contains names e → IsBroughtBefore w into lines place e.name e.class
  pub all : (name : List ℕ) (c : ClassId) → IsBroughtBefore w into lines place name c → Contains names (record { name = name; class = c })
  pub free : (e : NamedClass) → Contains names e → HasOtherMeaning (class_paths f) e.name e.class → ⊥
