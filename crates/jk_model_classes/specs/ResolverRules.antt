-- The rules on the lines of a `resolver.txt`: L6, lines outside the grammar and shares of classes that the folder has no
-- file of, and L7, imports of what isn't offered. The number is that of the line.
use Rattle.std.specs.Prelude.{◌≡◌, ◌≢◌, ℕ, ◌+◌, ⊤, ◌<◌, ◌⊎◌, List, ◌++◌, Contains, Option, Some, None, slice_get, codes}
use Rattle.jk_model.specs.declared.identifiers.ClassId.{ClassId}
use Rattle.jk_model.specs.declared.identifiers.DomainId.{DomainId}
use Rattle.jk_model.specs.Script.{script_lines}
use Rattle.jk_model.specs.Text.{utf16_of}
use Rattle.jk_model_classes.specs.declared.records.ClassRecord.{ClassRecord}
use Rattle.jk_model_classes.specs.declared.sharing.ResolverLine.{ResolverLine}
use Rattle.jk_model_classes.specs.declared.sharing.ResolverWord.TheVariants.{Share, Import}
use Rattle.jk_model_classes.specs.Classes.{record_of}
use Rattle.jk_model_classes.specs.Items.{HasItem}
use Rattle.jk_model_classes.specs.Resolver.{Reading, Says, Outside, line_reading}
use Rattle.jk_model_classes.specs.Worlds.{WorldRecord, DomainRecord, domain_of, class_named, IsLiveNamed, IsOfferedTo}

-- The folder has a class file under the path of this name. Paths are below the folder, in UTF-8, and a name is in UTF-16.
-- The bytes of a class's name in a line are in ASCII, and so they are its units.
abbrev pub HasFileOf : List (List ℕ) → List ℕ → Type 0
HasFileOf paths name = HasItem (λ path. utf16_of path ≡ name ++ codes ".class") paths

-- ---- L6: a line is outside the grammar, or shares a class that the folder has no file of.

abbrev pub IsBadReading : List (List ℕ) → Reading → Type 0
IsBadReading paths Outside = ⊤
IsBadReading paths (Says (Share class to)) = HasFileOf paths class → ⊥
IsBadReading paths _ = ⊥

-- the line with this number, counted from 1
abbrev pub BreaksL6 : List (List ℕ) → List ℕ → ℕ → Type 0
BreaksL6 paths bytes n =
    (i : ℕ) × (line : List ℕ) × (slice_get (script_lines bytes) i ≡ Some line) × (n ≡ i + 1) × IsBadReading paths (line_reading line)

-- ---- What an import brings in.

-- a class, and every class that is reached from it by references
pub data IsReached (classes : List ClassRecord) : ClassId → ClassId → Type 0 where
  itself : (c : ClassId) → IsReached classes c c
  further : (c d e : ClassId) (r : ClassRecord) → record_of classes c ≡ Some r → Contains r.references d → IsReached classes d e
      → IsReached classes c e

-- The class that a line imports into the domain of this name: the live domain has it under that name, and offers it.
abbrev pub ImportsClass : WorldRecord → List ℕ → ResolverLine → ClassId → Type 0
ImportsClass w into line c =
    (from : List ℕ) × (class : List ℕ) × (line.says ≡ Import from class)
    × ((d : DomainId) × (r : DomainRecord) × IsLiveNamed w from d × (domain_of w d ≡ Some r)
    × (class_named r.table class ≡ Some c) × IsOfferedTo r.offers c into)

-- the line brings in this class, under its own name
abbrev pub BringsIn : WorldRecord → List ℕ → ResolverLine → List ℕ → ClassId → Type 0
BringsIn w into line name c =
    (imported : ClassId) × ImportsClass w into line imported × IsReached w.classes imported c
    × ((r : ClassRecord) × (record_of w.classes c ≡ Some r) × (r.name ≡ name))

-- a line before this place brings in a class under this name
abbrev pub IsBroughtBefore : WorldRecord → List ℕ → List ResolverLine → ℕ → List ℕ → ClassId → Type 0
IsBroughtBefore w into lines place name c =
    (i : ℕ) × (line : ResolverLine) × (i < place) × (slice_get lines i ≡ Some line) × BringsIn w into line name c

-- the name is also that of a class file of the folder, or of another class that an earlier line brings in
abbrev pub IsTaken : List (List ℕ) → WorldRecord → List ℕ → List ResolverLine → ℕ → List ℕ → ClassId → Type 0
IsTaken paths w into lines place name c =
    HasFileOf paths name ⊎ ((other : ClassId) × IsBroughtBefore w into lines place name other × (other ≢ c))

-- ---- L7.

-- The line at this place imports from a domain that isn't live, or a class that isn't offered to the domain, or brings in a
-- name that is taken.
abbrev pub IsNotOffered : List (List ℕ) → WorldRecord → List ℕ → List ResolverLine → ℕ → Type 0
IsNotOffered paths w into lines place =
    (line : ResolverLine) × (slice_get lines place ≡ Some line)
    × ((from : List ℕ) × (class : List ℕ) × (line.says ≡ Import from class)
    × (((c : ClassId) → ImportsClass w into line c → ⊥)
    ⊎ ((name : List ℕ) × (c : ClassId) × BringsIn w into line name c × IsTaken paths w into lines place name c)))
