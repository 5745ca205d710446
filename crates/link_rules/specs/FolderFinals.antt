-- The classes of a folder, of which some were judged by the final methods that were met above them.
use Rattle.std.specs.Prelude.{◌≡◌, ◌≢◌, ℕ, ◌+◌, ◌<◌, ◌≤◌, List, Option, Some, slice_get}
use Rattle.std.specs.BTreeMap.{BTreeMap}
use Rattle.jk_model.specs.declared.identifiers.ClassId.{ClassId}
use Rattle.jk_model_classes.specs.declared.records.ClassRecord.{ClassRecord}
use Rattle.jk_model_classes.specs.declared.records.MethodRecord.{MethodRecord}
use Rattle.jk_model_classes.specs.Classes.{AreOrdered, IsSubclass, record_of}
use Rattle.link_rules.specs.FinalMethods.{IsFinalFault}
use Rattle.link_rules.specs.MetFinals.{IsKept, IsPackageNumber}
use Rattle.link_rules.specs.declared.folder_finals.Above.{Above}
use Rattle.link_rules.specs.declared.met_finals.FinalKey.{FinalKey}
use Rattle.link_rules.specs.declared.spans.Span.{Span}

-- the numbers of the classes that were judged are right
abbrev pub AreNumbers : List ClassRecord → ClassId → List (Option (Option ℕ)) → Type 0
AreNumbers classes first numbers =
    (class : ClassId) (place : ℕ) (number : Option ℕ) → class.0 ≡ first.0 + place → slice_get numbers place ≡ Some (Some number)
    → IsFinalFault classes class number

-- the final methods of a class were met up to n
abbrev pub AreKept : BTreeMap FinalKey ℕ → ℕ → ClassRecord → Type 0
AreKept met n r =
    (package_number : ℕ) × IsPackageNumber r.name package_number
    × ((i : ℕ) (method : MethodRecord) → slice_get r.methods i ≡ Some method → IsKept met n package_number method)

-- those of the folder's classes from this one upwards
abbrev pub AreMetFrom : List ClassRecord → ClassId → BTreeMap FinalKey ℕ → ℕ → ClassId → Type 0
AreMetFrom classes first met n class =
    (d : ClassId) (r : ClassRecord) → IsSubclass classes class d → first.0 ≤ d.0 → record_of classes d ≡ Some r → AreKept met n r

-- those of the folder's classes properly above this one
abbrev pub AreMetAbove : List ClassRecord → ClassId → BTreeMap FinalKey ℕ → ℕ → ClassId → Type 0
AreMetAbove classes first met n class =
    (d : ClassId) (r : ClassRecord) → IsSubclass classes class d → d ≢ class → first.0 ≤ d.0 → record_of classes d ≡ Some r → AreKept met n r

-- some classes were judged, and the final methods from them upwards were met up to the ends of their spans
pub record AreJudged (classes : List ClassRecord) (first : ClassId) (spans : List Span) (met : BTreeMap FinalKey ℕ)
    (numbers : List (Option (Option ℕ))) : Type 0 where
  pub numbers_are : AreNumbers classes first numbers
  pub met_from : (class : ClassId) (place : ℕ) (number : Option ℕ) (span : Span) → class.0 ≡ first.0 + place
      → slice_get numbers place ≡ Some (Some number) → slice_get spans place ≡ Some span → AreMetFrom classes first met span.until class

-- a class of the folder was judged, and its span ends no earlier than this one
abbrev pub IsWithin : ClassId → List Span → List (Option (Option ℕ)) → ClassId → Span → Type 0
IsWithin first spans numbers p span =
    (place : ℕ) × (number : Option ℕ) × (above : Span) × (p.0 ≡ first.0 + place) × (slice_get numbers place ≡ Some (Some number))
    × (slice_get spans place ≡ Some above) × (span.until ≤ above.until)

-- so is the parent, where it is a class of the folder
abbrev pub IsReadyAt : ClassId → List Span → List (Option (Option ℕ)) → Option ClassId → Span → Type 0
IsReadyAt first spans numbers parent span =
    (span.from < span.until) × ((p : ClassId) → parent ≡ Some p → first.0 ≤ p.0 → IsWithin first spans numbers p span)

-- this is the record of the class, and the final methods of the folder's classes above it were met up to a number or a greater one
pub record IsMetAt (a : Above) (r : ClassRecord) : Type 0 where
  pub ordered : AreOrdered a.t.now
  pub class_is : record_of a.t.now a.class ≡ Some r
  pub package_is : IsPackageNumber r.name a.package_number
  pub met_above : AreMetAbove a.t.now a.first a.met.now a.least a.class
