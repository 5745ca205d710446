-- Final methods that were met, by name, type and package, each with the number up to which it was.
use Rattle.std.specs.Prelude.{◌≡◌, ℕ, ◌≤◌, ◌⊎◌, IsTrue, List, Some}
use Rattle.std.specs.BTreeMap.{BTreeMap, get}
use Rattle.jk_model.specs.Descriptors.{method_text}
use Rattle.jk_model.specs.Flags.{has, FINAL, PROTECTED, PUBLIC}
use Rattle.jk_model_classes.specs.declared.records.MethodRecord.{MethodRecord}
use Rattle.jk_model_classes.specs.Lookups.{IsPackageOf, IsUnmarked}
use Rattle.shared_values.specs.Fingerprints.{fingerprint_of}
use Rattle.link_rules.specs.declared.met_finals.FinalKey.{FinalKey}
use Rattle.link_rules.specs.contracts.met_finals.FinalKeyOrd.TheImpl as block

abbrev pub key_in : ℕ → MethodRecord → FinalKey
key_in package_number method = record { name = fingerprint_of method.name; kind = fingerprint_of (method_text method.kind); package_number = package_number }

-- the number of a name's package
abbrev pub IsPackageNumber : List ℕ → ℕ → Type 0
IsPackageNumber name n = (prefix : List ℕ) → IsPackageOf name prefix → n ≡ fingerprint_of prefix

-- a method was met by this up to n
abbrev pub IsMet : BTreeMap FinalKey ℕ → FinalKey → ℕ → Type 0
IsMet met key n = (until : ℕ) × (get block.ghosts.cmp met key ≡ Some until) × (n ≤ until)

-- what was met stays so
abbrev pub Grows : BTreeMap FinalKey ℕ → BTreeMap FinalKey ℕ → Type 0
Grows old new = (key : FinalKey) (n : ℕ) → IsMet old key n → IsMet new key n

-- overridden in all packages
abbrev pub IsOpen : ℕ → Type 0
IsOpen flags = IsTrue (has flags PUBLIC) ⊎ IsTrue (has flags PROTECTED)

-- If the method is final, it was met up to n: by all where it is open, and in its package where it has no mark.
abbrev pub IsKept : BTreeMap FinalKey ℕ → ℕ → ℕ → MethodRecord → Type 0
IsKept met n package_number method =
    IsTrue (has method.flags FINAL)
    → (IsOpen method.flags → IsMet met (key_in 0 method) n) × (IsUnmarked method.flags → IsMet met (key_in package_number method) n)
