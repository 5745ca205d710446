-- How a table of names is indexed: by fingerprints, from the newest entry on to older ones, and by classes.
use Rattle.std.specs.Prelude.{◌≡◌, ◌≢◌, ℕ, ◌<◌, ◌↔◌, IsTrue, List, length, map, nat_eq, Option, Some, None, slice_get}
use Rattle.std.specs.List.{list_any}
use Rattle.std.specs.BTreeMap.{is_at}
use Rattle.std.specs.Map.{lookup}
use Rattle.std.specs.Ordering.{nat_cmp}
use Rattle.jk_model.specs.declared.identifiers.ClassId.{ClassId}
use Rattle.shared_values.specs.Fingerprints.{fingerprint_of}
use Rattle.jk_model_classes.specs.Worlds.{NamedClass, IsNamed}
use Rattle.domain_resolver.specs.declared.name_table.NameEntry.{NameEntry}

-- an entry as contracts see it
abbrev pub named_class : NameEntry → NamedClass
named_class e = record { name = e.name; class = e.class }

-- the entry at a place has a name with the fingerprint
pub record HasFingerprint (entries : List NameEntry) (f place : ℕ) : Type 0 where
  pub entry : NameEntry
  pub there : slice_get entries place ≡ Some entry
  pub is : fingerprint_of entry.name ≡ f

-- the newest entry before a place with the fingerprint stands here, or there is none
abbrev pub IsNewest : List NameEntry → ℕ → ℕ → Option ℕ → Type 0
IsNewest entries f end None = (k : ℕ) → k < end → HasFingerprint entries f k → ⊥
IsNewest entries f end (Some place) =
    (place < end) × HasFingerprint entries f place × ((k : ℕ) → place < k → k < end → HasFingerprint entries f k → ⊥)

-- each entry leads on to the newest before it with the same fingerprint
abbrev pub AreChained : List NameEntry → Type 0
AreChained entries = (place : ℕ) (e : NameEntry) → slice_get entries place ≡ Some e → IsNewest entries (fingerprint_of e.name) place e.before

-- no entry has this name
abbrev pub LacksName : List NameEntry → List ℕ → Type 0
LacksName entries name = (k : ℕ) (e : NameEntry) → slice_get entries k ≡ Some e → e.name ≢ name

-- an entry has this name and this class
pub record HasName (entries : List NameEntry) (name : List ℕ) (class : ClassId) : Type 0 where
  pub place : ℕ
  pub entry : NameEntry
  pub there : slice_get entries place ≡ Some entry
  pub named : entry.name ≡ name
  pub classed : entry.class ≡ class

pub record IsIndex (entries : List NameEntry) (newest : List (ℕ × ℕ)) (classes : List ℕ) : Type 0 where
  pub newest_are : (f : ℕ) → IsNewest entries f (length entries) (lookup (is_at (nat_cmp f)) newest)
  pub chained : AreChained entries
  pub classes_are : (c : ClassId) → IsTrue (list_any (nat_eq c.0) classes) ↔ IsNamed (map named_class entries) c
  pub names_differ : (i j : ℕ) (a b : NameEntry) → slice_get entries i ≡ Some a → slice_get entries j ≡ Some b → a.name ≡ b.name → i ≡ j
