-- How known texts are indexed: by fingerprints, from the newest entry on to older ones.
use Rattle.std.specs.Prelude.{◌≡◌, ◌≢◌, ℕ, ◌<◌, ◌⊎◌, ◌++◌, ◌∷◌, [], List, length, Contains, Option, Some, None, slice_get}
use Rattle.std.specs.BTreeMap.{is_at}
use Rattle.std.specs.Map.{lookup}
use Rattle.std.specs.Ordering.{nat_cmp}
use Rattle.shared_values.specs.Fingerprints.{fingerprint_of}
use Rattle.class_init.specs.declared.known_texts.TextEntry.{TextEntry}

-- an entry as contracts see it
abbrev pub text_of : TextEntry → List ℕ
text_of e = e.text

-- the entry at a place has a text with the fingerprint
pub record HasFingerprint (entries : List TextEntry) (f place : ℕ) : Type 0 where
  pub entry : TextEntry
  pub there : slice_get entries place ≡ Some entry
  pub is : fingerprint_of entry.text ≡ f

-- the newest entry before a place with the fingerprint stands here, or there is none
abbrev pub IsNewest : List TextEntry → ℕ → ℕ → Option ℕ → Type 0
IsNewest entries f end None = (k : ℕ) → k < end → HasFingerprint entries f k → ⊥
IsNewest entries f end (Some place) =
    (place < end) × HasFingerprint entries f place × ((k : ℕ) → place < k → k < end → HasFingerprint entries f k → ⊥)

-- each entry leads on to the newest before it with the same fingerprint
abbrev pub AreChained : List TextEntry → Type 0
AreChained entries = (place : ℕ) (e : TextEntry) → slice_get entries place ≡ Some e → IsNewest entries (fingerprint_of e.text) place e.before

-- no entry has this text
abbrev pub LacksText : List TextEntry → List ℕ → Type 0
LacksText entries text = (k : ℕ) (e : TextEntry) → slice_get entries k ≡ Some e → e.text ≢ text

-- the entry at this place has this text
pub record HasTextAt (entries : List TextEntry) (text : List ℕ) (place : ℕ) : Type 0 where
  pub entry : TextEntry
  pub there : slice_get entries place ≡ Some entry
  pub is : entry.text ≡ text

pub record IsIndex (entries : List TextEntry) (newest : List (ℕ × ℕ)) : Type 0 where
  pub newest_are : (f : ℕ) → IsNewest entries f (length entries) (lookup (is_at (nat_cmp f)) newest)
  pub chained : AreChained entries
  pub texts_differ : (i j : ℕ) (a b : TextEntry) → slice_get entries i ≡ Some a → slice_get entries j ≡ Some b → a.text ≡ b.text → i ≡ j

-- the text is known, and nothing else is new
abbrev pub AddsText : List (List ℕ) → List ℕ → List (List ℕ) → Type 0
AddsText old text new = (Contains old text × (new ≡ old)) ⊎ ((Contains old text → ⊥) × (new ≡ old ++ text ∷ []))
