-- How live domains are found by their names, and what it is to end one.
use Rattle.std.specs.Prelude.{◌≡◌, ℕ, ◌-◌, ◌<◌, ◌^◌, true, false, List, length, Option, Some, None, slice_get, slice_set, bytes_eq, if◌then◌else◌}
use Rattle.jk_model.specs.declared.identifiers.DomainId.{DomainId}
use Rattle.jk_model_classes.specs.Worlds.{DomainRecord, WorldRecord, domain_of}

-- a domain's number is its place
abbrev pub IsNumbered : List DomainRecord → Type 0
IsNumbered domains = (i : ℕ) (d : DomainRecord) → slice_get domains i ≡ Some d → d.id.0 ≡ i

-- a live domain of this name stands at the place
pub record LivesAt (domains : List DomainRecord) (name : List ℕ) (place : ℕ) : Type 0 where
  pub domain : DomainRecord
  pub there : slice_get domains place ≡ Some domain
  pub lives : domain.live ≡ true
  pub named : domain.name ≡ name

-- a name is found at a place exactly where a live domain of the name stands there
pub record IsIndexed (found : List ℕ → Option ℕ) (domains : List DomainRecord) : Type 0 where
  pub numbered : IsNumbered domains
  pub few : length domains < 2 ^ 32 - 1
  pub lives : (name : List ℕ) (place : ℕ) → found name ≡ Some place → LivesAt domains name place
  pub finds : (name : List ℕ) (place : ℕ) → LivesAt domains name place → found name ≡ Some place

-- there is a last domain, and it lives
abbrev pub IsLiveLast : List DomainRecord → Type 0
IsLiveLast domains = (d : DomainRecord) × (slice_get domains (length domains - 1) ≡ Some d) × (d.live ≡ true)

-- the domain at a place lives no more, and all else is as before
abbrev pub SetsEnded : List DomainRecord → ℕ → List DomainRecord → Type 0
SetsEnded old place new = (r : DomainRecord) × (slice_get old place ≡ Some r) × (new ≡ slice_set old place (record r { live = false }))

-- the domain of this number lives no more, and all else is as before
abbrev pub EndsDomain : WorldRecord → DomainId → WorldRecord → Type 0
EndsDomain old d new =
    (r : DomainRecord) × (domain_of old d ≡ Some r) × (new ≡ record old { domains = slice_set old.domains d.0 (record r { live = false }) })

-- the name of a live domain is found no more, and every other as before
abbrev pub LosesName : DomainRecord → (List ℕ → Option ℕ) → (List ℕ → Option ℕ) → Type 0
LosesName r old new = (q : List ℕ) → new q ≡ (if r.live then (if bytes_eq r.name q then None else old q) else old q)
