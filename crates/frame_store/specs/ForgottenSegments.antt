-- Segments of a domain that are taken out of the table.
use Rattle.std.specs.Prelude.{◌≡◌, ◌≢◌, ℕ, ◌+◌, ◌≤◌, ◌⊎◌, None}
use Rattle.std.specs.Option.{option_map_or}
use Rattle.number_table.specs.declared.entry_table.Place.{Place}
use Rattle.number_table.specs.NumberPlaces.{NumberPlaces, place_of}

-- one more than the domain in which a segment stands; 0 where it doesn't
abbrev pub domain_in : NumberPlaces → ℕ → ℕ
domain_in t s = option_map_or (λ (p : Place). p.domain + 1) (place_of t s) 0

-- A segment is out, if it stood in this domain.
pub record Forgets (old new : NumberPlaces) (s domain : ℕ) : Type 0 where
  pub is_out : domain_in new s ≢ domain + 1
  pub kept : (r : ℕ) → domain_in old r ≢ domain + 1 → place_of new r ≡ place_of old r
  pub fewer : (r : ℕ) → (place_of new r ≡ place_of old r) ⊎ (place_of new r ≡ None)
  pub at_least : old.room ≤ new.room
