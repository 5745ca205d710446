-- What a table of numbers has: places of keys, and room for more keys. What its calls make of that.
use Rattle.std.specs.Prelude.{◌≡◌, ◌≢◌, ℕ, ◌+◌, List, Option, Some, None, nat_eq}
use Rattle.std.specs.Map.{lookup}
use Rattle.number_table.specs.declared.entry_table.Place.{Place}

pub record NumberPlaces : Type 0 where
  -- the keys with their places, in an order of no meaning
  pub entries : List (ℕ × Place)
  -- how many more keys may be entered
  pub room : ℕ

-- the place of a key; none where it isn't there
abbrev pub place_of : NumberPlaces → ℕ → Option Place
place_of t key = lookup (nat_eq key) t.entries

abbrev pub IsEmpty : NumberPlaces → Type 0
IsEmpty t = (key : ℕ) → place_of t key ≡ None

abbrev pub HasSamePlaces : NumberPlaces → NumberPlaces → Type 0
HasSamePlaces old new = (key : ℕ) → place_of new key ≡ place_of old key

-- A key is entered.
pub record Inserts (old new : NumberPlaces) (key : ℕ) (place : Place) : Type 0 where
  pub is_in : place_of new key ≡ Some place
  pub others : (other : ℕ) → other ≢ key → place_of new other ≡ place_of old other
  pub less_room : new.room + 1 ≡ old.room

-- A key is taken out.
pub record Removes (old new : NumberPlaces) (key : ℕ) : Type 0 where
  pub is_out : place_of new key ≡ None
  pub others : (other : ℕ) → other ≢ key → place_of new other ≡ place_of old other
  pub more_room : new.room ≡ old.room + 1
