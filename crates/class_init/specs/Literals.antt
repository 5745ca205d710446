-- The texts that a domain knows, and the objects of those that have one, by the places of the texts.
use Rattle.std.specs.Prelude.{◌≡◌, ℕ, ◌+◌, ◌<◌, ◌≤◌, Bool, false, List, [], length, replicate, Contains, nat_eq, Some, slice_get, unwrap_or}
use Rattle.std.specs.List.{IsDistinct}
use Rattle.std.specs.Map.{keys_of}
use Rattle.jk_model_domains.specs.OwnStates.{Literal}
use Rattle.jk_model_domains.specs.declared.states.LiteralImage.{LiteralImage}

pub record LiteralTable : Type 0 where
  -- the texts, each once
  pub texts : List (List ℕ)
  -- those that have an object
  pub literals : List Literal

-- a literal, from the place of its text and its name
abbrev pub literal_of : List (List ℕ) → ℕ × ℕ → Literal
literal_of texts p = record { text = unwrap_or (slice_get texts p.0) []; name = p.1 }

abbrev pub literal_from : LiteralImage → Literal
literal_from l = record { text = l.text; name = l.name }

-- the names are of texts that are known, there is room for one name for each text, and no text is marked
pub record AreNamed (texts : List (List ℕ)) (names : List (ℕ × ℕ)) (room : ℕ) (marks : List Bool) : Type 0 where
  pub texts_differ : (i j : ℕ) (text : List ℕ) → slice_get texts i ≡ Some text → slice_get texts j ≡ Some text → i ≡ j
  pub within : (place : ℕ) → Contains (keys_of names) place → place < length texts
  pub apart : IsDistinct nat_eq (keys_of names)
  pub fits : length texts ≤ length names + room
  pub unmarked : marks ≡ replicate (length texts) false
