-- Names as entries of a list.
use Rattle.std.specs.Prelude.{◌≡◌, ℕ, ◌≤◌, List, MatchOption, Option, None, Some, length, map, slice_get}
use Rattle.jk_model_sharing.specs.BoundNames.{BoundName, bound_as}
use Rattle.thread_segments.specs.declared.names.NameEntry.{NameEntry}

abbrev pub name_of : NameEntry → BoundName
name_of e = record { text = e.text.items; cap = e.cap; binder = e.binder }

abbrev pub names_of : List NameEntry → List BoundName
names_of entries = map name_of entries

-- The names in the order of binding, and how many may be bound at once.
pub record NameList : Type 0 where
  pub names : List BoundName
  pub most : ℕ

-- There is memory for as many as may be bound, and no more are.
pub record HasNameRoom (entries : List NameEntry) (most capacity : ℕ) : Type 0 where
  pub within : length entries ≤ most
  pub room : most ≤ capacity

-- the place of the name of a text; none where it isn't bound
abbrev pub IsPlaceOfName : List BoundName → List ℕ → Option ℕ → Type 0
IsPlaceOfName names text place =
    MatchOption place (bound_as names text ≡ None)
    (λ p. (n : BoundName) × (slice_get names p ≡ Some n) × (n.text ≡ text) × (bound_as names text ≡ Some n))
