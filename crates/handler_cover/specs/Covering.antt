-- The nodes over a place, and what a tree says of entries that cover places.
use Rattle.std.specs.Prelude.{◌≡◌, ℕ, zero, suc, ◌<◌, ◌≤◌, ◌/◌, List, [], length, Contains, Some, slice_get, option_and_then, unwrap_or}
use Rattle.jk_model_classes.specs.declared.records.Caught.{Caught}

abbrev pub IsIn : Caught → ℕ → Type 0
IsIn h place = (h.start ≤ place) × (place < h.end)

-- the node of a level that is over a node of level 0
abbrev pub node_over : ℕ → ℕ → ℕ
node_over zero place = place
node_over (suc level) place = node_over level place / 2

-- the numbers of the entries at a node
abbrev pub entries_at : List (List (List ℕ)) → ℕ → ℕ → List ℕ
entries_at levels level node = unwrap_or (option_and_then (λ nodes. slice_get nodes node) (slice_get levels level)) []

-- the tree of so many places and these entries
pub record IsCoverTree (places : ℕ) (handlers : List Caught) (levels : List (List (List ℕ))) : Type 0 where
  -- each level has a node over each place
  pub wide : (level place : ℕ) (nodes : List (List ℕ)) → slice_get levels level ≡ Some nodes → place < places
      → node_over level place < length nodes
  -- an entry at a node covers all places that the node is over
  pub right : (level node x : ℕ) → Contains (entries_at levels level node) x
      → (h : Caught) × (slice_get handlers x ≡ Some h) × ((place : ℕ) → node_over level place ≡ node → IsIn h place)
  -- an entry that covers a place is at a node over it
  pub all : (x place : ℕ) (h : Caught) → slice_get handlers x ≡ Some h → IsIn h place → place < places
      → (level : ℕ) × (level < length levels) × Contains (entries_at levels level (node_over level place)) x
