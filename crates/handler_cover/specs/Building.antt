-- How the tree of entries is built: its levels, and how far an entry is noted.
use Rattle.std.specs.Prelude.{◌≡◌, ℕ, zero, suc, ◌<◌, ◌+◌, ◌/◌, ◌%◌, ◌⊎◌, List, [], length, Contains, slice_get, unwrap_or}
use Rattle.jk_model_classes.specs.declared.records.Caught.{Caught}
use Rattle.handler_cover.specs.Covering.{IsIn, entries_at, node_over}

-- the nodes of a level
abbrev pub row : List (List (List ℕ)) → ℕ → List (List ℕ)
row levels level = unwrap_or (slice_get levels level) []

-- how many nodes a level has, where level 0 has one for each of so many places
abbrev pub width_at : ℕ → ℕ → ℕ
width_at zero places = places
width_at (suc level) places = width_at level places / 2 + width_at level places % 2

-- all levels are there: no node of one more level would be over places of the code alone
pub record HasLevels (places : ℕ) (levels : List (List (List ℕ))) : Type 0 where
  pub top : node_over (length levels) places ≡ 0
  pub widths : (level : ℕ) → level < length levels → length (row levels level) ≡ width_at level places

-- all levels are there, with no entry
pub record IsBare (places : ℕ) (levels : List (List (List ℕ))) : Type 0 where
  pub has_levels : HasLevels places levels
  pub empty : (level node x : ℕ) → ¬ Contains (entries_at levels level node) x

-- the tree after one number is noted at a node
pub record IsNoted (old new : List (List (List ℕ))) (level node x : ℕ) : Type 0 where
  pub count : length new ≡ length old
  pub widths : (k : ℕ) → length (row new k) ≡ length (row old k)
  pub kept : (k n y : ℕ) → Contains (entries_at old k n) y → Contains (entries_at new k n) y
  pub noted : Contains (entries_at new level node) x
  pub only : (k n y : ℕ) → Contains (entries_at new k n) y
      → Contains (entries_at old k n) y ⊎ ((k ≡ level) × (n ≡ node) × (y ≡ x))

-- a place at which an entry is noted
abbrev pub IsMet : ℕ → ℕ → List (List (List ℕ)) → Type 0
IsMet x place levels = (level : ℕ) × (level < length levels) × Contains (entries_at levels level (node_over level place)) x

-- what a tree gained by the entry with a number: nothing that is wrong of it
pub record Gains (places x : ℕ) (entry : Caught) (old new : List (List (List ℕ))) : Type 0 where
  pub has_levels : HasLevels places new
  pub kept : (k n y : ℕ) → Contains (entries_at old k n) y → Contains (entries_at new k n) y
  pub only : (k n y : ℕ) → Contains (entries_at new k n) y
      → Contains (entries_at old k n) y ⊎ ((y ≡ x) × ((place : ℕ) → node_over k place ≡ n → IsIn entry place))
  pub count : length new ≡ length old

-- the tree with the entry at nodes over all places that it covers
pub record HoldsEntry (places x : ℕ) (entry : Caught) (old new : List (List (List ℕ))) : Type 0 where
  pub gains : Gains places x entry old new
  pub all : (place : ℕ) → IsIn entry place → place < places → IsMet x place new
