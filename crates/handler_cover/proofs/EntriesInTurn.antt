-- The tree of all entries is made of one entry after another.
use Rattle.std.proofs.Common.{◌≡◌, ◌≢◌, ℕ, ◌<◌, ◌+◌, ◌⊎◌, inl, inr, List, length, get_or, refl, sym, ◌∙◌, ap, subst, arith, Some}
use Rattle.std.specs.List.{Contains, slice_get}
use Rattle.std.proofs.lemmas.Bool.{cases_eq}
use Rattle.std.proofs.lemmas.Option.{slice_get-get_or, slice_get_within}
use Rattle.jk_model_classes.specs.declared.records.Caught.{Caught}
use Rattle.handler_cover.specs.Building.{HasLevels, HoldsEntry, IsBare, IsMet, row}
use Rattle.handler_cover.specs.Covering.{IsCoverTree, IsIn, entries_at, node_over}
use Rattle.handler_cover.proofs.LevelsHalve.{over_within}

-- the tree of the first so many entries
pub record HoldsFirst (places : ℕ) (handlers : List Caught) (count : ℕ) (levels : List (List (List ℕ))) : Type 0 where
  pub has_levels : HasLevels places levels
  pub right : (level node x : ℕ) → Contains (entries_at levels level node) x
      → (h : Caught) × (slice_get handlers x ≡ Some h) × ((place : ℕ) → node_over level place ≡ node → IsIn h place)
  pub all : (x place : ℕ) (h : Caught) → x < count → slice_get handlers x ≡ Some h → IsIn h place → place < places → IsMet x place levels

pub none_yet : (places : ℕ) (handlers : List Caught) (levels : List (List (List ℕ))) → IsBare places levels → HoldsFirst places handlers 0 levels
none_yet places handlers levels bare = record {
  has_levels = bare.has_levels;
  right = λ level node x has. absurd (bare.empty level node x has);
  all = λ x place h low _ _ _. absurd (omega arith);
}

one_more : (places : ℕ) (handlers : List Caught) (count : ℕ) (entry : Caught) (old new : List (List (List ℕ)))
    → HoldsFirst places handlers count old → slice_get handlers count ≡ Some entry → HoldsEntry places count entry old new
    → HoldsFirst places handlers (count + 1) new
one_more places handlers count entry old new first at holds = record {
  has_levels = holds.gains.has_levels;
  right = λ level node x has. by_old level node x (holds.gains.only level node x has);
  all = λ x place h low there covers within. by_number x place h low there covers within (cases_eq x count);
}
  where
    by_old : (level node x : ℕ)
        → Contains (entries_at old level node) x ⊎ ((x ≡ count) × ((place : ℕ) → node_over level place ≡ node → IsIn entry place))
        → (h : Caught) × (slice_get handlers x ≡ Some h) × ((place : ℕ) → node_over level place ≡ node → IsIn h place)
    by_old level node x (inl before) = first.right level node x before
    by_old level node x (inr (here, inside)) = (entry, rw here at, inside)

    by_number : (x place : ℕ) (h : Caught) → x < count + 1 → slice_get handlers x ≡ Some h → IsIn h place → place < places
        → (x ≡ count) ⊎ (x ≢ count) → IsMet x place new
    by_number x place h low there covers within (inl here) =
        let same : entry ≡ h = cc (rw here at there, at)
        in rw here (holds.all place (subst (λ (e : Caught). IsIn e place) (sym same) covers) within)
    by_number x place h low there covers within (inr other) = still (first.all x place h (omega arith) there covers within)
      where
        still : IsMet x place old → IsMet x place new
        still (level, below, has) = (level, rw holds.gains.count below, holds.gains.kept level (node_over level place) x has)

pub all_hold : (places : ℕ) (handlers : List Caught) (levels : List (List (List ℕ)))
    → HoldsFirst places handlers (length handlers) levels → IsCoverTree places handlers levels
all_hold places handlers levels first = record {
  wide = λ level place nodes there low.
      subst (λ (n : ℕ). node_over level place < n)
      (sym (first.has_levels.widths level (slice_get_within levels level nodes there)) ∙ ap length (row_is level nodes there))
      (over_within level place places low);
  right = first.right;
  all = λ x place h there covers low. first.all x place h (slice_get_within handlers x h there) there covers low;
}
  where
    row_is : (level : ℕ) (nodes : List (List ℕ)) → slice_get levels level ≡ Some nodes → row levels level ≡ nodes
    row_is level nodes there = rw there refl

-- the entry that stands next in the list
pub next_more : (places : ℕ) (handlers : List Caught) (count : ℕ) (otherwise : Caught) (old new : List (List (List ℕ)))
    → HoldsFirst places handlers count old → count < length handlers → HoldsEntry places count (get_or handlers count otherwise) old new
    → HoldsFirst places handlers (count + 1) new
next_more places handlers count otherwise old new first low holds =
    one_more places handlers count (get_or handlers count otherwise) old new first (slice_get-get_or handlers count otherwise low) holds
