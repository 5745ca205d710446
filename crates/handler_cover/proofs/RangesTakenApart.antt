-- A range of places is taken apart, level by level, into nodes that are over exactly its places.
use Rattle.std.proofs.Common.{◌≡◌, ◌≢◌, ℕ, ◌<◌, ◌≤◌, ◌+◌, ◌-◌, ◌/◌, ◌%◌, ◌⊎◌, inl, inr, List, length, min, refl, ◌∙◌, arith, add-one}
use Rattle.std.specs.List.{Contains}
use Rattle.std.proofs.lemmas.Bool.{cases_lt, cases_eq}
use Rattle.jk_model_classes.specs.declared.records.Caught.{Caught}
use Rattle.handler_cover.specs.Building.{Gains, HasLevels, HoldsEntry, IsMet, IsNoted, row}
use Rattle.handler_cover.specs.Covering.{IsIn, entries_at, node_over}
use Rattle.handler_cover.proofs.LevelsHalve.{whole_within}

-- the nodes of a level from left up to right are what is left of an entry
pub record IsPartly (places x : ℕ) (entry : Caught) (old new : List (List (List ℕ))) (level left right : ℕ) : Type 0 where
  pub gains : Gains places x entry old new
  pub low : level ≤ length new
  pub ends : right ≤ node_over level places
  pub inside : (place : ℕ) → left ≤ node_over level place → node_over level place < right → IsIn entry place
  pub all : (place : ℕ) → IsIn entry place → place < places
      → ((left ≤ node_over level place) × (node_over level place < right)) ⊎ IsMet x place new

-- before the first node is noted nothing is gained
gains_none : {places x : ℕ} {entry : Caught} {tree : List (List (List ℕ))} → HasLevels places tree → Gains places x entry tree tree
gains_none levels = record { has_levels = levels; kept = λ k n y has. has; only = λ k n y has. inl has; count = refl }

-- a node is noted that is over places of the entry alone
gains_more : {places x : ℕ} {entry : Caught} {old now new : List (List (List ℕ))} {level node : ℕ} → Gains places x entry old now
    → IsNoted now new level node x → ((place : ℕ) → node_over level place ≡ node → IsIn entry place) → Gains places x entry old new
gains_more {places} {x} {entry} {old} {now} {new} {level} {node} gains noted inside = record {
  has_levels = record {
    top = rw noted.count gains.has_levels.top;
    widths = λ k low. noted.widths k ∙ gains.has_levels.widths k (rw noted.count at low);
  };
  kept = λ k n y has. noted.kept k n y (gains.kept k n y has);
  only = λ k n y has. by_now k n y (noted.only k n y has);
  count = noted.count ∙ gains.count;
}
  where
    by_now : (k n y : ℕ) → Contains (entries_at now k n) y ⊎ ((k ≡ level) × (n ≡ node) × (y ≡ x))
        → Contains (entries_at old k n) y ⊎ ((y ≡ x) × ((place : ℕ) → node_over k place ≡ n → IsIn entry place))
    by_now k n y (inl before) = gains.only k n y before
    by_now k n y (inr (same, here, it)) = inr (it, λ place over. inside place (rw (← same) (over ∙ here)))

still_met : {x : ℕ} {now new : List (List (List ℕ))} {level node : ℕ} → IsNoted now new level node x → (place : ℕ)
    → IsMet x place now → IsMet x place new
still_met {x} noted place (k, low, has) = (k, rw noted.count low, noted.kept k (node_over k place) x has)

-- at the start all places that the entry covers are left
pub partly_start : {places x : ℕ} {entry : Caught} {tree : List (List (List ℕ))} → HasLevels places tree
    → IsPartly places x entry tree tree 0 entry.start (min entry.end places)
partly_start levels = record {
  gains = gains_none levels;
  low = omega arith;
  ends = omega arith;
  inside = λ place from to. (from, omega arith);
  all = λ place covers low. inl (covers.0, omega arith);
}

-- a level on which something is left is there
pub partly_low : {places x : ℕ} {entry : Caught} {old new : List (List (List ℕ))} {level left right : ℕ}
    → IsPartly places x entry old new level left right → left < right → level < length new
partly_low {places} {x} {entry} {old} {new} {level} {left} {right} partly some = by_place (cases_eq level (length new))
  where
    by_place : (level ≡ length new) ⊎ (level ≢ length new) → level < length new
    by_place (inl top) = let none : node_over level places ≡ 0 = rw top partly.gains.has_levels.top in absurd (omega (arith, partly.ends))
    by_place (inr other) = omega (arith, partly.low)

-- above the last level nothing is left
pub partly_above : {places x : ℕ} {entry : Caught} {old new : List (List (List ℕ))} {level left right : ℕ}
    → IsPartly places x entry old new level left right → length new ≤ level → right ≤ left
partly_above {left = left} {right} partly above = by_order (cases_lt left right)
  where
    by_order : (left < right) ⊎ (right ≤ left) → right ≤ left
    by_order (inl some) = absurd (omega (arith, partly_low partly some))
    by_order (inr none) = none

-- what is left are nodes of the level
pub partly_within : {places x : ℕ} {entry : Caught} {old new : List (List (List ℕ))} {level left right : ℕ}
    → IsPartly places x entry old new level left right → level < length new → (node : ℕ) → node < right → node < length (row new level)
partly_within {places} {level = level} partly low node before =
    rw (partly.gains.has_levels.widths level low) (omega (arith, partly.ends, whole_within level places))

-- the first node that is left is noted
partly_left : {places x : ℕ} {entry : Caught} {old now new : List (List (List ℕ))} {level left right : ℕ}
    → IsPartly places x entry old now level left right → left < right → IsNoted now new level left x
    → IsPartly places x entry old new level (left + 1) right
partly_left {places} {x} {entry} {old} {now} {new} {level} {left} {right} partly some noted = record {
  gains = gains_more partly.gains noted (λ place over. partly.inside place (omega arith) (omega arith));
  low = rw noted.count partly.low;
  ends = partly.ends;
  inside = λ place from to. partly.inside place (omega arith) to;
  all = λ place covers low. by_now place (partly.all place covers low);
}
  where
    by_here : (place : ℕ) → left ≤ node_over level place → node_over level place < right
        → (node_over level place ≡ left) ⊎ (node_over level place ≢ left)
        → ((left + 1 ≤ node_over level place) × (node_over level place < right)) ⊎ IsMet x place new
    by_here place from to (inl here) = inr (level, rw noted.count (partly_low partly some), rw here noted.noted)
    by_here place from to (inr other) = inl (omega arith, to)

    by_now : (place : ℕ) → ((left ≤ node_over level place) × (node_over level place < right)) ⊎ IsMet x place now
        → ((left + 1 ≤ node_over level place) × (node_over level place < right)) ⊎ IsMet x place new
    by_now place (inl (from, to)) = by_here place from to (cases_eq (node_over level place) left)
    by_now place (inr met) = inr (still_met noted place met)

-- the last node that is left is noted
partly_right : {places x : ℕ} {entry : Caught} {old now new : List (List (List ℕ))} {level left right : ℕ}
    → IsPartly places x entry old now level left right → left < right → IsNoted now new level (right - 1) x
    → IsPartly places x entry old new level left (right - 1)
partly_right {places} {x} {entry} {old} {now} {new} {level} {left} {right} partly some noted = record {
  gains = gains_more partly.gains noted (λ place over. partly.inside place (omega arith) (omega arith));
  low = rw noted.count partly.low;
  ends = omega (arith, partly.ends);
  inside = λ place from to. partly.inside place from (omega arith);
  all = λ place covers low. by_now place (partly.all place covers low);
}
  where
    by_here : (place : ℕ) → left ≤ node_over level place → node_over level place < right
        → (node_over level place ≡ right - 1) ⊎ (node_over level place ≢ right - 1)
        → ((left ≤ node_over level place) × (node_over level place < right - 1)) ⊎ IsMet x place new
    by_here place from to (inl here) = inr (level, rw noted.count (partly_low partly some), rw here noted.noted)
    by_here place from to (inr other) = inl (from, omega arith)

    by_now : (place : ℕ) → ((left ≤ node_over level place) × (node_over level place < right)) ⊎ IsMet x place now
        → ((left ≤ node_over level place) × (node_over level place < right - 1)) ⊎ IsMet x place new
    by_now place (inl (from, to)) = by_here place from to (cases_eq (node_over level place) (right - 1))
    by_now place (inr met) = inr (still_met noted place met)

-- an odd first node is noted
abbrev pub IsLeftTaken : List (List (List ℕ)) → List (List (List ℕ)) → ℕ → ℕ → ℕ → ℕ → Type 0
IsLeftTaken now new x level left next =
    ((left % 2 ≡ 1) × IsNoted now new level left x × (next ≡ left + 1)) ⊎ ((left % 2 ≢ 1) × (new ≡ now) × (next ≡ left))

-- a last node is noted that has an odd number of nodes up to it
abbrev pub IsRightTaken : List (List (List ℕ)) → List (List (List ℕ)) → ℕ → ℕ → ℕ → ℕ → Type 0
IsRightTaken now new x level right next =
    ((right % 2 ≡ 1) × IsNoted now new level (right - 1) x × (next ≡ right - 1)) ⊎ ((right % 2 ≢ 1) × (new ≡ now) × (next ≡ right))

-- what the left end of a level leaves
pub partly_left_end : {places x : ℕ} {entry : Caught} {old now : List (List (List ℕ))} {level left right : ℕ} (new : List (List (List ℕ))) (next : ℕ)
    → IsPartly places x entry old now level left right → left < right → IsLeftTaken now new x level left next
    → IsPartly places x entry old new level next right × (next % 2 ≡ 0) × (next ≤ right)
partly_left_end new next partly some (inl (odd, noted, is)) = (rw is (partly_left partly some noted), omega arith, omega arith)
partly_left_end new next partly some (inr (even, same, is)) = (rw (same, is) partly, omega arith, omega arith)

-- what the right end of a level leaves
pub partly_right_end : {places x : ℕ} {entry : Caught} {old now : List (List (List ℕ))} {level left right : ℕ} (new : List (List (List ℕ))) (next : ℕ)
    → IsPartly places x entry old now level left right × (left % 2 ≡ 0) × (left ≤ right) → IsRightTaken now new x level right next
    → IsPartly places x entry old new level left next × (left % 2 ≡ 0) × (next % 2 ≡ 0)
partly_right_end new next (partly, even_left, some) (inl (odd, noted, is)) = (rw is (partly_right partly (omega arith) noted), even_left, omega arith)
partly_right_end new next (partly, even_left, some) (inr (even, same, is)) = (rw (same, is) partly, even_left, omega arith)

-- where both ends are even, the nodes that are left share their parents with no other node
pub partly_up : {places x : ℕ} {entry : Caught} {old new : List (List (List ℕ))} {level left right : ℕ}
    → IsPartly places x entry old new level left right × (left % 2 ≡ 0) × (right % 2 ≡ 0) → level < length new
    → IsPartly places x entry old new (level + 1) (left / 2) (right / 2)
partly_up {places} {x} {entry} {old} {new} {level} {left} {right} (partly, even_left, even_right) low = rw (add-one level) (record {
  gains = partly.gains;
  low = omega arith;
  ends = omega (arith, partly.ends);
  inside = λ place from to. partly.inside place (omega arith) (omega arith);
  all = λ place covers low. by_now place (partly.all place covers low);
})
  where
    by_now : (place : ℕ) → ((left ≤ node_over level place) × (node_over level place < right)) ⊎ IsMet x place new
        → ((left / 2 ≤ node_over level place / 2) × (node_over level place / 2 < right / 2)) ⊎ IsMet x place new
    by_now place (inl (from, to)) = inl (omega arith, omega arith)
    by_now place (inr met) = inr met

-- at the end nothing is left
pub partly_done : {places x : ℕ} {entry : Caught} {old new : List (List (List ℕ))} {level left right : ℕ}
    → IsPartly places x entry old new level left right → right ≤ left → HoldsEntry places x entry old new
partly_done {places} {x} {entry} {old} {new} {level} {left} {right} partly none = record {
  gains = partly.gains;
  all = λ place covers low. by_now place (partly.all place covers low);
}
  where
    by_now : (place : ℕ) → ((left ≤ node_over level place) × (node_over level place < right)) ⊎ IsMet x place new → IsMet x place new
    by_now place (inl (from, to)) = absurd (omega arith)
    by_now place (inr met) = met
