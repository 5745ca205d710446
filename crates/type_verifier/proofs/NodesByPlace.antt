-- Nodes by level and place: where there is one, and what a write of one changes.
use Rattle.std.proofs.Common.{◌≡◌, ◌≢◌, ℕ, zero, suc, ◌<◌, List, [], ◌∷◌, length, map, set, Option, Some, None, slice_get, refl, sym, ap, ◌∙◌, inl, inr}
use Rattle.std.proofs.lemmas.Bool.{cases_eq}
use Rattle.std.proofs.lemmas.List.{length-set, length-map}
use Rattle.std.proofs.lemmas.Option.{same_Some, slice_get_within, slice_get_cases, slice_get-map}
use Rattle.std.specs.Option.{option_map, option_and_then}
use Rattle.list_lemmas.proofs.ItemsByPlace.{slice_get-set_same, slice_get-set_other, slice_get-set_cases, set_same}
use Rattle.type_verifier.specs.declared.covers.Seen.{Seen}
use Rattle.type_verifier.specs.Climbs.{IsNodeSet, node_in}
use Rattle.type_verifier.specs.Covers.{Nodes}

-- a node stands in one of the levels
pub node-row : (nodes : Nodes) (l n : ℕ) (slot : Option Seen) → node_in nodes l n ≡ Some slot
    → (row : List (Option Seen)) × (slice_get nodes l ≡ Some row) × (slice_get row n ≡ Some slot)
node-row nodes l n slot e = elim (slice_get_cases nodes l).1 [
  | inl (row, within, is, same) ↦ (row, is, rw is at e)
  | inr (past, is) ↦ let clash : ◌≡◌ {A = Option (Option Seen)} None (Some slot) = rw is at e in absurd cc
]

pub node-level : (nodes : Nodes) (l n : ℕ) (slot : Option Seen) → node_in nodes l n ≡ Some slot → l < length nodes
node-level nodes l n slot e = let (row, is, at) = node-row nodes l n slot e in slice_get_within nodes l row is

module _ {Row : Type 0} (items : Row → List (Option Seen)) where
  map-at : (rows : List Row) (l : ℕ) (row : Row) → slice_get rows l ≡ Some row → slice_get (map items rows) l ≡ Some (items row)
  map-at rows l row e = slice_get-map items rows l ∙ ap (option_map items) e

  map-from : (rows : List Row) (l : ℕ) (r : List (Option Seen)) → slice_get (map items rows) l ≡ Some r
      → (row : Row) × (slice_get rows l ≡ Some row) × (items row ≡ r)
  map-from rows l r e = elim (slice_get_cases rows l).1 [
    | inl (row, within, is, same) ↦ (row, is, same_Some (items row) r (sym (map-at rows l row is) ∙ e))
    | inr (past, is) ↦
        let clash : ◌≡◌ {A = Option (List (Option Seen))} None (Some r) =
        sym (slice_get-map items rows l ∙ ap (option_map items) is) ∙ e in
        absurd cc
  ]

  -- what the code reads at a level and a node of it
  pub node-read : (rows : List Row) (level node : ℕ) (row : Row) (slot : Option Seen) → slice_get rows level ≡ Some row
      → slice_get (items row) node ≡ Some slot → node_in (map items rows) level node ≡ Some slot
  node-read rows level node row slot at there =
      ap (option_and_then (λ (r : List (Option Seen)). slice_get r node)) (map-at rows level row at) ∙ there

  pub node-set : (rows : List Row) (level node : ℕ) (row new : Row) (slot : Option Seen) → slice_get rows level ≡ Some row
      → node < length (items row) → items new ≡ set (items row) node slot
      → IsNodeSet (map items rows) level node slot (map items (set rows level new))
  node-set rows level node row new slot at within is =
      let low = slice_get_within rows level row at in
      let at_new = slice_get-set_same rows level new low in
      record {
        levels = length-map (set rows level new) items ∙ length-set rows level new ∙ sym (length-map rows items);
        wide = λ l r e.
            let (y, at_y, same) = map-from (set rows level new) l r e in
            elim (slice_get-set_cases rows level l new y at_y) [
              | inl (here, one) ↦ (
                items row,
                map-at rows l row (ap (slice_get rows) (sym here) ∙ at),
                sym (ap length same) ∙ sym (ap (λ (z : Row). length (items z)) one) ∙ ap length is ∙ length-set (items row) node slot,
              )
              | inr before ↦ (items y, map-at rows l y before, ap length (sym same))
            ];
        there = node-read (set rows level new) level node new slot at_new
            (ap (λ (r : List (Option Seen)). slice_get r node) is ∙ slice_get-set_same (items row) node slot within);
        others = λ l n apart. elim (cases_eq l level) [
          | inl same ↦
              let other : node ≢ n = λ e. apart same (sym e) in
              ap (λ (i : ℕ). node_in (map items (set rows level new)) i n) same
              ∙ ap (option_and_then (λ (r : List (Option Seen)). slice_get r n)) (map-at (set rows level new) level new at_new)
              ∙ ap (λ (r : List (Option Seen)). slice_get r n) is
              ∙ slice_get-set_other (items row) node n slot other
              ∙ sym (ap (option_and_then (λ (r : List (Option Seen)). slice_get r n)) (map-at rows level row at))
              ∙ sym (ap (λ (i : ℕ). node_in (map items rows) i n) same)
          | inr other ↦
              let level_other : level ≢ l = λ e. other (sym e) in
              ap (option_and_then (λ (r : List (Option Seen)). slice_get r n))
              (slice_get-map items (set rows level new) l ∙ ap (option_map items) (slice_get-set_other rows level l new level_other)
              ∙ sym (slice_get-map items rows l))
        ];
      }

  map-set_same : (rows : List Row) (level : ℕ) (row new : Row) → slice_get rows level ≡ Some row → items new ≡ items row
      → map items (set rows level new) ≡ map items rows
  map-set_same [] level row new at same = refl
  map-set_same (y ∷ ys) zero row new at same =
      ap (λ (r : List (Option Seen)). r ∷ map items ys) (same ∙ ap items (sym (same_Some y row at)))
  map-set_same (y ∷ ys) (suc level) row new at same = ap (λ (rs : Nodes). items y ∷ rs) (map-set_same ys level row new at same)

  -- a write of what is there already
  pub node-set_same : (rows : List Row) (level node : ℕ) (row new : Row) (slot : Option Seen) → slice_get rows level ≡ Some row
      → slice_get (items row) node ≡ Some slot → items new ≡ set (items row) node slot
      → map items (set rows level new) ≡ map items rows
  node-set_same rows level node row new slot at there is =
      map-set_same rows level row new at (is ∙ set_same (items row) node slot there)
