-- How heights rise, round by round, to what they are.
use Rattle.std.proofs.Common.{◌≡◌, ℕ, zero, suc, ◌+◌, ◌<◌, ◌≤◌, inl, inr, Bool, true, false, List, length, replicate, set, Some, slice_get, refl, sym, ◌∙◌, ap, subst, arith, length-set}
use Rattle.std.proofs.Math.ListN.{get_or}
use Rattle.std.proofs.lemmas.Bool.{cases_lt}
use Rattle.std.proofs.lemmas.Option.{same_Some, slice_get_within, slice_get-get_or}
use Rattle.name_rules.specs.Graphs.{AreHeights, AreHeightsBelow, Climb, HasEdge, HasNoRing, IsHeight, IsHeightBelow, IsSquare, Rows}
use Rattle.name_rules.proofs.EdgesOfRows.{edge_within}
use Rattle.list_lemmas.proofs.ItemsByPlace.{slice_get-set_cases, slice_get-set_same}
use Rattle.name_rules.proofs.PlacesLeft.{climb_is_short}

-- a climb goes through all lower heights
shorter : (E : ℕ → ℕ → Type 0) (k n a b : ℕ) → k ≤ n → Climb E n a b → (c : ℕ) × Climb E k a c
shorter E zero n a b le h = (a, refl)
shorter E (suc k) zero a b le h = absurd (omega arith)
shorter E (suc k) (suc n) a b le (next, e, on) = let rest = shorter E k n next b (omega arith) on in (rest.0, (next, e, rest.1))

none_longer : (E : ℕ → ℕ → Type 0) (k n a b : ℕ) → k ≤ n → ((c : ℕ) → Climb E k a c → ⊥) → Climb E n a b → ⊥
none_longer E k n a b le none h = let s = shorter E k n a b le h in none s.0 s.1

pub record RaisedBefore (rows : Rows) (height place : ℕ) (raised : Bool) (heights : List ℕ) : Type 0 where
  pub as_many : length heights ≡ length rows
  pub each : (a n : ℕ) → slice_get heights a ≡ Some n → IsHeightBelow (HasEdge rows) height a n
  pub before : (a n : ℕ) → a < place → slice_get heights a ≡ Some n → IsHeightBelow (HasEdge rows) (height + 1) a n
  pub none : raised ≡ false → (a n : ℕ) → a < place → slice_get heights a ≡ Some n → IsHeight (HasEdge rows) a n

pub raised_none : (rows : Rows) (height : ℕ) (heights : List ℕ) → AreHeightsBelow rows height heights → RaisedBefore rows height 0 false heights
raised_none rows height heights h = record {
  as_many = h.as_many;
  each = h.each;
  before = λ a n below. absurd (omega arith);
  none = λ _ a n below. absurd (omega arith);
}

module _ (rows : Rows) (height place : ℕ) (raised : Bool) (heights : List ℕ) (square : IsSquare rows) (h : RaisedBefore rows height place raised heights)
    (within : place < length rows) where
  -- the place goes to a high one
  pub raised_here : (j : ℕ) × (n : ℕ) × HasEdge rows place j × (slice_get heights j ≡ Some n) × (height ≤ n)
      → RaisedBefore rows height (place + 1) true (set heights place (height + 1))
  raised_here (j, n, e, at, high) =
      let rest = shorter (HasEdge rows) height n j ((h.each j n at).0.0) high (h.each j n at).0.1 in
      let climb : Climb (HasEdge rows) (suc height) place rest.0 = (j, e, rest.1) in
      let one_more : suc height ≡ height + 1 = omega arith in
      let here : Climb (HasEdge rows) (height + 1) place rest.0 =
      subst (λ (k : ℕ). Climb (HasEdge rows) k place rest.0) one_more climb in
      let now : (bound a m : ℕ) → bound ≤ height + 1 → (place ≡ a) × (height + 1 ≡ m) → IsHeightBelow (HasEdge rows) bound a m =
      λ bound a m le (same, value).
      subst (λ (k : ℕ). IsHeightBelow (HasEdge rows) bound k m) same
      (subst (λ (k : ℕ). IsHeightBelow (HasEdge rows) bound place k) value ((rest.0, here), λ below. absurd (omega arith))) in
      record {
        as_many = length-set heights place (height + 1) ∙ h.as_many;
        each = λ a m found. elim (slice_get-set_cases heights place a (height + 1) m found) [
          | inl new ↦ now height a m (omega arith) new
          | inr old ↦ h.each a m old
        ];
        before = λ a m below found. elim (slice_get-set_cases heights place a (height + 1) m found) [
          | inl new ↦ now (height + 1) a m (omega arith) new
          | inr old ↦ elim (cases_lt a place) [
            | inl less ↦ h.before a m less old
            | inr least ↦
                let same : place ≡ a = omega arith in
                let at_place : slice_get (set heights place (height + 1)) place ≡ Some (height + 1) =
                slice_get-set_same heights place (height + 1) (omega (arith, h.as_many)) in
                let also : slice_get (set heights place (height + 1)) place ≡ Some m =
                subst (λ (k : ℕ). slice_get (set heights place (height + 1)) k ≡ Some m) (sym same) found in
                now (height + 1) a m (omega arith) (same, same_Some (height + 1) m (sym at_place ∙ also))
          ]
        ];
        none = λ e. absurd cc;
      }

  -- it goes to none
  top_here : ((j n : ℕ) → HasEdge rows place j → slice_get heights j ≡ Some n → n < height)
      → (b : ℕ) → Climb (HasEdge rows) (suc height) place b → ⊥
  top_here low b (next, e, on) =
      let there = (edge_within rows place next square e).1 in
      let n = get_or heights next 0 in
      let at : slice_get heights next ≡ Some n = slice_get-get_or heights next 0 (omega (arith, h.as_many)) in
      let less : n < height = low next n e at in
      none_longer (HasEdge rows) (suc n) height next b (omega arith) ((h.each next n at).1 less) on

  is_height_here : ((j n : ℕ) → HasEdge rows place j → slice_get heights j ≡ Some n → n < height) → (n : ℕ) → slice_get heights place ≡ Some n
      → IsHeight (HasEdge rows) place n
  is_height_here low n at = (
    (h.each place n at).0,
    elim (cases_lt n height) [
      | inl less ↦ (h.each place n at).1 less
      | inr least ↦ λ b climb. none_longer (HasEdge rows) (suc height) (suc n) place b (omega arith) (top_here low) climb
    ],
  )

  pub stays_here : ((j n : ℕ) → HasEdge rows place j → slice_get heights j ≡ Some n → n < height)
      → RaisedBefore rows height (place + 1) raised heights
  stays_here low =
      let own : (a n : ℕ) → place ≤ a → a < place + 1 → slice_get heights a ≡ Some n → IsHeight (HasEdge rows) a n =
      λ a n least below found.
      let same : place ≡ a = omega arith in
      subst (λ (k : ℕ). IsHeight (HasEdge rows) k n) same
      (is_height_here low n (subst (λ (k : ℕ). slice_get heights k ≡ Some n) (sym same) found)) in
      record {
        as_many = h.as_many;
        each = h.each;
        before = λ a n below found. elim (cases_lt a place) [
          | inl less ↦ h.before a n less found
          | inr least ↦ ((own a n least below found).0, λ _. (own a n least below found).1)
        ];
        none = λ e a n below found. elim (cases_lt a place) [
          | inl less ↦ h.none e a n less found
          | inr least ↦ own a n least below found
        ];
      }

pub raised_all : (rows : Rows) (height place : ℕ) (raised : Bool) (heights : List ℕ) → length rows ≤ place
    → RaisedBefore rows height place raised heights → AreHeightsBelow rows (height + 1) heights
raised_all rows height place raised heights all h = record {
  as_many = h.as_many;
  each = λ a n found. let within = slice_get_within heights a n found in h.before a n (omega (arith, h.as_many)) found;
}

pub none_raised : (rows : Rows) (height place : ℕ) (raised : Bool) (heights : List ℕ) → length rows ≤ place
    → RaisedBefore rows height place raised heights → raised ≡ false → (a n : ℕ) → slice_get heights a ≡ Some n → IsHeight (HasEdge rows) a n
none_raised rows height place raised heights all h e a n found =
    let within = slice_get_within heights a n found in
    h.none e a n (omega (arith, h.as_many)) found

-- ---- All rounds.

all_zero : (k i n : ℕ) → slice_get (replicate k 0) i ≡ Some n → n ≡ 0
all_zero zero i n at = absurd cc
all_zero (suc k) zero n at = sym (same_Some 0 n at)
all_zero (suc k) (suc i) n at = all_zero k i n at

length_zeros : (k : ℕ) → length {A = ℕ} (replicate k 0) ≡ k
length_zeros zero = refl
length_zeros (suc k) = ap (λ (n : ℕ). suc n) (length_zeros k)

pub heights_begin : (rows : Rows) → AreHeightsBelow rows 0 (replicate (length rows) 0)
heights_begin rows = record {
  as_many = length_zeros (length rows);
  each = λ i n at.
      let zero_is : n ≡ 0 = all_zero (length rows) i n at in
      subst (λ (k : ℕ). IsHeightBelow (HasEdge rows) 0 i k) (sym zero_is) ((i, refl), λ below. absurd (omega arith));
}

pub are_heights : (rows : Rows) (heights : List ℕ) → IsSquare rows → HasNoRing rows → length heights ≡ length rows
    → ((a n : ℕ) → slice_get heights a ≡ Some n → IsHeight (HasEdge rows) a n) → AreHeights rows heights
are_heights rows heights square no_ring as_many each = record {
  as_many = as_many;
  each = λ a n found.
      let within = slice_get_within heights a n found in
      let here = each a n found in
      (here, climb_is_short rows n a here.0.0 square no_ring (omega arith) here.0.1);
}

pub heights_end : (rows : Rows) (bound : ℕ) (heights : List ℕ) → IsSquare rows → HasNoRing rows → length rows ≤ bound
    → AreHeightsBelow rows bound heights → AreHeights rows heights
heights_end rows bound heights square no_ring all h =
    are_heights rows heights square no_ring h.as_many
    (λ a n found.
    let within = slice_get_within heights a n found in
    let here = h.each a n found in
    let short = climb_is_short rows n a here.0.0 square no_ring (omega (arith, h.as_many)) here.0.1 in
    (here.0, here.1 (omega arith)))
