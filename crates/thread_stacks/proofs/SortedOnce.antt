-- A list that is sorted by numbers which differ rises, and so does what a filter leaves of it. Of lists that rise and have the same items there
-- is one.
use Rattle.std.proofs.Common.{◌≡◌, ℕ, zero, suc, ◌<◌, ◌≤◌, inl, inr, Bool, true, false, List, [], ◌∷◌, length, map, filter, get_or, Contains, refl, sym, ◌∙◌, ap, subst, arith, Some, slice_get, eqb, IsPermutation, eq-or-lt_of_le}
use Rattle.std.specs.List.{IsDistinct}
use Rattle.std.specs.List.Sorted.{IsNonDecreasingBy}
use Rattle.std.proofs.lemmas.Bool.{cases_eq, eq-eqb, ne_eqb}
use Rattle.std.proofs.lemmas.List.{length-map}
use Rattle.std.proofs.lemmas.List.Sorted.{Contains-permutation, IsPermutation-map, IsPermutation-sym}
use Rattle.std.proofs.lemmas.Map.Keys.{IsDistinct-IsPermutation, IsDistinct-from_apart, apart_from_distinct}
use Rattle.std.proofs.lemmas.Option.{get_or_from_slice_get, slice_get_within}
use Rattle.list_lemmas.proofs.ItemsByPlace.{comes_from, item_there, mapped_at}
use Rattle.list_lemmas.proofs.ItemsOfLists.{Contains-at, Contains-cases, Contains-here, Contains-none, Contains-there, place_of}
use Rattle.list_lemmas.proofs.ItemsThatPass.{Contains-filter}
use Rattle.thread_stacks.specs.Places.{AreRisingBy}
use Rattle.thread_stacks.proofs.Filtered.{stood_at}

eqb_flips : (m n : ℕ) → eqb m n ≡ eqb n m
eqb_flips m n = elim (cases_eq m n) [
  | inl same ↦ eq-eqb m n same ∙ sym (eq-eqb n m (sym same))
  | inr other ↦ ne_eqb m n other ∙ sym (ne_eqb n m (λ same. other (sym same)))
]

module _ {X : Type 0} (key : X → ℕ) where
  -- no two places have one number
  abbrev pub Differ : List X → Type 0
  Differ xs = (i j : ℕ) (x y : X) → slice_get xs i ≡ Some x → slice_get xs j ≡ Some y → key x ≡ key y → i ≡ j

  distinct : (xs : List X) → Differ xs → IsDistinct eqb (map key xs)
  distinct xs h =
      IsDistinct-from_apart eqb (map key xs) (λ i j d low within. apart i j d low within)
    where
      apart : (i j d : ℕ) → i < j → j < length (map key xs) → eqb (get_or (map key xs) i d) (get_or (map key xs) j d) ≡ false
      apart i j d low within =
          let a = item_there (map key xs) i (omega (arith, low, within)) in
          let b = item_there (map key xs) j within in
          let x = comes_from key xs i a.0 a.1 in
          let y = comes_from key xs j b.0 b.1 in
          let at_i : get_or (map key xs) i d ≡ key x.from = get_or_from_slice_get (map key xs) i a.0 d a.1 ∙ sym x.gives in
          let at_j : get_or (map key xs) j d ≡ key y.from = get_or_from_slice_get (map key xs) j b.0 d b.1 ∙ sym y.gives in
          rw (at_i, at_j) (ne_eqb (key x.from) (key y.from) (λ same. omega (arith, low, h i j x.from y.from x.there y.there same)))

  -- after a sort
  pub rising_sorted : (xs ys : List X) → IsPermutation xs ys → IsNonDecreasingBy key ys → Differ xs → AreRisingBy key ys
  rising_sorted xs ys p order h i j x y at_i at_j low = elim (eq-or-lt_of_le below) [
    | inl same ↦ absurd (never same)
    | inr less ↦ less
  ]
    where
      within : j < length ys
      within = slice_get_within ys j y at_j

      below : key x ≤ key y
      below =
          subst (λ (z : X). key z ≤ key y) (get_or_from_slice_get ys i x x at_i)
          (subst (λ (z : X). key (get_or ys i x) ≤ key z) (get_or_from_slice_get ys j y x at_j) (order i j x (omega (arith, low)) within))

      other : eqb (get_or (map key ys) i 0) (get_or (map key ys) j 0) ≡ false
      other =
          apart_from_distinct eqb (map key ys) i j 0
          (IsDistinct-IsPermutation eqb eqb_flips (map key xs) (map key ys) (IsPermutation-map key xs ys p) (distinct xs h)) low
          (omega (arith, within, length-map ys key))

      never : key x ≡ key y → ⊥
      never same =
          let at_x = get_or_from_slice_get (map key ys) i (key x) 0 (mapped_at key ys i x at_i) in
          let at_y = get_or_from_slice_get (map key ys) j (key y) 0 (mapped_at key ys j y at_j) in
          let one : eqb (get_or (map key ys) i 0) (get_or (map key ys) j 0) ≡ true =
          eq-eqb (get_or (map key ys) i 0) (get_or (map key ys) j 0) (at_x ∙ same ∙ sym at_y) in
          let no : true ≡ false = sym one ∙ other in
          absurd cc

  above_first : (x : X) (xs : List X) → AreRisingBy key (x ∷ xs) → (z : X) → Contains xs z → key x < key z
  above_first x xs rising z h = let there = place_of xs z h in rising zero (suc there.0) x z refl there.1 (omega arith)

  rest_rises : (x : X) (xs : List X) → AreRisingBy key (x ∷ xs) → AreRisingBy key xs
  rest_rises x xs rising i j a b at_i at_j low = rising (suc i) (suc j) a b at_i at_j (omega (arith, low))

  -- lists that rise and have the same items
  pub same_rising : (xs ys : List X) → AreRisingBy key xs → AreRisingBy key ys → ((z : X) → Contains xs z → Contains ys z)
      → ((z : X) → Contains ys z → Contains xs z) → xs ≡ ys
  same_rising [] [] rx ry to from = refl
  same_rising [] (y ∷ ys) rx ry to from = absurd (Contains-none y (from y (Contains-here y ys)))
  same_rising (x ∷ xs) [] rx ry to from = absurd (Contains-none x (to x (Contains-here x xs)))
  same_rising (x ∷ xs) (y ∷ ys) rx ry to from =
      ap (λ (z : X). z ∷ xs) heads
      ∙ ap (λ (zs : List X). y ∷ zs) (same_rising xs ys (rest_rises x xs rx) (rest_rises y ys ry) later earlier)
    where
      heads : x ≡ y
      heads = elim (Contains-cases x y ys (to x (Contains-here x xs))) [
        | inl same ↦ sym same
        | inr there ↦ elim (Contains-cases y x xs (from y (Contains-here y ys))) [
          | inl same ↦ same
          | inr also ↦ absurd (omega (arith, above_first y ys ry x there, above_first x xs rx y also))
        ]
      ]

      later : (z : X) → Contains xs z → Contains ys z
      later z h = elim (Contains-cases z y ys (to z (Contains-there z x xs h))) [
        | inl same ↦ absurd (omega (arith, above_first x xs rx z h, ap key (heads ∙ same)))
        | inr there ↦ there
      ]

      earlier : (z : X) → Contains ys z → Contains xs z
      earlier z h = elim (Contains-cases z x xs (from z (Contains-there z y ys h))) [
        | inl same ↦ absurd (omega (arith, above_first y ys ry z h, ap key (sym heads ∙ same)))
        | inr there ↦ there
      ]

  -- what passes a test, of a list and of the same one sorted
  pub filter_sorted : (p : X → Bool) (xs ys : List X) → IsPermutation xs ys → AreRisingBy key (filter p ys) → AreRisingBy key (filter p xs)
      → filter p ys ≡ filter p xs
  filter_sorted p xs ys same ry rx = same_rising (filter p ys) (filter p xs) ry rx (λ z h. to z h) (λ z h. from z h)
    where
      to : (z : X) → Contains (filter p ys) z → Contains (filter p xs) z
      to z h =
          let there = place_of (filter p ys) z h in
          let stood = stood_at p ys there.0 z there.1 in
          Contains-filter p xs z (Contains-permutation ys xs z (IsPermutation-sym xs ys same) (Contains-at ys stood.place z stood.there)) stood.passes

      from : (z : X) → Contains (filter p xs) z → Contains (filter p ys) z
      from z h =
          let there = place_of (filter p xs) z h in
          let stood = stood_at p xs there.0 z there.1 in
          Contains-filter p ys z (Contains-permutation xs ys z same (Contains-at xs stood.place z stood.there)) stood.passes
