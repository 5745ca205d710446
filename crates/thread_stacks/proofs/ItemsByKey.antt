-- In a list whose items have numbers that rise, a search by a number finds the one item that has it.
use Rattle.std.proofs.Common.{◌≡◌, ℕ, zero, suc, ◌+◌, ◌<◌, ◌≤◌, ◌⊎◌, inl, inr, false, List, [], ◌∷◌, ◌++◌, length, set, find, refl, sym, ◌∙◌, ap, arith, Some, None, Result, Ok, Err, slice_get, get_or}
use Rattle.std.specs.Cmp.{nat_cmp_is}
use Rattle.std.specs.Result.{result_ok}
use Rattle.std.specs.Ordering.{nat_cmp, ordering_index, is_lt}
use Rattle.std.specs.declared.cmp.Ordering.TheVariants.{Less, Equal, Greater}
use Rattle.std.specs.List.Sorted.{IsSortedByKey, IsNonDecreasingBy, IsBinarySearchResult, IsSearchInRange}
use Rattle.std.proofs.lemmas.Bool.{cases_lt, eq-eqb, ne_eqb}
use Rattle.std.proofs.lemmas.Cmp.{nat_cmp_total, tied_itself}
use Rattle.std.proofs.lemmas.List.Sorted.{searchable_from_sorted}
use Rattle.std.proofs.lemmas.Map.Lookups.{exact_unsigned}
use Rattle.std.proofs.lemmas.Option.{slice_get_within, slice_get-get_or, get_or_from_slice_get, same_Some}
use Rattle.list_lemmas.proofs.ItemsByPlace.{item_there, old_or_last, slice_get-set_cases}
use Rattle.thread_stacks.specs.Places.{AreRisingBy, IsOnlyAt, IsPlaceOf, has_key}

module _ {X : Type 0} (key : X → ℕ) where
  -- no item has the number
  abbrev pub Lacks : List X → ℕ → Type 0
  Lacks xs k = (j : ℕ) (y : X) → slice_get xs j ≡ Some y → key y ≡ k → ⊥

  pub found_none : (xs : List X) (k : ℕ) → Lacks xs k → find (has_key key k) xs ≡ None
  found_none [] k h = refl
  found_none (x ∷ xs) k h =
      let miss : has_key key k x ≡ false = ne_eqb (key x) k (h zero x refl) in
      rw miss (found_none xs k (λ j y at same. h (suc j) y at same))

  pub rising_tail : (x : X) (xs : List X) → AreRisingBy key (x ∷ xs) → AreRisingBy key xs
  rising_tail x xs h i j a b p q low = h (suc i) (suc j) a b p q (omega arith)

  pub only_at : (xs : List X) (i k : ℕ) (x : X) → AreRisingBy key xs → slice_get xs i ≡ Some x → key x ≡ k → IsOnlyAt (has_key key k) xs i
  only_at [] i k x h at is = absurd cc
  only_at (y ∷ xs) zero k x h at is =
      let here : key y ≡ k = ap key (same_Some y x at) ∙ is in (
        eq-eqb (key y) k here,
        found_none xs k (λ j z there same. omega (arith, h zero (suc j) y z refl there (omega arith), here, same)),
      )
  only_at (y ∷ xs) (suc i) k x h at is = (
    ne_eqb (key y) k (λ e. omega (arith, h zero (suc i) y x refl at (omega arith), e, is)),
    only_at xs i k x (rising_tail y xs h) at is,
  )

  in_order : (xs : List X) → AreRisingBy key xs → IsSortedByKey key nat_cmp xs
  in_order xs h = λ k d low high.
      let one : slice_get xs k ≡ Some (get_or xs k d) = slice_get-get_or xs k d (omega (arith, high)) in
      let two : slice_get xs (k + 1) ≡ Some (get_or xs (k + 1) d) = slice_get-get_or xs (k + 1) d high in
      let less = h k (k + 1) (get_or xs k d) (get_or xs (k + 1) d) one two (omega arith) in
      ap is_lt (sym (nat_cmp_is (key (get_or xs (k + 1) d)) (key (get_or xs k d)) Greater less))

  pub says_place : (xs : List X) (k : ℕ) (r : Result ℕ ℕ) → AreRisingBy key xs → IsSearchInRange r (length xs)
      → IsBinarySearchResult (λ (x : X). nat_cmp (key x) k) xs r
      → IsPlaceOf (has_key key k) xs (result_ok r)
  says_place xs k (Ok i) rising range found =
      let (x, at) = item_there xs i range in
      let here : get_or xs i x ≡ x = get_or_from_slice_get xs i x x at in
      only_at xs i k x rising at (ap key (sym here) ∙ exact_unsigned (key (get_or xs i x)) k (found x))
  says_place xs k (Err i) rising range found = found_none xs k (λ j s at same. by_order j s at same (cases_lt j i))
    where
      by_order : (j : ℕ) (s : X) → slice_get xs j ≡ Some s → key s ≡ k → (j < i) ⊎ (i ≤ j) → ⊥
      by_order j s at same c =
          let up = searchable_from_sorted nat_cmp_total key xs k (in_order xs rising) in
          let here : get_or xs j s ≡ s = get_or_from_slice_get xs j s s at in
          let tie : nat_cmp (key s) k ≡ Equal = rw same (tied_itself nat_cmp_total k) in
          by_side up here tie c
        where
          by_side : IsNonDecreasingBy (λ (y : X). ordering_index (nat_cmp (key y) k)) xs → get_or xs j s ≡ s → nat_cmp (key s) k ≡ Equal
              → (j < i) ⊎ (i ≤ j) → ⊥
          by_side up here tie (inl early) =
              let less : nat_cmp (key (get_or xs j s)) k ≡ Less = (found up).0 j s (omega arith) early in
              let both : Less ≡ Equal = sym less ∙ ap (λ (y : X). nat_cmp (key y) k) here ∙ tie in cc
          by_side up here tie (inr late) =
              let more : nat_cmp (key (get_or xs j s)) k ≡ Greater = (found up).1 j s late (slice_get_within xs j s at) in
              let both : Greater ≡ Equal = sym more ∙ ap (λ (y : X). nat_cmp (key y) k) here ∙ tie in cc

  -- ---- Changes that keep the order.

  pub rising_set : (xs : List X) (i : ℕ) (x new : X) → AreRisingBy key xs → slice_get xs i ≡ Some x → key new ≡ key x → AreRisingBy key (set xs i new)
  rising_set xs i x new h at same j k a b p q low = by_places (slice_get-set_cases xs i j new a p) (slice_get-set_cases xs i k new b q)
    where
      by_places : ((i ≡ j) × (new ≡ a)) ⊎ (slice_get xs j ≡ Some a) → ((i ≡ k) × (new ≡ b)) ⊎ (slice_get xs k ≡ Some b) → key a < key b
      by_places (inl u) (inl v) = absurd (omega (arith, u.0, v.0, low))
      by_places (inl u) (inr v) = omega (arith, h i k x b at v (omega (arith, u.0, low)), same, ap key (u.1))
      by_places (inr u) (inl v) = omega (arith, h j i a x u at (omega (arith, v.0, low)), same, ap key (v.1))
      by_places (inr u) (inr v) = h j k a b u v low

  pub rising_push : (xs : List X) (new : X) → AreRisingBy key xs → ((i : ℕ) (x : X) → slice_get xs i ≡ Some x → key x < key new)
      → AreRisingBy key (xs ++ new ∷ [])
  rising_push xs new h below j k a b p q low = by_places (old_or_last xs new j a p) (old_or_last xs new k b q)
    where
      by_places : ((j < length xs) × (slice_get xs j ≡ Some a)) ⊎ ((j ≡ length xs) × (a ≡ new))
          → ((k < length xs) × (slice_get xs k ≡ Some b)) ⊎ ((k ≡ length xs) × (b ≡ new)) → key a < key b
      by_places (inl u) (inl v) = h j k a b u.1 v.1 low
      by_places (inl u) (inr v) = omega (arith, below j a u.1, ap key v.1)
      by_places (inr u) (inl v) = absurd (omega (arith, u.0, v.0, low))
      by_places (inr u) (inr v) = absurd (omega (arith, u.0, v.0, low))

  -- the number of the item at a place, or of one that stands for all others, doesn't fall
  pub non_decreasing : (xs : List X) → AreRisingBy key xs → IsNonDecreasingBy key xs
  non_decreasing xs h i j d le low =
      let one : slice_get xs i ≡ Some (get_or xs i d) = slice_get-get_or xs i d (omega arith) in
      let two : slice_get xs j ≡ Some (get_or xs j d) = slice_get-get_or xs j d low in
      elim (cases_lt i j) [
        | inl lt ↦ omega (arith, h i j (get_or xs i d) (get_or xs j d) one two lt)
        | inr ge ↦
            let place : i ≡ j = omega (arith, le, ge) in
            let same : key (get_or xs i d) ≡ key (get_or xs j d) = ap (λ k. key (get_or xs k d)) place in
            omega (arith, same)
      ]
