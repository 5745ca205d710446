-- Lists of different items that have the same items are permutations of each other; and what differs by a key still does
-- after a permutation.
use Rattle.std.proofs.Common.{◌≡◌, ℕ, zero, suc, ◌<◌, ◌≤◌, ◌⊎◌, inl, inr, Bool, true, false, true≢false, List, [], ◌∷◌, ◌++◌, length, map, refl, sym, ◌∙◌, ap, subst, arith, Some, slice_get, get_or}
use Rattle.std.specs.Prelude.{Contains, IsPermutation}
use Rattle.std.specs.List.{IsDistinct}
use Rattle.std.proofs.lemmas.Bool.{cases_lt}
use Rattle.std.proofs.lemmas.List.{length-map}
use Rattle.std.proofs.lemmas.List.Elements.{Contains-append_left, Contains-append_right, Contains-append_cases}
use Rattle.std.proofs.lemmas.List.Sorted.{IsPermutation-refl, IsPermutation-sym, IsPermutation-cons, IsPermutation-middle, IsPermutation-trans, IsPermutation-map}
use Rattle.std.proofs.lemmas.Map.Keys.{apart_from_distinct, IsDistinct-from_apart, IsDistinct-IsPermutation}
use Rattle.std.proofs.lemmas.Option.{slice_get_within, get_or_from_slice_get, same_Some}
use Rattle.list_lemmas.proofs.ItemsOfLists.{Contains-here, Contains-none, Contains-at}
use Rattle.list_lemmas.proofs.ItemsByPlace.{mapped_at}
use Rattle.class_init.proofs.PlacesInLists.{stands_at}

module _ {X : Type 0} where
  -- an item of a list is its first, or one of the others
  pub first_or_other : (x : X) (xs : List X) (y : X) → Contains (x ∷ xs) y → (x ≡ y) ⊎ Contains xs y
  first_or_other x xs y has = by_place (stands_at (x ∷ xs) y has).place (stands_at (x ∷ xs) y has).there
    where
      by_place : (k : ℕ) → slice_get (x ∷ xs) k ≡ Some y → (x ≡ y) ⊎ Contains xs y
      by_place zero at = inl (same_Some x y at)
      by_place (suc k) at = inr (Contains-at xs k y at)

  pub an_other : (x : X) (xs : List X) (y : X) → Contains xs y → Contains (x ∷ xs) y
  an_other x xs y has = Contains-append_right (x ∷ []) xs y has

  -- no two items are equal
  abbrev pub AllDiffer : List X → Type 0
  AllDiffer [] = Unit {0}
  AllDiffer (x ∷ xs) = (Contains xs x → ⊥) × AllDiffer xs

  pub all_differ : (xs : List X) → ((i j : ℕ) (x : X) → slice_get xs i ≡ Some x → slice_get xs j ≡ Some x → i ≡ j) → AllDiffer xs
  all_differ [] h = tt
  all_differ (x ∷ xs) h = (
    λ has. (let s = stands_at xs x has in let e : 0 ≡ suc s.place = h 0 (suc s.place) x refl s.there in omega (arith, e)),
    all_differ xs (λ i j y p q. let e : suc i ≡ suc j = h (suc i) (suc j) y p q in omega (arith, e)),
  )

  -- an item of a list, with what stands before and after it
  pub record Parted (xs : List X) (x : X) : Type 0 where
    pub front : List X
    pub back : List X
    pub is : xs ≡ front ++ x ∷ back

  parted : (xs : List X) (k : ℕ) (x : X) → slice_get xs k ≡ Some x → Parted xs x
  parted [] k x at = cc
  parted (y ∷ xs) zero x at = record { front = []; back = xs; is = ap (λ z. z ∷ xs) (same_Some y x at) }
  parted (y ∷ xs) (suc k) x at = let p = parted xs k x at in record { front = y ∷ p.front; back = p.back; is = ap (λ (zs : List X). y ∷ zs) p.is }

  with_middle : (front : List X) (x : X) (back : List X) (y : X) → Contains (front ++ back) y → Contains (front ++ x ∷ back) y
  with_middle front x back y has = by_side (Contains-append_cases front back y has)
    where
      by_side : Contains front y ⊎ Contains back y → Contains (front ++ x ∷ back) y
      by_side (inl h) = Contains-append_left front (x ∷ back) y h
      by_side (inr h) = Contains-append_right front (x ∷ back) y (an_other x back y h)

  pub without_middle : (front : List X) (x : X) (back : List X) (y : X) → Contains (front ++ x ∷ back) y → (x ≡ y → ⊥) → Contains (front ++ back) y
  without_middle front x back y has other = by_side (Contains-append_cases front (x ∷ back) y has)
    where
      by_first : (x ≡ y) ⊎ Contains back y → Contains (front ++ back) y
      by_first (inl e) = absurd (other e)
      by_first (inr h) = Contains-append_right front back y h

      by_side : Contains front y ⊎ Contains (x ∷ back) y → Contains (front ++ back) y
      by_side (inl h) = Contains-append_left front back y h
      by_side (inr h) = by_first (first_or_other x back y h)

  -- what is left without the middle still differs, and hasn't it
  middle_out : (front : List X) (x : X) (back : List X) → AllDiffer (front ++ x ∷ back) → (Contains (front ++ back) x → ⊥) × AllDiffer (front ++ back)
  middle_out [] x back h = h
  middle_out (y ∷ front) x back h =
      let rest = middle_out front x back h.1 in (
        λ has. by_first (first_or_other y (front ++ back) x has) rest.0,
        (λ has. h.0 (with_middle front x back y has), rest.1),
      )
    where
      by_first : (y ≡ x) ⊎ Contains (front ++ back) x → (Contains (front ++ back) x → ⊥) → ⊥
      by_first (inl e) absent = h.0 (rw e (Contains-append_right front (x ∷ back) x (Contains-here x back)))
      by_first (inr has) absent = absent has

  pub permuted : (xs ys : List X) → AllDiffer xs → AllDiffer ys → ((x : X) → Contains xs x → Contains ys x) → ((x : X) → Contains ys x → Contains xs x)
      → IsPermutation xs ys
  permuted [] [] a b there back = IsPermutation-refl []
  permuted [] (y ∷ ys) a b there back = absurd (Contains-none y (back y (Contains-here y ys)))
  permuted (x ∷ xs) ys a b there back =
      let s = stands_at ys x (there x (Contains-here x xs)) in
      let p = parted ys s.place x s.there in
      let differ : AllDiffer (p.front ++ x ∷ p.back) = rw p.is at b in
      let out = middle_out p.front x p.back differ in
      let rest = permuted xs (p.front ++ p.back) a.1 out.1
      (λ y has. without_middle p.front x p.back y (rw p.is at (there y (an_other x xs y has))) (λ e. a.0 (subst (Contains xs) (sym e) has)))
      (λ y has.
      by_first y (first_or_other x xs y (back y (rw p.is (with_middle p.front x p.back y has))))
      (λ e. out.0 (subst (Contains (p.front ++ p.back)) (sym e) has))) in
      let begins = IsPermutation-cons x xs (p.front ++ p.back) rest in
      let moved = IsPermutation-trans _ _ _ begins (IsPermutation-sym _ _ (IsPermutation-middle p.front x p.back)) in
      rw p.is moved
    where
      by_first : (y : X) → (x ≡ y) ⊎ Contains xs y → (x ≡ y → ⊥) → Contains xs y
      by_first y (inl e) other = absurd (other e)
      by_first y (inr has) other = has

module _ {X K : Type 0} (key : X → K) (eq : K → K → Bool) (yes : (a b : K) → eq a b ≡ true → a ≡ b) (same : (a b : K) → a ≡ b → eq a b ≡ true) where
  abbrev pub DifferBy : List X → Type 0
  DifferBy xs = (i j : ℕ) (a b : X) → slice_get xs i ≡ Some a → slice_get xs j ≡ Some b → key a ≡ key b → i ≡ j

  record ItemAt (xs : List X) (i : ℕ) : Type 0 where
    item : X
    there : slice_get xs i ≡ Some item

  item_at : (xs : List X) (i : ℕ) → i < length xs → ItemAt xs i
  item_at [] i low = absurd (omega (arith, low))
  item_at (x ∷ xs) zero low = record { item = x; there = refl }
  item_at (x ∷ xs) (suc i) low = let a = item_at xs i (omega (arith, low)) in record { item = a.item; there = a.there }

  no_from : (a b : K) → (a ≡ b → ⊥) → eq a b ≡ false
  no_from a b other = by_test (eq a b) refl
    where
      by_test : (t : Bool) → eq a b ≡ t → eq a b ≡ false
      by_test true e = absurd (other (yes a b e))
      by_test false e = e

  flips : (a b : K) → eq a b ≡ eq b a
  flips a b = by_tests (eq a b) (eq b a) refl refl
    where
      by_tests : (s t : Bool) → eq a b ≡ s → eq b a ≡ t → eq a b ≡ eq b a
      by_tests true true p q = p ∙ sym q
      by_tests false false p q = p ∙ sym q
      by_tests true false p q = absurd (true≢false (sym (same b a (sym (yes a b p))) ∙ q))
      by_tests false true p q = absurd (true≢false (sym (same a b (sym (yes b a q))) ∙ p))

  to_distinct : (xs : List X) → DifferBy xs → IsDistinct eq (map key xs)
  to_distinct xs h = IsDistinct-from_apart eq (map key xs) apart
    where
      apart : (i j : ℕ) (d : K) → i < j → j < length (map key xs) → eq (get_or (map key xs) i d) (get_or (map key xs) j d) ≡ false
      apart i j d low high =
          let two : j < length xs = rw length-map at high in
          let a = item_at xs i (omega (arith, low, two)) in
          let b = item_at xs j two in
          let p : get_or (map key xs) i d ≡ key a.item = get_or_from_slice_get (map key xs) i (key a.item) d (mapped_at key xs i a.item a.there) in
          let q : get_or (map key xs) j d ≡ key b.item = get_or_from_slice_get (map key xs) j (key b.item) d (mapped_at key xs j b.item b.there) in
          rw (p, q) (no_from (key a.item) (key b.item) (λ e. (let here : i ≡ j = h i j a.item b.item a.there b.there e in omega (arith, here, low))))

  from_distinct : (xs : List X) → IsDistinct eq (map key xs) → DifferBy xs
  from_distinct xs h i j a b p q e = by_order (cases_lt i j) (cases_lt j i)
    where
      apart : (i j : ℕ) (a b : X) → slice_get xs i ≡ Some a → slice_get xs j ≡ Some b → key a ≡ key b → i < j → ⊥
      apart i j a b p q e low =
          let high : j < length (map key xs) = rw length-map (slice_get_within xs j b q) in
          let one : get_or (map key xs) i (key a) ≡ key a = get_or_from_slice_get (map key xs) i (key a) (key a) (mapped_at key xs i a p) in
          let two : get_or (map key xs) j (key a) ≡ key b = get_or_from_slice_get (map key xs) j (key b) (key a) (mapped_at key xs j b q) in
          let no : eq (get_or (map key xs) i (key a)) (get_or (map key xs) j (key a)) ≡ false =
          apart_from_distinct eq (map key xs) i j (key a) h low high in
          let false_too : eq (key a) (key b) ≡ false = rw (one, two) at no in
          true≢false (sym (same (key a) (key b) e) ∙ false_too)

      by_order : (i < j) ⊎ (j ≤ i) → (j < i) ⊎ (i ≤ j) → i ≡ j
      by_order (inl low) r = absurd (apart i j a b p q e low)
      by_order (inr low) (inl high) = absurd (apart j i b a q p (sym e) high)
      by_order (inr low) (inr high) = omega (arith, low, high)

  pub still_differ : (xs ys : List X) → IsPermutation xs ys → DifferBy xs → DifferBy ys
  still_differ xs ys p h =
      from_distinct ys (IsDistinct-IsPermutation eq flips (map key xs) (map key ys) (IsPermutation-map key xs ys p) (to_distinct xs h))
