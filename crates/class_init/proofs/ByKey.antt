-- Items that have numbers, which differ: the one with a number is found, and can be changed alone.
use Rattle.std.proofs.Common.{◌≡◌, ℕ, zero, suc, Bool, true, false, true≢false, List, [], ◌∷◌, map, set, find, refl, sym, ◌∙◌, ap, arith, Some, None, slice_get, nat_eq}
use Rattle.std.specs.Prelude.{◌==◌, if◌then◌else◌}
use Rattle.std.specs.List.{list_any}
use Rattle.std.proofs.lemmas.Bool.{eqb-true, eq-eqb, ne_eqb}
use Rattle.std.proofs.lemmas.Option.{same_Some}

module _ {X : Type 0} (key : X → ℕ) where
  -- no two items have one number
  abbrev pub Differ : List X → Type 0
  Differ xs = (i j : ℕ) (a b : X) → slice_get xs i ≡ Some a → slice_get xs j ≡ Some b → key a ≡ key b → i ≡ j

  -- no item has the number
  abbrev pub Lacks : List X → ℕ → Type 0
  Lacks xs k = (j : ℕ) (y : X) → slice_get xs j ≡ Some y → key y ≡ k → ⊥

  abbrev has_key : ℕ → X → Bool
  has_key k e = key e == k

  abbrev changed : (X → X) → ℕ → X → X
  changed f k e = if key e == k then f e else e

  differ_tail : (x : X) (xs : List X) → Differ (x ∷ xs) → Differ xs
  differ_tail x xs d i j a b p q e = let s : suc i ≡ suc j = d (suc i) (suc j) a b p q e in omega (arith, s)

  differ_head : (x : X) (xs : List X) (k : ℕ) → Differ (x ∷ xs) → key x ≡ k → Lacks xs k
  differ_head x xs k d is j y at same = let s : zero ≡ suc j = d zero (suc j) x y refl at (is ∙ sym same) in omega (arith, s)

  lacks_tail : (x : X) (xs : List X) (k : ℕ) → Lacks (x ∷ xs) k → Lacks xs k
  lacks_tail x xs k h j y at same = h (suc j) y at same

  -- ---- What is found.

  pub found_none : (xs : List X) (k : ℕ) → Lacks xs k → find (has_key k) xs ≡ None
  found_none [] k h = refl
  found_none (x ∷ xs) k h =
      let no : key x == k ≡ false = ne_eqb (key x) k (h zero x refl) in rw no (found_none xs k (lacks_tail x xs k h))

  pub none_lacks : (xs : List X) (k : ℕ) → find (has_key k) xs ≡ None → Lacks xs k
  none_lacks [] k e j y at same = cc
  none_lacks (x ∷ xs) k e j y at same = by_test (key x == k) refl (λ t i there. none_lacks xs k (rw t at e) i y there same) j at
    where
      by_test : (b : Bool) → key x == k ≡ b → (key x == k ≡ false → (i : ℕ) → slice_get xs i ≡ Some y → ⊥) → (j : ℕ) → slice_get (x ∷ xs) j ≡ Some y → ⊥
      by_test true t later j at = let s : Some x ≡ None = rw t at e in cc
      by_test false t later zero at =
          let here : x ≡ y = same_Some x y at in
          true≢false (sym (eq-eqb (key x) k (ap key here ∙ same)) ∙ t)
      by_test false t later (suc j) at = later t j at

  pub found_at : (xs : List X) (i k : ℕ) (x : X) → Differ xs → slice_get xs i ≡ Some x → key x ≡ k → find (has_key k) xs ≡ Some x
  found_at [] i k x d at is = cc
  found_at (y ∷ xs) zero k x d at is =
      let here : y ≡ x = same_Some y x at in
      let yes : key y == k ≡ true = eq-eqb (key y) k (ap key here ∙ is) in rw yes (ap Some here)
  found_at (y ∷ xs) (suc i) k x d at is =
      let no : key y == k ≡ false = ne_eqb (key y) k (λ s. differ_head y xs k d s i x at is) in
      rw no (found_at xs i k x (differ_tail y xs d) at is)

  -- where an item that was found stands
  pub record Found (xs : List X) (k : ℕ) (x : X) : Type 0 where
    pub place : ℕ
    pub there : slice_get xs place ≡ Some x
    pub is : key x ≡ k

  pub found_stands : (xs : List X) (k : ℕ) (x : X) → find (has_key k) xs ≡ Some x → Found xs k x
  found_stands [] k x e = cc
  found_stands (y ∷ xs) k x e = by_test (key y == k) refl (λ t. found_stands xs k x (rw t at e))
    where
      by_test : (b : Bool) → key y == k ≡ b → (key y == k ≡ false → Found xs k x) → Found (y ∷ xs) k x
      by_test true t later =
          let s : Some y ≡ Some x = rw t at e in
          let same : y ≡ x = same_Some y x s in
          record { place = zero; there = s; is = ap key (sym same) ∙ eqb-true (key y) k t }
      by_test false t later =
          let f = later t in record { place = suc f.place; there = f.there; is = f.is }

  -- a search among the numbers
  pub none_among : (xs : List X) (k : ℕ) → list_any (nat_eq k) (map key xs) ≡ false → find (has_key k) xs ≡ None
  none_among [] k e = refl
  none_among (x ∷ xs) k e = by_test (nat_eq k (key x)) refl (λ t. none_among xs k (rw t at e))
    where
      by_test : (b : Bool) → nat_eq k (key x) ≡ b → (nat_eq k (key x) ≡ false → find (has_key k) xs ≡ None) → find (has_key k) (x ∷ xs) ≡ None
      by_test true t later = let s : true ≡ false = rw t at e in absurd (true≢false s)
      by_test false t later =
          let no : key x == k ≡ false = ne_eqb (key x) k (λ s. true≢false (sym (eq-eqb k (key x) (sym s)) ∙ t)) in
          rw no (later t)

  -- ---- One item is changed.

  pub unchanged : (f : X → X) (xs : List X) (k : ℕ) → Lacks xs k → map (changed f k) xs ≡ xs
  unchanged f [] k h = refl
  unchanged f (x ∷ xs) k h =
      let no : key x == k ≡ false = ne_eqb (key x) k (h zero x refl) in
      rw no (ap (λ (ys : List X). x ∷ ys) (unchanged f xs k (lacks_tail x xs k h)))

  pub changed_at : (f : X → X) (xs : List X) (i k : ℕ) (x : X) → Differ xs → slice_get xs i ≡ Some x → key x ≡ k → map (changed f k) xs ≡ set xs i (f x)
  changed_at f [] i k x d at is = cc
  changed_at f (y ∷ xs) zero k x d at is =
      let here : y ≡ x = same_Some y x at in
      let yes : key y == k ≡ true = eq-eqb (key y) k (ap key here ∙ is) in
      let rest = unchanged f xs k (differ_head y xs k d (ap key here ∙ is)) in
      rw (yes, here, rest) refl
  changed_at f (y ∷ xs) (suc i) k x d at is =
      let no : key y == k ≡ false = ne_eqb (key y) k (λ s. differ_head y xs k d s i x at is) in
      rw no (ap (λ (ys : List X). y ∷ ys) (changed_at f xs i k x (differ_tail y xs d) at is))
