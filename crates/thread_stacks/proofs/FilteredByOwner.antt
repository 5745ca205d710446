-- What is made of items whose numbers rise, in one list: what of it is of one item is what was made of that.
use Rattle.std.proofs.Common.{◌≡◌, ◌≢◌, ℕ, zero, suc, Bool, true, List, [], ◌∷◌, ◌++◌, filter, flat_map, Contains, refl, sym, ◌∙◌, ap, arith, Some, slice_get}
use Rattle.std.specs.Prelude.{◌==◌}
use Rattle.std.proofs.lemmas.Bool.{eq-eqb, ne_eqb}
use Rattle.std.proofs.lemmas.List.{append-nil}
use Rattle.std.proofs.lemmas.List.Elements.{filter-append}
use Rattle.std.proofs.lemmas.Option.{same_Some}
use Rattle.list_lemmas.proofs.ItemsOfLists.{Contains-at}
use Rattle.thread_stacks.specs.Places.{AreRisingBy}
use Rattle.thread_stacks.proofs.Filtered.{all_fail, filter_hit}

module _ {Y : Type 0} (p : Y → Bool) where
  pub all_pass : (ys : List Y) → ((k : ℕ) (y : Y) → slice_get ys k ≡ Some y → p y ≡ true) → filter p ys ≡ ys
  all_pass [] h = refl
  all_pass (y ∷ ys) h = filter_hit p y ys (h zero y refl) ∙ ap (λ (zs : List Y). y ∷ zs) (all_pass ys (λ k z at. h (suc k) z at))

module _ {X Y : Type 0} (own : Y → ℕ) (key : X → ℕ) (f : X → List Y) (home : (x : X) (y : Y) → Contains (f x) y → own y ≡ key x) where
  abbrev is_of : ℕ → Y → Bool
  is_of n y = own y == n

  all_here : (x : X) (n : ℕ) → key x ≡ n → filter (is_of n) (f x) ≡ f x
  all_here x n is =
      all_pass (is_of n) (f x) (λ k y at. eq-eqb (own y) n (home x y (Contains-at (f x) k y at) ∙ is))

  none_here : (x : X) (n : ℕ) → key x ≢ n → filter (is_of n) (f x) ≡ []
  none_here x n other =
      all_fail (is_of n) (f x) (λ k y at. ne_eqb (own y) n (λ same. other (sym (home x y (Contains-at (f x) k y at)) ∙ same)))

  pub made_of_none : (xs : List X) (n : ℕ) → ((k : ℕ) (x : X) → slice_get xs k ≡ Some x → key x ≢ n) → filter (is_of n) (flat_map f xs) ≡ []
  made_of_none [] n h = refl
  made_of_none (x ∷ xs) n h =
      filter-append (is_of n) (f x) (flat_map f xs)
      ∙ ap (λ (ys : List Y). ys ++ filter (is_of n) (flat_map f xs)) (none_here x n (h zero x refl))
      ∙ made_of_none xs n (λ k y at. h (suc k) y at)

  pub made_of_one : (xs : List X) (i : ℕ) (x : X) → AreRisingBy key xs → slice_get xs i ≡ Some x → filter (is_of (key x)) (flat_map f xs) ≡ f x
  made_of_one [] i x rising at = absurd cc
  made_of_one (z ∷ xs) zero x rising at =
      let same : z ≡ x = same_Some z x at in
      filter-append (is_of (key x)) (f z) (flat_map f xs)
      ∙ ap (λ (ys : List Y). ys ++ filter (is_of (key x)) (flat_map f xs)) (all_here z (key x) (ap key same))
      ∙ ap (λ (ys : List Y). f z ++ ys)
      (made_of_none xs (key x) (λ k y there equal. omega (arith, rising zero (suc k) z y refl there (omega arith), ap key same, equal)))
      ∙ append-nil (f z)
      ∙ ap f same
  made_of_one (z ∷ xs) (suc i) x rising at =
      filter-append (is_of (key x)) (f z) (flat_map f xs)
      ∙ ap (λ (ys : List Y). ys ++ filter (is_of (key x)) (flat_map f xs))
      (none_here z (key x) (λ equal. omega (arith, rising zero (suc i) z x refl at (omega arith), equal)))
      ∙ made_of_one xs i x (λ a b y w at_a at_b low. rising (suc a) (suc b) y w at_a at_b (omega (arith, low))) at
