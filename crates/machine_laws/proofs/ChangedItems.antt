-- Lists of which some items are changed, but nothing that is asked of them: sums, counts and parts come out as before. And lists of which one item
-- is changed: what stands where.
use Rattle.std.proofs.Common.{◌≡◌, ◌≢◌, ℕ, zero, suc, ◌+◌, Bool, true, false, cond, List, [], ◌∷◌, length, map, filter, sum_by, take, set, slice_get, Contains, Some, refl, sym, ap, ◌∙◌, arith}
use Rattle.std.proofs.lemmas.List.Sums.{sum_by-cons, sum_by-set}
use Rattle.list_lemmas.proofs.ItemsOfLists.{Contains-here, Contains-there}
use Rattle.std.proofs.lemmas.Option.{get_or_from_slice_get, same_Some, slice_get_within}

module _ {X : Type 0} (g : X → X) where
  pub sums_stay : (f : X → ℕ) → ((x : X) → f (g x) ≡ f x) → (xs : List X) → sum_by f (map g xs) ≡ sum_by f xs
  sums_stay f h [] = refl
  sums_stay f h (x ∷ xs) =
      sum_by-cons f (g x) (map g xs) ∙ (λ i. h x i + sums_stay f h xs i) ∙ sym (sum_by-cons f x xs)

  pub front_sums_stay : (f : X → ℕ) → ((x : X) → f (g x) ≡ f x) → (i : ℕ) (xs : List X) → sum_by f (take i (map g xs)) ≡ sum_by f (take i xs)
  front_sums_stay f h zero xs = refl
  front_sums_stay f h (suc i) [] = refl
  front_sums_stay f h (suc i) (x ∷ xs) =
      sum_by-cons f (g x) (take i (map g xs)) ∙ (λ j. h x j + front_sums_stay f h i xs j) ∙ sym (sum_by-cons f x (take i xs))

  passes_by : (x y : X) (xs ys : List X) (a b : Bool) → a ≡ b → length xs ≡ length ys → length (cond a (x ∷ xs) xs) ≡ length (cond b (y ∷ ys) ys)
  passes_by x y xs ys true true e h = omega (arith, h)
  passes_by x y xs ys true false e h = absurd cc
  passes_by x y xs ys false true e h = absurd cc
  passes_by x y xs ys false false e h = h

  pub as_many_pass : (test : X → Bool) (xs : List X) → ((x : X) → Contains xs x → test (g x) ≡ test x)
      → length (filter test (map g xs)) ≡ length (filter test xs)
  as_many_pass test [] h = refl
  as_many_pass test (x ∷ xs) h =
      passes_by (g x) x (filter test (map g xs)) (filter test xs) (test (g x)) (test x) (h x (Contains-here x xs))
      (as_many_pass test xs (λ y later. h y (Contains-there y x xs later)))

  pub as_many : (xs : List X) → length (map g xs) ≡ length xs
  as_many [] = refl
  as_many (x ∷ xs) = let rest = as_many xs in omega (arith, rest)

  pub parts_stay : {Y : Type 0} (part : X → Y) → ((x : X) → part (g x) ≡ part x) → (xs : List X) → map part (map g xs) ≡ map part xs
  parts_stay part h [] = refl
  parts_stay part h (x ∷ xs) = λ i. h x i ∷ parts_stay part h xs i

  -- ---- One item alone is changed.

  pub none_changed : (xs : List X) → ((i : ℕ) (x : X) → slice_get xs i ≡ Some x → g x ≡ x) → map g xs ≡ xs
  none_changed [] h = refl
  none_changed (x ∷ xs) h = λ i. h 0 x refl i ∷ none_changed xs (λ j y at. h (suc j) y at) i

  pub one_changed : (xs : List X) (k : ℕ) (x : X) → slice_get xs k ≡ Some x
      → ((i : ℕ) (y : X) → i ≢ k → slice_get xs i ≡ Some y → g y ≡ y) → map g xs ≡ set xs k (g x)
  one_changed [] k x at h = absurd cc
  one_changed (y ∷ xs) zero x at h =
      λ i. g (same_Some y x at i) ∷ none_changed xs (λ j z there. h (suc j) z (λ same. absurd cc) there) i
  one_changed (y ∷ xs) (suc k) x at h =
      λ i. h 0 y (λ same. absurd cc) refl i
      ∷ one_changed xs k x at (λ j z differ there. h (suc j) z (λ same. differ (omega arith)) there) i

pub sum_changed : {X : Type 0} (f : X → ℕ) (xs : List X) (k : ℕ) (old new : X) → slice_get xs k ≡ Some old
    → sum_by f (set xs k new) + f old ≡ sum_by f xs + f new
sum_changed f xs k old new at =
    let stood = ap f (get_or_from_slice_get xs k old old at) in
    let all = sum_by-set f xs k new old (slice_get_within xs k old at) in
    omega (arith, stood, all)
