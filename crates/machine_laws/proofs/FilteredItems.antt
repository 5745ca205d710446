-- The items of a list that pass a test: where they stood, in which order, and what they come to together.
use Rattle.std.proofs.Common.{◌≡◌, ℕ, zero, suc, ◌<◌, ◌≤◌, inl, inr, Bool, true, false, cond, List, [], ◌∷◌, length, filter, find, sum_by, Contains, Some, slice_get, refl, ap, subst, ◌∙◌, arith}
use Rattle.std.proofs.lemmas.List.Sums.{sum_by-cons}
use Rattle.list_lemmas.proofs.ItemsOfLists.{Contains-cases, Contains-here, Contains-none, Contains-there}

module _ {X : Type 0} (p : X → Bool) where
  -- ---- One of them.

  from_by : (b : Bool) (y : X) (rest xs : List X) (x : X) → (Contains rest x → Contains xs x) → Contains (cond b (y ∷ rest) rest) x
      → Contains (y ∷ xs) x
  from_by true y rest xs x later has = elim (Contains-cases x y rest has) [
    | inl same ↦ subst (Contains (y ∷ xs)) same (Contains-here y xs)
    | inr on ↦ Contains-there x y xs (later on)
  ]
  from_by false y rest xs x later has = Contains-there x y xs (later has)

  pub filtered_from : (xs : List X) (x : X) → Contains (filter p xs) x → Contains xs x
  filtered_from [] x has = has
  filtered_from (y ∷ xs) x has = from_by (p y) y (filter p xs) xs x (filtered_from xs x) has

  passed_by : (b : Bool) (y : X) (rest : List X) (x : X) → p y ≡ b → (Contains rest x → p x ≡ true) → Contains (cond b (y ∷ rest) rest) x
      → p x ≡ true
  passed_by true y rest x e later has = elim (Contains-cases x y rest has) [
    | inl same ↦ subst (λ (z : X). p z ≡ true) same e
    | inr on ↦ later on
  ]
  passed_by false y rest x e later has = later has

  pub filtered_passes : (xs : List X) (x : X) → Contains (filter p xs) x → p x ≡ true
  filtered_passes [] x has = absurd (Contains-none x has)
  filtered_passes (y ∷ xs) x has = passed_by (p y) y (filter p xs) x refl (filtered_passes xs x) has

  -- ---- How many, and what they come to.

  fewer_by : (b c : Bool) (y : X) (rest xs : List X) (q : X → Bool) → q y ≡ c → length (filter q rest) ≤ length (filter q xs)
      → length (filter q (cond b (y ∷ rest) rest)) ≤ length (cond c (y ∷ filter q xs) (filter q xs))
  fewer_by true c y rest xs q e h = both c (q y) e
    where
      both : (c d : Bool) → d ≡ c → length (cond d (y ∷ filter q rest) (filter q rest)) ≤ length (cond c (y ∷ filter q xs) (filter q xs))
      both true true e = omega (arith, h)
      both true false e = absurd cc
      both false true e = absurd cc
      both false false e = h
  fewer_by false true y rest xs q e h = omega (arith, h)
  fewer_by false false y rest xs q e h = h

  pub fewer_pass : (q : X → Bool) (xs : List X) → length (filter q (filter p xs)) ≤ length (filter q xs)
  fewer_pass q [] = omega arith
  fewer_pass q (y ∷ xs) = fewer_by (p y) (q y) y (filter p xs) xs q refl (fewer_pass q xs)

  less_by : (b : Bool) (y : X) (rest xs : List X) (f : X → ℕ) → sum_by f rest ≤ sum_by f xs → sum_by f (cond b (y ∷ rest) rest) ≤ sum_by f (y ∷ xs)
  less_by true y rest xs f h = omega (arith, h, sum_by-cons f y rest, sum_by-cons f y xs)
  less_by false y rest xs f h = omega (arith, h, sum_by-cons f y xs)

  pub sum_less : (f : X → ℕ) (xs : List X) → sum_by f (filter p xs) ≤ sum_by f xs
  sum_less f [] = omega arith
  sum_less f (y ∷ xs) = less_by (p y) y (filter p xs) xs f (sum_less f xs)

  -- ---- Places.

  place_by : (b : Bool) (y : X) (rest xs : List X) → ((i : ℕ) (x : X) → slice_get rest i ≡ Some x → (k : ℕ) × (slice_get xs k ≡ Some x))
      → (i : ℕ) (x : X) → slice_get (cond b (y ∷ rest) rest) i ≡ Some x → (k : ℕ) × (slice_get (y ∷ xs) k ≡ Some x)
  place_by true y rest xs later zero x at = (0, at)
  place_by true y rest xs later (suc i) x at = let l = later i x at in (suc l.0, l.1)
  place_by false y rest xs later i x at = let l = later i x at in (suc l.0, l.1)

  pub place_from : (xs : List X) (i : ℕ) (x : X) → slice_get (filter p xs) i ≡ Some x → (k : ℕ) × (slice_get xs k ≡ Some x)
  place_from [] i x at = (i, at)
  place_from (y ∷ xs) i x at = place_by (p y) y (filter p xs) xs (place_from xs) i x at

  -- two of them, in their order
  pub record StandInOrder (xs : List X) (a b : X) : Type 0 where
    pub first : ℕ
    pub second : ℕ
    pub less : first < second
    pub at : slice_get xs first ≡ Some a
    pub there : slice_get xs second ≡ Some b

  in_order_later : (y : X) (xs : List X) (a b : X) → StandInOrder xs a b → StandInOrder (y ∷ xs) a b
  in_order_later y xs a b h =
      record { first = suc h.first; second = suc h.second; less = omega (arith, h.less); at = h.at; there = h.there }

  order_by : (c : Bool) (y : X) (rest xs : List X)
      → ((i j : ℕ) (a b : X) → i < j → slice_get rest i ≡ Some a → slice_get rest j ≡ Some b → StandInOrder xs a b)
      → ((j : ℕ) (b : X) → slice_get rest j ≡ Some b → (k : ℕ) × (slice_get xs k ≡ Some b)) → (i j : ℕ) (a b : X) → i < j
      → slice_get (cond c (y ∷ rest) rest) i ≡ Some a → slice_get (cond c (y ∷ rest) rest) j ≡ Some b → StandInOrder (y ∷ xs) a b
  order_by true y rest xs later place i zero a b less at there = absurd (omega (arith, less))
  order_by true y rest xs later place zero (suc j) a b less at there =
      let l = place j b there in record { first = 0; second = suc l.0; less = omega arith; at = at; there = l.1 }
  order_by true y rest xs later place (suc i) (suc j) a b less at there =
      in_order_later y xs a b (later i j a b (omega (arith, less)) at there)
  order_by false y rest xs later place i j a b less at there = in_order_later y xs a b (later i j a b less at there)

  pub stand_in_order : (xs : List X) (i j : ℕ) (a b : X) → i < j → slice_get (filter p xs) i ≡ Some a → slice_get (filter p xs) j ≡ Some b
      → StandInOrder xs a b
  stand_in_order [] i j a b less at there = record { first = i; second = j; less = less; at = at; there = there }
  stand_in_order (y ∷ xs) i j a b less at there =
      order_by (p y) y (filter p xs) xs (stand_in_order xs) (place_from xs) i j a b less at there

  -- ---- The first one of some.

  found_by : (b c : Bool) (y : X) (rest xs : List X) (test : X → Bool) → test y ≡ c → (c ≡ true → b ≡ true) → find test rest ≡ find test xs
      → find test (cond b (y ∷ rest) rest) ≡ cond c (Some y) (find test xs)
  found_by true c y rest xs test e keeps h = either c (test y) e
    where
      either : (c d : Bool) → d ≡ c → cond d (Some y) (find test rest) ≡ cond c (Some y) (find test xs)
      either true true e = refl
      either true false e = absurd cc
      either false true e = absurd cc
      either false false e = h
  found_by false true y rest xs test e keeps h = let both : false ≡ true = keeps refl in absurd cc
  found_by false false y rest xs test e keeps h = h

  pub found_still : (test : X → Bool) (xs : List X) → ((x : X) → Contains xs x → test x ≡ true → p x ≡ true)
      → find test (filter p xs) ≡ find test xs
  found_still test [] keeps = refl
  found_still test (y ∷ xs) keeps =
      found_by (p y) (test y) y (filter p xs) xs test refl (keeps y (Contains-here y xs))
      (found_still test xs (λ x on. keeps x (Contains-there x y xs on)))

-- ---- Where all pass.

pub all_pass : {X : Type 0} (test : X → Bool) (xs : List X) → ((x : X) → Contains xs x → test x ≡ true) → length (filter test xs) ≡ length xs
all_pass test [] h = refl
all_pass test (x ∷ xs) h =
    let rest : length (filter test xs) ≡ length xs = all_pass test xs (λ y on. h y (Contains-there y x xs on)) in
    ap (λ (b : Bool). length (cond b (x ∷ filter test xs) (filter test xs))) (h x (Contains-here x xs)) ∙ omega (arith, rest)
