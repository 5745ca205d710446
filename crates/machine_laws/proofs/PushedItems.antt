-- Lists with one more item behind the others: what is found in them, and how many pass a test.
use Rattle.std.proofs.Common.{◌≡◌, ℕ, suc, ◌+◌, Bool, true, false, cond, List, [], ◌∷◌, ◌++◌, length, map, filter, find, slice_get, Option, Some, None, refl, arith}

module _ {X : Type 0} (test : X → Bool) where
  one_passes : (b : Bool) (x : X) → length (cond b (x ∷ []) []) ≡ 0 + cond b 1 0
  one_passes true x = refl
  one_passes false x = refl

  more_pass : (b : Bool) (n : ℕ) (x : X) (xs ys : List X) → length ys ≡ length xs + n → length (cond b (x ∷ ys) ys) ≡ length (cond b (x ∷ xs) xs) + n
  more_pass true n x xs ys h = omega (arith, h)
  more_pass false n x xs ys h = h

  pub passes_pushed : (xs : List X) (x : X) → length (filter test (xs ++ x ∷ [])) ≡ length (filter test xs) + cond (test x) 1 0
  passes_pushed [] x = one_passes (test x) x
  passes_pushed (y ∷ xs) x = more_pass (test y) (cond (test x) 1 0) y (filter test xs) (filter test (xs ++ x ∷ [])) (passes_pushed xs x)

  front_by : (b : Bool) (y x : X) (old new : Option X) → (old ≡ Some x → new ≡ Some x) → cond b (Some y) old ≡ Some x → cond b (Some y) new ≡ Some x
  front_by true y x old new h e = e
  front_by false y x old new h e = h e

  -- what is found is found still
  pub found_in_front : (xs ys : List X) (x : X) → find test xs ≡ Some x → find test (xs ++ ys) ≡ Some x
  found_in_front [] ys x e = absurd cc
  found_in_front (y ∷ xs) ys x e = front_by (test y) y x (find test xs) (find test (xs ++ ys)) (found_in_front xs ys x) e

  behind_by : (b : Bool) (y x : X) (new : Option X) → b ≡ false → new ≡ Some x → cond b (Some y) new ≡ Some x
  behind_by true y x new fails h = absurd cc
  behind_by false y x new fails h = h

  last_by : (b : Bool) (x : X) → b ≡ true → cond b (Some x) None ≡ Some x
  last_by true x e = refl
  last_by false x e = absurd cc

  -- where no other passes, the last one is found
  pub found_last : (xs : List X) (x : X) → ((k : ℕ) (y : X) → slice_get xs k ≡ Some y → test y ≡ false) → test x ≡ true
      → find test (xs ++ x ∷ []) ≡ Some x
  found_last [] x none passes = last_by (test x) x passes
  found_last (y ∷ xs) x none passes =
      behind_by (test y) y x (find test (xs ++ x ∷ [])) (none 0 y refl) (found_last xs x (λ k z at. none (suc k) z at) passes)

-- the last one alone is changed
pub last_changed : {X : Type 0} (change : X → X) (xs : List X) (x : X) → ((k : ℕ) (y : X) → slice_get xs k ≡ Some y → change y ≡ y)
    → map change (xs ++ x ∷ []) ≡ xs ++ change x ∷ []
last_changed change [] x same = refl
last_changed change (y ∷ xs) x same = λ i. same 0 y refl i ∷ last_changed change xs x (λ k z at. same (suc k) z at) i
