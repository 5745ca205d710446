-- The item at a place of a list that grew, was cut, or had one item replaced.
use Rattle.std.proofs.Common.{◌≡◌, ◌≢◌, ℕ, zero, suc, ◌+◌, ◌<◌, ◌≤◌, List, [], ◌∷◌, ◌++◌, length, map, take, drop, set, get_or, Option, Some, None, slice_get, Bor, refl, sym, ap, ◌∙◌, inl, inr, ◌⊎◌, arith}
use Rattle.std.specs.List.{range_with_len}
use Rattle.std.specs.Option.{option_map}
use Rattle.std.specs.Slice.{IsItemAt}
use Rattle.std.proofs.lemmas.List.FromFn.{get_or-map-range_with_len}
use Rattle.std.proofs.lemmas.Option.{same_Some, slice_get-map, slice_get_within, slice_get_read, slice_get_past}

module _ {X : Type 0} where
  pub slice_get-front : (xs ys : List X) (k : ℕ) → k < length xs → slice_get (xs ++ ys) k ≡ slice_get xs k
  slice_get-front [] ys k h = absurd (omega arith)
  slice_get-front (x ∷ xs) ys zero h = refl
  slice_get-front (x ∷ xs) ys (suc k) h = slice_get-front xs ys k (omega arith)

  pub slice_get-back : (xs ys : List X) (j k : ℕ) → k ≡ length xs + j → slice_get (xs ++ ys) k ≡ slice_get ys j
  slice_get-back [] ys j k e = ap (slice_get ys) (omega (arith, e))
  slice_get-back (x ∷ xs) ys j zero e = absurd (omega (arith, e))
  slice_get-back (x ∷ xs) ys j (suc k) e = slice_get-back xs ys j k (omega (arith, e))

  pub slice_get-last : (xs : List X) (y : X) → slice_get (xs ++ y ∷ []) (length xs) ≡ Some y
  slice_get-last xs y = slice_get-back xs (y ∷ []) 0 (length xs) (omega arith)

  pub slice_get-take : (xs : List X) (n k : ℕ) → k < n → slice_get (take n xs) k ≡ slice_get xs k
  slice_get-take xs zero k h = absurd (omega arith)
  slice_get-take [] (suc n) k h = refl
  slice_get-take (x ∷ xs) (suc n) zero h = refl
  slice_get-take (x ∷ xs) (suc n) (suc k) h = slice_get-take xs n k (omega arith)

  -- what a cut list has, the whole list has
  pub slice_get-from_take : (xs : List X) (n k : ℕ) (x : X) → slice_get (take n xs) k ≡ Some x → slice_get xs k ≡ Some x
  slice_get-from_take xs zero k x e = absurd cc
  slice_get-from_take [] (suc n) k x e = absurd cc
  slice_get-from_take (y ∷ xs) (suc n) zero x e = e
  slice_get-from_take (y ∷ xs) (suc n) (suc k) x e = slice_get-from_take xs n k x e

  pub slice_get-set_same : (xs : List X) (k : ℕ) (y : X) → k < length xs → slice_get (set xs k y) k ≡ Some y
  slice_get-set_same [] k y h = absurd (omega arith)
  slice_get-set_same (x ∷ xs) zero y h = refl
  slice_get-set_same (x ∷ xs) (suc k) y h = slice_get-set_same xs k y (omega arith)

  pub slice_get-set_other : (xs : List X) (i k : ℕ) (y : X) → (i ≢ k) → slice_get (set xs i y) k ≡ slice_get xs k
  slice_get-set_other [] i k y h = refl
  slice_get-set_other (x ∷ xs) zero zero y h = absurd (h refl)
  slice_get-set_other (x ∷ xs) zero (suc k) y h = refl
  slice_get-set_other (x ∷ xs) (suc i) zero y h = refl
  slice_get-set_other (x ∷ xs) (suc i) (suc k) y h = slice_get-set_other xs i k y (λ e. h (ap suc e))

  pub slice_get-nil : (k : ℕ) (x : X) → slice_get [] k ≡ Some x → ⊥
  slice_get-nil k x e = cc

  pub length_take : (xs : List X) (n : ℕ) → length (take n xs) ≤ n
  length_take xs zero = omega arith
  length_take [] (suc n) = omega arith
  length_take (x ∷ xs) (suc n) = omega (arith, length_take xs n)

  pub length_take_whole : (xs : List X) (n : ℕ) → length (take n xs) ≤ length xs
  length_take_whole xs zero = omega arith
  length_take_whole [] (suc n) = omega arith
  length_take_whole (x ∷ xs) (suc n) = omega (arith, length_take_whole xs n)

  pub slice_get-push_cases : (xs : List X) (y x : X) (k : ℕ) → slice_get (xs ++ y ∷ []) k ≡ Some x
      → ((k < length xs) × (slice_get xs k ≡ Some x)) ⊎ ((k ≡ length xs) × (y ≡ x))
  slice_get-push_cases [] y x zero e = inr (refl, same_Some y x e)
  slice_get-push_cases [] y x (suc k) e = absurd (slice_get-nil k x e)
  slice_get-push_cases (z ∷ xs) y x zero e = inl (omega arith, e)
  slice_get-push_cases (z ∷ xs) y x (suc k) e = elim (slice_get-push_cases xs y x k e) [
    | inl front ↦ inl (omega (arith, front.0), front.1)
    | inr last ↦ inr (ap suc last.0, last.1)
  ]

  pub slice_get-set_cases : (xs : List X) (i k : ℕ) (y x : X) → slice_get (set xs i y) k ≡ Some x
      → ((i ≡ k) × (y ≡ x)) ⊎ (slice_get xs k ≡ Some x)
  slice_get-set_cases [] i k y x e = inr e
  slice_get-set_cases (z ∷ xs) zero zero y x e = inl (refl, same_Some y x e)
  slice_get-set_cases (z ∷ xs) zero (suc k) y x e = inr e
  slice_get-set_cases (z ∷ xs) (suc i) zero y x e = inr e
  slice_get-set_cases (z ∷ xs) (suc i) (suc k) y x e = elim (slice_get-set_cases xs i k y x e) [
    | inl here ↦ inl (ap suc here.0, here.1)
    | inr other ↦ inr other
  ]

  -- what a list has, a longer one has
  pub slice_get-longer : (xs ys : List X) (k : ℕ) (x : X) → slice_get xs k ≡ Some x → slice_get (xs ++ ys) k ≡ Some x
  slice_get-longer xs ys k x e = slice_get-front xs ys k (slice_get_within xs k x e) ∙ e

  -- what stands behind a list
  pub slice_get-behind : (xs ys : List X) (k : ℕ) → slice_get (xs ++ ys) (length xs + k) ≡ slice_get ys k
  slice_get-behind xs ys k = slice_get-back xs ys k (length xs + k) refl

  -- the first of what is put behind a list
  pub slice_get-seam : (xs : List X) (y : X) (ys : List X) → slice_get (xs ++ y ∷ ys) (length xs) ≡ Some y
  slice_get-seam [] y ys = refl
  slice_get-seam (x ∷ xs) y ys = slice_get-seam xs y ys

  -- with one more at the end, a place is an old one or the last
  pub old_or_last : (xs : List X) (y : X) (k : ℕ) (x : X) → slice_get (xs ++ y ∷ []) k ≡ Some x
      → ((k < length xs) × (slice_get xs k ≡ Some x)) ⊎ ((k ≡ length xs) × (x ≡ y))
  old_or_last xs y k x e = elim (slice_get-push_cases xs y x k e) [
    | inl old ↦ inl old
    | inr last ↦ inr (last.0, sym last.1)
  ]

  pub old_or_new : (xs : List X) (y : X) (k : ℕ) (x : X) → slice_get (xs ++ y ∷ []) k ≡ Some x
      → (slice_get xs k ≡ Some x) ⊎ ((k ≡ length xs) × (x ≡ y))
  old_or_new xs y k x e = elim (old_or_last xs y k x e) [
    | inl old ↦ inl old.1
    | inr last ↦ inr last
  ]

  -- at each place within a list stands an item
  pub item_there : (xs : List X) (k : ℕ) → k < length xs → (x : X) × (slice_get xs k ≡ Some x)
  item_there [] k h = absurd (omega arith)
  item_there (x ∷ xs) zero h = (x, refl)
  item_there (x ∷ xs) (suc k) h = item_there xs k (omega arith)

  pub not_missing : (xs : List X) (k : ℕ) → k < length xs → slice_get xs k ≡ None → ⊥
  not_missing [] k h e = absurd (omega arith)
  not_missing (x ∷ xs) zero h e = cc
  not_missing (x ∷ xs) (suc k) h e = not_missing xs k (omega arith) e

  pub nothing_at : (xs : List X) (k : ℕ) (x : X) → xs ≡ [] → slice_get xs k ≡ Some x → ⊥
  nothing_at [] k x none e = cc
  nothing_at (y ∷ xs) k x none e = absurd cc

  -- the item that was read at a place within a list stands there
  pub item_read : (xs : List X) (k : ℕ) (x : X) → k < length xs → x ≡ get_or xs k x → slice_get xs k ≡ Some x
  item_read xs k x within is = slice_get_read xs (length xs) k x refl within is

  -- what a whole list has before a place, the list that is cut there has
  pub slice_get-in_take : (xs : List X) (n k : ℕ) (x : X) → k < n → slice_get xs k ≡ Some x → slice_get (take n xs) k ≡ Some x
  slice_get-in_take xs n k x low e = slice_get-take xs n k low ∙ e

  pub take_front : (xs ys : List X) → take (length xs) (xs ++ ys) ≡ xs
  take_front [] [] = refl
  take_front [] (y ∷ ys) = refl
  take_front (x ∷ xs) ys = ap (λ zs. x ∷ zs) (take_front xs ys)

  pub drop_next : (xs : List X) (k : ℕ) (x : X) → slice_get xs k ≡ Some x → drop k xs ≡ x ∷ drop (suc k) xs
  drop_next [] k x e = absurd cc
  drop_next (y ∷ xs) zero x e = ap (λ z. z ∷ xs) (same_Some y x e)
  drop_next (y ∷ xs) (suc k) x e = drop_next xs k x e

  -- an item that is put where it stood changes nothing
  pub set_same : (xs : List X) (k : ℕ) (x : X) → slice_get xs k ≡ Some x → set xs k x ≡ xs
  set_same [] k x e = refl
  set_same (y ∷ xs) zero x e = ap (λ z. z ∷ xs) (sym (same_Some y x e))
  set_same (y ∷ xs) (suc k) x e = ap (λ zs. y ∷ zs) (set_same xs k x e)

  -- what a search by place lends is the item there
  pub item_lent : (xs : List X) (k : ℕ) (x : Bor X) → IsItemAt xs k (Some x) → slice_get xs k ≡ Some x.now
  item_lent xs k x h = slice_get_read xs (length xs) k x.now refl h.3.0 h.1

  pub none_lent : (xs : List X) (k : ℕ) → IsItemAt {X = X} xs k None → slice_get xs k ≡ None
  none_lent xs k h = slice_get_past xs k h.3

-- ---- Mapped lists.

-- what stands at a place of a mapped list comes from what stands there
pub record ComesFrom {X Y : Type 0} (f : X → Y) (xs : List X) (k : ℕ) (y : Y) : Type 0 where
  pub from : X
  pub there : slice_get xs k ≡ Some from
  pub gives : f from ≡ y

pub comes_from : {X Y : Type 0} (f : X → Y) (xs : List X) (k : ℕ) (y : Y) → slice_get (map f xs) k ≡ Some y → ComesFrom f xs k y
comes_from f xs k y e = by_place f xs k y (slice_get xs k) refl (sym (slice_get-map f xs k) ∙ e)
  where
    by_place : {X Y : Type 0} (f : X → Y) (xs : List X) (k : ℕ) (y : Y) (r : Option X) → slice_get xs k ≡ r
        → option_map f (slice_get xs k) ≡ Some y → ComesFrom f xs k y
    by_place f xs k y None at e = cc
    by_place f xs k y (Some x) at e = record { from = x; there = at; gives = let g : Some (f x) ≡ Some y = rw at at e in same_Some (f x) y g }

pub mapped_at : {X Y : Type 0} (f : X → Y) (xs : List X) (k : ℕ) (x : X) → slice_get xs k ≡ Some x → slice_get (map f xs) k ≡ Some (f x)
mapped_at f xs k x e = slice_get-map f xs k ∙ ap (option_map f) e

-- functions that agree on a whole range agree on each number in it
pub agree_within : {X : Type 0} (f g : ℕ → X) (d : X) (n k : ℕ) → map f (range_with_len 0 n) ≡ map g (range_with_len 0 n) → k < n → f k ≡ g k
agree_within {X = X} f g d n k same lt =
    let left = get_or-map-range_with_len f 0 n k k d lt (omega arith) in
    let right = get_or-map-range_with_len g 0 n k k d lt (omega arith) in
    sym left ∙ ap (λ (xs : List X). get_or xs k d) same ∙ right
