-- Pieces of lists: what they have, and what they are after items are put behind all others or one item is set.
use Rattle.std.proofs.Common.{◌≡◌, ℕ, zero, suc, ◌+◌, ◌-◌, ◌<◌, ◌≤◌, List, [], ◌∷◌, ◌++◌, length, take, drop, set, Some, slice_get, refl, sym, ap, ◌∙◌, arith}
use Rattle.std.specs.List.{AllByRecursion}
use Rattle.std.proofs.lemmas.List.{drop-append-le, drop-set-add, drop-set-lt, drop_at, length-drop, length-take-le, take-append-le, take-set-le, take_all}
use Rattle.std.proofs.lemmas.Option.{slice_get_within}
use Rattle.std.proofs.Math.Seq.{take-set-lt}
use Rattle.list_lemmas.proofs.ItemsByPlace.{length_take, slice_get-from_take, slice_get-take}

-- so many items from a place on
abbrev pub piece : {X : Type 0} → List X → ℕ → ℕ → List X
piece xs first len = take len (drop first xs)

slice_get-drop : {X : Type 0} (xs : List X) (n k : ℕ) → slice_get (drop n xs) k ≡ slice_get xs (n + k)
slice_get-drop xs zero k = let e : k ≡ 0 + k = omega arith in ap (slice_get xs) e
slice_get-drop [] (suc n) k = refl
slice_get-drop (x ∷ xs) (suc n) k =
    let e : suc (n + k) ≡ suc n + k = omega arith in
    slice_get-drop xs n k ∙ ap (slice_get (x ∷ xs)) e

module _ {X : Type 0} (xs : List X) (first len : ℕ) where
  pub length-piece : first + len ≤ length xs → length (piece xs first len) ≡ len
  length-piece h = length-take-le len (drop first xs) (omega (arith, length-drop first xs))

  pub piece_short : length (piece xs first len) ≤ len
  piece_short = length_take (drop first xs) len

  pub get-piece : (k : ℕ) → k < len → slice_get (piece xs first len) k ≡ slice_get xs (first + k)
  get-piece k lt = slice_get-take (drop first xs) len k lt ∙ slice_get-drop xs first k

  -- what a piece has, the list has
  pub in_piece : (k : ℕ) (x : X) → slice_get (piece xs first len) k ≡ Some x → (k < len) × (slice_get xs (first + k) ≡ Some x)
  in_piece k x e =
      let within = slice_get_within (piece xs first len) k x e in
      (omega (arith, piece_short), sym (slice_get-drop xs first k) ∙ slice_get-from_take (drop first xs) len k x e)

  -- ---- Items behind all others.

  pub piece-append : (ys : List X) → first + len ≤ length xs → piece (xs ++ ys) first len ≡ piece xs first len
  piece-append ys h =
      ap (take len) (drop-append-le first xs ys (omega arith)) ∙ take-append-le len (drop first xs) ys (omega (arith, length-drop first xs))

  -- ---- One item is set: within the piece, behind it, or before it.

  pub piece-set : (i : ℕ) (x : X) → i < len → piece (set xs (first + i) x) first len ≡ set (piece xs first len) i x
  piece-set i x lt = ap (take len) (drop-set-add first xs i x) ∙ take-set-lt len (drop first xs) i x lt

  pub piece-set_behind : (p : ℕ) (x : X) → first + len ≤ p → piece (set xs p x) first len ≡ piece xs first len
  piece-set_behind p x le =
      let at : p ≡ first + (p - first) = omega arith in
      ap (λ (q : ℕ). piece (set xs q x) first len) at ∙ ap (take len) (drop-set-add first xs (p - first) x)
      ∙ take-set-le len (drop first xs) (p - first) x (omega arith)

  pub piece-set_before : (p : ℕ) (x : X) → p < first → piece (set xs p x) first len ≡ piece xs first len
  piece-set_before p x lt = ap (take len) (drop-set-lt first xs p x lt)

-- what was put behind a list
pub piece-behind : {X : Type 0} (xs ys : List X) (first len : ℕ) → first ≡ length xs → len ≡ length ys → piece (xs ++ ys) first len ≡ ys
piece-behind xs ys first len at long = ap (take len) (drop_at xs ys first (sym at)) ∙ take_all len ys (omega (arith, long))

pub each_by_place : {X : Type 0} (P : X → Type 0) (xs : List X) → ((k : ℕ) (x : X) → slice_get xs k ≡ Some x → P x) → AllByRecursion P xs
each_by_place P [] h = tt
each_by_place P (x ∷ xs) h = (h 0 x refl, each_by_place P xs (λ k y e. h (suc k) y e))
