-- Where an item of two lists, one after the other, stands: in the first, or in the second.
use Rattle.std.proofs.Common.{◌≡◌, ℕ, zero, suc, ◌+◌, ◌⊎◌, inl, inr, List, [], ◌∷◌, ◌++◌, length, Some, slice_get, refl, arith}
use Rattle.jk_model_classes.specs.Items.{HasItem}

pub get_front : {X : Type 0} (xs ys : List X) (i : ℕ) (x : X) → slice_get xs i ≡ Some x → slice_get (xs ++ ys) i ≡ Some x
get_front [] ys i x h = absurd cc
get_front (y ∷ xs) ys zero x h = h
get_front (y ∷ xs) ys (suc i) x h = get_front xs ys i x h

pub get_back : {X : Type 0} (xs ys : List X) (i j : ℕ) (x : X) → i ≡ length xs + j → slice_get ys j ≡ Some x → slice_get (xs ++ ys) i ≡ Some x
get_back [] ys i j x e h =
    let same : i ≡ j = omega arith in
    rw same h
get_back (y ∷ xs) ys zero j x e h = absurd (omega arith)
get_back (y ∷ xs) ys (suc i) j x e h = get_back xs ys i j x (omega arith) h

-- an item of both stands in the first, or at its place in the second
abbrev pub StandsInOne : {X : Type 0} → List X → List X → ℕ → X → Type 0
StandsInOne xs ys i x = (slice_get xs i ≡ Some x) ⊎ ((j : ℕ) × (i ≡ length xs + j) × (slice_get ys j ≡ Some x))

pub get_cases : {X : Type 0} (xs ys : List X) (i : ℕ) (x : X) → slice_get (xs ++ ys) i ≡ Some x → StandsInOne xs ys i x
get_cases [] ys i x h = inr (i, omega arith, h)
get_cases (y ∷ xs) ys zero x h = inl h
get_cases (y ∷ xs) ys (suc i) x h = elim (get_cases xs ys i x h) [
  | inl at ↦ inl at
  | inr (j, e, at) ↦ inr (j, omega arith, at)
]

-- ---- That some item is so.

pub has_front : {X : Type 0} (P : X → Type 0) (xs ys : List X) → HasItem P xs → HasItem P (xs ++ ys)
has_front P xs ys (i, x, at, is) = (i, x, get_front xs ys i x at, is)

pub has_back : {X : Type 0} (P : X → Type 0) (xs ys : List X) → HasItem P ys → HasItem P (xs ++ ys)
has_back P xs ys (j, x, at, is) = (length xs + j, x, get_back xs ys (length xs + j) j x refl at, is)

pub has_cases : {X : Type 0} (P : X → Type 0) (xs ys : List X) → HasItem P (xs ++ ys) → HasItem P xs ⊎ HasItem P ys
has_cases P xs ys (i, x, at, is) = elim (get_cases xs ys i x at) [
  | inl front ↦ inl (i, x, front, is)
  | inr (j, e, back) ↦ inr (j, x, back, is)
]

pub has_one : {X : Type 0} (P : X → Type 0) (x : X) → P x → HasItem P (x ∷ [])
has_one P x is = (0, x, refl, is)

-- of one item it is that one
pub one_has : {X : Type 0} (P : X → Type 0) (x : X) → HasItem P (x ∷ []) → P x
one_has P x (zero, y, at, is) =
    let same : x ≡ y = cc in
    rw same is
one_has P x (suc i, y, at, is) = absurd cc
