-- What a search in a list by a number finds.
use Rattle.std.specs.Prelude.{◌≡◌, ℕ, zero, suc, ◌<◌, ◌==◌, Bool, true, false, List, [], ◌∷◌, find, Option, Some, None, slice_get}

-- the item at this place passes, and no other does
abbrev pub IsOnlyAt : {X : Type 0} → (X → Bool) → List X → ℕ → Type 0
IsOnlyAt test [] place = ⊥
IsOnlyAt test (x ∷ xs) zero = (test x ≡ true) × (find test xs ≡ None)
IsOnlyAt test (x ∷ xs) (suc place) = (test x ≡ false) × IsOnlyAt test xs place

-- the place of the one item that passes; none where none passes
abbrev pub IsPlaceOf : {X : Type 0} → (X → Bool) → List X → Option ℕ → Type 0
IsPlaceOf test xs None = find test xs ≡ None
IsPlaceOf test xs (Some place) = IsOnlyAt test xs place

-- the numbers of the items rise
abbrev pub AreRisingBy : {X : Type 0} → (X → ℕ) → List X → Type 0
AreRisingBy {X = X} key xs = (i j : ℕ) (x y : X) → slice_get xs i ≡ Some x → slice_get xs j ≡ Some y → i < j → key x < key y

abbrev pub has_key : {X : Type 0} → (X → ℕ) → ℕ → X → Bool
has_key key k x = key x == k
