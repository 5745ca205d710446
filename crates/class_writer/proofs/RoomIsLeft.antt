-- Room that is counted down part by part is what is left after the bytes of all parts.
use Rattle.std.proofs.Common.{◌≡◌, ℕ, ◌+◌, ◌<◌, List, length, get_or, take, refl, sym, ap, arith}
use Rattle.std.specs.List.{flat_map, AllByRecursion}
use Rattle.std.proofs.lemmas.List.Folds.{length-flat_map-take}
use Rattle.std.proofs.lemmas.Option.{slice_get_read}
use Rattle.jk_model.proofs.EachItem.{all_at}
use Rattle.byte_fields.specs.Layouts.{AreCounted, counted_bytes}

-- the item that a loop is at
pub record IsAt {A : Type 0} (xs : List A) (i : ℕ) (x : A) : Type 0 where
  pub within : i < length xs
  pub is : x ≡ get_or xs i x

pub all_here : {A : Type 0} (F : A → Type 0) (xs : List A) (i : ℕ) (x : A) → IsAt xs i x → AllByRecursion F xs → F x
all_here F xs i x at all = all_at F xs i x all (slice_get_read xs (length xs) i x refl at.within at.is)

-- so many items are parts, and this is left of a room after the count and their bytes
pub record SoFar {A : Type 0} (s : A → List ℕ) (F : A → Type 0) (xs : List A) (i room left : ℕ) : Type 0 where
  pub parts : AllByRecursion F (take i xs)
  pub used : 2 + length (flat_map s (take i xs)) + left ≡ room

-- where one item is longer than what is left, all are longer than the room
pub ends : {A : Type 0} (s : A → List ℕ) (F : A → Type 0) (xs : List A) (i room left : ℕ) (x : A) → IsAt xs i x
    → SoFar s F xs i room left → (F x → left < length (s x)) → AreCounted F xs → room < length (counted_bytes s xs)
ends s F xs i room left x at h over all =
    let here = over (all_here F xs i x at all.1) in
    let long = length-flat_map-take s xs i x at.within in
    let same : length (s (get_or xs i x)) ≡ length (s x) = ap (λ y. length (s y)) (sym at.is) in
    omega (arith, h.used, here, long, same)
