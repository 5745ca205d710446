-- Two lists that are made item by item: what holds of the items at each place.
use Rattle.std.proofs.Common.{List, [], ◌∷◌, map}
use Rattle.std.specs.List.{AllByRecursion, AllZip}

-- the items on the left are those of another list, by a function
pub zip_map : {X Z Y : Type 0} (f : X → Z) (R : Z → Y → Type 0) (xs : List X) (ys : List Y) → AllZip (λ x y. R (f x) y) xs ys → AllZip R (map f xs) ys
zip_map f R [] [] h = tt
zip_map f R [] (y ∷ ys) h = absurd h
zip_map f R (x ∷ xs) [] h = absurd h
zip_map f R (x ∷ xs) (y ∷ ys) h = (h.0, zip_map f R xs ys h.1)

-- what holds of the items of a mapped list holds of those that they are of
pub all_mapped : {X Z : Type 0} (f : X → Z) (P : Z → Type 0) (xs : List X) → AllByRecursion P (map f xs) → AllByRecursion (λ x. P (f x)) xs
all_mapped f P [] h = tt
all_mapped f P (x ∷ xs) h = (h.0, all_mapped f P xs h.1)
