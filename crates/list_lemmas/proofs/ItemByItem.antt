-- Two lists that are made item by item: what holds of the items at each place.
use Rattle.std.proofs.Common.{◌≡◌, ℕ, zero, suc, ◌+◌, ◌<◌, List, [], ◌∷◌, ◌++◌, length, take, get_or, sym, subst, Some, slice_get}
use Rattle.std.specs.List.{AllZip}
use Rattle.std.proofs.lemmas.List.{take_more}
use Rattle.std.proofs.lemmas.Slice.Zip.{all_zipped_more}

-- one more item on both sides
pub zip_more : {X Y : Type 0} (R : X → Y → Type 0) (xs : List X) (ys zs : List Y) (i : ℕ) (d : X) (y : Y) → i < length xs
    → AllZip R (take i xs) ys → R (get_or xs i d) y → zs ≡ ys ++ y ∷ [] → AllZip R (take (i + 1) xs) zs
zip_more R xs ys zs i d y below h k longer =
    let firsts : AllZip R (take i xs ++ get_or xs i d ∷ []) (ys ++ y ∷ []) = all_zipped_more R (take i xs) ys (get_or xs i d) y h k in
    let all : AllZip R (take (i + 1) xs) (ys ++ y ∷ []) = subst (λ ws. AllZip R ws (ys ++ y ∷ [])) (sym (take_more xs i d below)) firsts in
    subst (λ ws. AllZip R (take (i + 1) xs) ws) (sym longer) all

pub zip_at : {X Y : Type 0} (R : X → Y → Type 0) (xs : List X) (ys : List Y) → AllZip R xs ys → (i : ℕ) (x : X) (y : Y)
    → slice_get xs i ≡ Some x → slice_get ys i ≡ Some y → R x y
zip_at R [] [] h i x y at_x at_y = absurd cc
zip_at R [] (b ∷ ys) h i x y at_x at_y = absurd h
zip_at R (a ∷ xs) [] h i x y at_x at_y = absurd h
zip_at R (a ∷ xs) (b ∷ ys) h zero x y at_x at_y =
    let same_x : a ≡ x = cc in
    let same_y : b ≡ y = cc in
    subst (λ z. R z y) same_x (subst (λ z. R a z) same_y h.0)
zip_at R (a ∷ xs) (b ∷ ys) h (suc i) x y at_x at_y = zip_at R xs ys h.1 i x y at_x at_y
