-- A walk over a list finds an item that is so, or has seen that none is; and lists that are made item by item.
use Rattle.std.proofs.Common.{◌≡◌, ℕ, ◌+◌, ◌<◌, ◌≤◌, List, [], ◌∷◌, ◌++◌, length, take, sym, subst}
use Rattle.std.specs.List.{AllZip}
use Rattle.std.proofs.Math.ListN.{get_or}
use Rattle.std.proofs.lemmas.List.{take_more, take_all}
use Rattle.std.proofs.lemmas.Slice.Zip.{all_zipped_more}

-- ---- Two lists, item by item.

-- one more item on both sides
pub zip_more : {X Y : Type 0} (R : X → Y → Type 0) (xs : List X) (ys zs : List Y) (i : ℕ) (x : X) (y : Y) → i < length xs → x ≡ get_or xs i x
    → AllZip R (take i xs) ys → R x y → zs ≡ ys ++ y ∷ [] → AllZip R (take (i + 1) xs) zs
zip_more R xs ys zs i x y below is h k longer =
    let firsts : AllZip R (take i xs ++ get_or xs i x ∷ []) (ys ++ y ∷ []) = all_zipped_more R (take i xs) ys (get_or xs i x) y h (subst (λ z. R z y) is k) in
    let all : AllZip R (take (i + 1) xs) (ys ++ y ∷ []) = subst (λ ws. AllZip R ws (ys ++ y ∷ [])) (sym (take_more xs i x below)) firsts in
    subst (λ ws. AllZip R (take (i + 1) xs) ws) (sym longer) all

-- all items have been taken
pub zip_all : {X Y : Type 0} (R : X → Y → Type 0) (xs : List X) (ys : List Y) (i : ℕ) → length xs ≤ i → AllZip R (take i xs) ys → AllZip R xs ys
zip_all R xs ys i end h = subst (λ ws. AllZip R ws ys) (take_all i xs end) h
