-- The texts of a list's items: those before a place, the item's, and those after it.
use Rattle.std.proofs.Common.{◌≡◌, ℕ, ◌+◌, ◌<◌, List, [], ◌∷◌, ◌++◌, Result, Ok, Err, OnErr, length, take, drop, get_or, sym, ap, ◌∙◌, append-nil}
use Rattle.std.specs.Prelude.{flat_map}
use Rattle.std.proofs.lemmas.List.{take-append-drop, take_more}
use Rattle.std.proofs.lemmas.List.Concat.{flat_map-append}

pub OnErr-from : {T E P : Type 0} (r : Result T E) → P → OnErr r P
OnErr-from (Ok x) p = tt
OnErr-from (Err e) p = p

-- the texts of the items
pub flat_map-more : {X : Type 0} (f : X → List ℕ) (xs : List X) (i : ℕ) (d : X) → i < length xs
    → flat_map f (take (i + 1) xs) ≡ flat_map f (take i xs) ++ f (get_or xs i d)
flat_map-more f xs i d h =
    ap (flat_map f) (take_more xs i d h) ∙ flat_map-append f (take i xs) (get_or xs i d ∷ [])
    ∙ ap (λ (t : List ℕ). flat_map f (take i xs) ++ t) (append-nil (f (get_or xs i d)))

pub flat_map-split : {X : Type 0} (f : X → List ℕ) (xs : List X) (i : ℕ) (d : X) → i < length xs
    → flat_map f xs ≡ flat_map f (take i xs) ++ f (get_or xs i d) ++ flat_map f (drop (i + 1) xs)
flat_map-split f xs i d h =
    ap (flat_map f) (sym (take-append-drop (i + 1) xs)) ∙ flat_map-append f (take (i + 1) xs) (drop (i + 1) xs)
    ∙ ap (λ (t : List ℕ). t ++ flat_map f (drop (i + 1) xs)) (flat_map-more f xs i d h)
