-- A list whose items are replaced one after another.
use Rattle.std.proofs.Common.{◌≡◌, ℕ, zero, suc, ◌+◌, ◌≤◌, List, [], ◌∷◌, ◌++◌, length, map, take, drop, set, Some, slice_get, refl, sym, ap, ◌∙◌, add-one, arith}
use Rattle.std.proofs.lemmas.Option.{same_Some}

next : {X : Type 0} (f : X → X) (xs : List X) (k : ℕ) (x : X) → slice_get (map f (take k xs) ++ drop k xs) k ≡ Some x
    → set (map f (take k xs) ++ drop k xs) k (f x) ≡ map f (take (suc k) xs) ++ drop (suc k) xs
next f [] zero x e = absurd cc
next f [] (suc k) x e = absurd cc
next f (y ∷ xs) zero x e = ap (λ z. f z ∷ xs) (sym (same_Some y x e))
next f (y ∷ xs) (suc k) x e = ap (λ zs. f y ∷ zs) (next f xs k x e)

pub one_more : {X : Type 0} (f : X → X) (xs now : List X) (k : ℕ) (x y : X) → now ≡ map f (take k xs) ++ drop k xs
    → slice_get now k ≡ Some x → y ≡ f x → set now k y ≡ map f (take (k + 1) xs) ++ drop (k + 1) xs
one_more {X = X} f xs now k x y e at same =
    let there : slice_get (map f (take k xs) ++ drop k xs) k ≡ Some x = ap (λ (zs : List X). slice_get zs k) (sym e) ∙ at in
    rw (e, same, add-one) (next f xs k x there)

pub all_done : {X : Type 0} (f : X → X) (xs now : List X) (k : ℕ) → now ≡ map f (take k xs) ++ drop k xs → length xs ≤ k
    → now ≡ map f xs
all_done f xs now k e h = e ∙ whole f xs k h
  where
    whole : {X : Type 0} (f : X → X) (xs : List X) (k : ℕ) → length xs ≤ k → map f (take k xs) ++ drop k xs ≡ map f xs
    whole f [] zero h = refl
    whole f [] (suc k) h = refl
    whole f (x ∷ xs) zero h = absurd (omega arith)
    whole f (x ∷ xs) (suc k) h = ap (λ zs. f x ∷ zs) (whole f xs k (omega arith))
