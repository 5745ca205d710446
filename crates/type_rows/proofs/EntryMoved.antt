-- An entry that is put in the place of another, which moves on.
use Rattle.std.proofs.Common.{◌≡◌, ℕ, zero, suc, ◌+◌, ◌≤◌, List, [], ◌∷◌, ◌++◌, length, take, drop, set, Some, slice_get, refl, sym, ap, add-one, arith}
use Rattle.std.proofs.lemmas.Option.{same_Some}
use Rattle.std.proofs.Math.Seq.{drop-append_seam, take-append_seam}

moves : {X : Type 0} (xs : List X) (k : ℕ) (v x : X) → slice_get xs k ≡ Some x
    → take (suc k) (set xs k v) ++ x ∷ drop (suc k) (set xs k v) ≡ take k xs ++ v ∷ drop k xs
moves [] k v x e = absurd cc
moves (y ∷ xs) zero v x e = ap (λ z. v ∷ z ∷ xs) (sym (same_Some y x e))
moves (y ∷ xs) (suc k) v x e = ap (λ zs. y ∷ zs) (moves xs k v x e)

pub moves_on : {X : Type 0} (xs : List X) (k : ℕ) (v x : X) → slice_get xs k ≡ Some x
    → take (k + 1) (set xs k v) ++ x ∷ drop (k + 1) (set xs k v) ≡ take k xs ++ v ∷ drop k xs
moves_on xs k v x e = rw add-one (moves xs k v x e)

pub last_moves : {X : Type 0} (xs : List X) (k : ℕ) (v : X) → length xs ≤ k → take k xs ++ v ∷ drop k xs ≡ xs ++ v ∷ []
last_moves [] zero v h = refl
last_moves [] (suc k) v h = refl
last_moves (x ∷ xs) zero v h = absurd (omega arith)
last_moves (x ∷ xs) (suc k) v h = ap (λ zs. x ∷ zs) (last_moves xs k v (omega arith))

pub put_between : {X : Type 0} (xs below above : List X) (at : ℕ) (v : X) → xs ≡ below ++ above → at ≡ length below
    → take at xs ++ v ∷ drop at xs ≡ below ++ v ∷ above
put_between xs below above at v e f =
    rw (e, f, take-append_seam below above, drop-append_seam below above) refl
