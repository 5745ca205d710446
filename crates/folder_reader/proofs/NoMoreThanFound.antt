-- Of items with different keys, each of which is in a list, the number and the sum are at most those of the list.
use Rattle.std.proofs.Common.{◌≡◌, ℕ, zero, suc, ◌+◌, ◌≤◌, false, List, [], ◌∷◌, ◌++◌, length, Some, slice_get, refl, sym, ap, ◌∙◌, subst, inl, inr, arith}
use Rattle.std.specs.Prelude.{map, sum_by, Contains}
use Rattle.std.specs.List.{AllByRecursion, IsDistinct}
use Rattle.std.specs.Str.{bytes_eq}
use Rattle.std.proofs.lemmas.Bool.{false≢true}
use Rattle.std.proofs.lemmas.List.Sums.{sum_by-append}
use Rattle.std.proofs.lemmas.List.Elements.{Contains-append_left, Contains-append_right, Contains-append_cases}
use Rattle.std.proofs.lemmas.Map.Made.{Contains-tail}
use Rattle.std.proofs.lemmas.Slice.Eq.{bytes_eq-Decides}
use Rattle.list_lemmas.proofs.ItemsOfLists.{place_of}

pub bytes_differ : (a b : List ℕ) → bytes_eq a b ≡ false → a ≡ b → ⊥
bytes_differ a b e same = false≢true (sym e ∙ (bytes_eq-Decides a b).1 same)

split_at : {X : Type 0} (ys : List X) (k : ℕ) (x : X) → slice_get ys k ≡ Some x → (front : List X) × (back : List X) × (ys ≡ front ++ x ∷ back)
split_at [] k x e = absurd cc
split_at (y ∷ ys) zero x e =
    let same : y ≡ x = cc in
    ([], ys, ap (λ v. v ∷ ys) same)
split_at (y ∷ ys) (suc k) x e =
    let s = split_at ys k x e in
    (y ∷ s.0, s.1, ap (λ t. y ∷ t) s.2)

in_rest : {X : Type 0} (front : List X) (x : X) (back : List X) (y : X) → Contains (front ++ x ∷ back) y → (x ≡ y → ⊥) → Contains (front ++ back) y
in_rest front x back y h ne =
    elim (Contains-append_cases front (x ∷ back) y h) [
      | inl a ↦ Contains-append_left front back y a
      | inr b ↦ Contains-append_right front back y (Contains-tail x back y ne b)
    ]

others_in_rest : {X : Type 0} (key : X → List ℕ) (front : List X) (x : X) (back xs : List X)
    → AllByRecursion (λ (k : List ℕ). bytes_eq (key x) k ≡ false) (map key xs) → AllByRecursion (Contains (front ++ x ∷ back)) xs
    → AllByRecursion (Contains (front ++ back)) xs
others_in_rest key front x back [] d h = tt
others_in_rest key front x back (y ∷ xs) d h =
    (in_rest front x back y h.0 (λ same. bytes_differ (key x) (key y) d.0 (ap key same)), others_in_rest key front x back xs d.1 h.1)

sum_of_split : {X : Type 0} (f : X → ℕ) (front : List X) (x : X) (back : List X) → sum_by f (front ++ x ∷ back) ≡ f x + sum_by f (front ++ back)
sum_of_split f front x back =
    let a = sum_by-append f front (x ∷ back) in
    let b = sum_by-append f (x ∷ []) back in
    let c = sum_by-append f front back in
    omega (arith, a, b, c)

pub sum_within : {X : Type 0} (f : X → ℕ) (key : X → List ℕ) (xs ys : List X)
    → IsDistinct bytes_eq (map key xs) → AllByRecursion (Contains ys) xs → sum_by f xs ≤ sum_by f ys
unfolding IsDistinct
sum_within {X = X} f key [] ys d h = omega arith
sum_within {X = X} f key (x ∷ xs) ys d h =
    let at = place_of ys x h.0 in
    let s = split_at ys at.0 x at.1 in
    let rest = others_in_rest key s.0 x s.1 xs d.0 (subst (λ (t : List X). AllByRecursion (Contains t) xs) s.2 h.1) in
    let less = sum_within f key xs (s.0 ++ s.1) d.1 rest in
    let whole = ap (sum_by f) s.2 ∙ sum_of_split f s.0 x s.1 in
    let first = sum_by-append f (x ∷ []) xs in
    omega (arith, less, whole, first)

count_is_length : {X : Type 0} (xs : List X) → sum_by (λ (x : X). 1) xs ≡ length xs
count_is_length [] = refl
count_is_length {X = X} (x ∷ xs) =
    let first = sum_by-append (λ (x : X). 1) (x ∷ []) xs in
    let others = count_is_length xs in
    omega (arith, first, others)

pub length_within : {X : Type 0} (key : X → List ℕ) (xs ys : List X)
    → IsDistinct bytes_eq (map key xs) → AllByRecursion (Contains ys) xs → length xs ≤ length ys
length_within {X = X} key xs ys d h =
    let less = sum_within (λ (x : X). 1) key xs ys d h in
    omega (arith, less, count_is_length xs, count_is_length ys)
