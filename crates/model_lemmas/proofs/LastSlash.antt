-- What stands behind the last `/` of a path is told by the path, and so is what stands before it.
use Rattle.std.proofs.Common.{◌≡◌, ◌≢◌, ℕ, List, [], ◌∷◌, ◌++◌, refl, subst}
use Rattle.std.specs.List.{AllByRecursion}

abbrev pub HasNoSlash : List ℕ → Type 0
HasNoSlash name = AllByRecursion (λ c. c ≢ 47) name

pub slash_inside : (front name : List ℕ) → HasNoSlash (front ++ 47 ∷ name) → ⊥
slash_inside [] name h = h.0 refl
slash_inside (c ∷ front) name h = slash_inside front name h.1

pub last_names : (p q m n : List ℕ) → HasNoSlash m → HasNoSlash n → p ++ 47 ∷ m ≡ q ++ 47 ∷ n → (p ≡ q) × (m ≡ n)
last_names [] [] m n hm hn e = (refl, cc)
last_names [] (d ∷ q) m n hm hn e =
    let rest : m ≡ q ++ 47 ∷ n = cc in
    absurd (slash_inside q n (subst HasNoSlash rest hm))
last_names (c ∷ p) [] m n hm hn e =
    let rest : n ≡ p ++ 47 ∷ m = cc in
    absurd (slash_inside p m (subst HasNoSlash rest hn))
last_names (c ∷ p) (d ∷ q) m n hm hn e =
    let tails : p ++ 47 ∷ m ≡ q ++ 47 ∷ n = cc in
    let heads : c ≡ d = cc in
    let same = last_names p q m n hm hn tails in
    let fronts : p ≡ q = same.0 in
    (cc, same.1)
