-- Two lists that are the same, each made of two parts, have the same parts where one part is as long as the other's.
use Rattle.std.proofs.Common.{◌≡◌, ℕ, ◌+◌, List, [], ◌∷◌, ◌++◌, length, take, drop, refl, sym, ap, ◌∙◌, append_assoc, arith}
use Rattle.std.proofs.lemmas.List.{drop_at, length-append, take_at}

-- the last parts are as long
pub one_split : {X : Type 0} (a c b d : List X) → a ++ b ≡ c ++ d → length b ≡ length d → (a ≡ c) × (b ≡ d)
one_split [] [] b d e n = (refl, e)
one_split [] (y ∷ c) b d e n = absurd (omega (arith, n, ap length e, length-append (y ∷ c) d))
one_split (x ∷ a) [] b d e n = absurd (omega (arith, n, ap length e, length-append (x ∷ a) b))
one_split (x ∷ a) (y ∷ c) b d e n =
    let rest : a ++ b ≡ c ++ d = cc in
    let more = one_split a c b d rest n in
    let head : x ≡ y = cc in
    (both head more.0, more.1)
  where
    both : {X : Type 0} {x y : X} {a c : List X} → x ≡ y → a ≡ c → (x ∷ a) ≡ (y ∷ c)
    both e f = cc

pub tail_is : {X : Type 0} (x y : X) (xs ys : List X) → x ∷ xs ≡ y ∷ ys → xs ≡ ys
tail_is x y xs ys e = cc

pub head_is : {X : Type 0} (x y : X) (xs ys : List X) → x ∷ xs ≡ y ∷ ys → x ≡ y
head_is x y xs ys e = cc

-- the first parts are as long
pub cancel : (xs ys r s : List ℕ) → length xs ≡ length ys → xs ++ r ≡ ys ++ s → (xs ≡ ys) × (r ≡ s)
cancel xs ys r s long e = (
  sym (take_at xs r (length ys) long) ∙ ap (λ (w : List ℕ). take (length ys) w) e ∙ take_at ys s (length ys) refl,
  sym (drop_at xs r (length ys) long) ∙ ap (λ (w : List ℕ). drop (length ys) w) e ∙ drop_at ys s (length ys) refl,
)

-- ---- Lists of many parts.

-- what stands before the offsets, with what follows
pub front_of : (f d l h o r : List ℕ) → (f ++ d ++ l ++ h ++ o) ++ r ≡ f ++ (d ++ (l ++ (h ++ (o ++ r))))
front_of f d l h o r = simp append_assoc

pub front_of_pairs : (f d n o r : List ℕ) → (f ++ d ++ n ++ o) ++ r ≡ f ++ (d ++ (n ++ (o ++ r)))
front_of_pairs f d n o r = simp append_assoc

pub length_of_four : (f d n o : List ℕ) → length (f ++ d ++ n ++ o) ≡ length f + length d + length n + length o
length_of_four f d n o = omega (arith, length-append (f ++ d ++ n) o, length-append (f ++ d) n, length-append f d)
