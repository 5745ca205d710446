-- Lists that agree have one length, agree in what is weaker, and still do with one more item each that go together.
use Rattle.std.proofs.Common.{◌≡◌, List, [], ◌∷◌, ◌++◌, length, refl, arith}
use Rattle.jkasm.specs.Assembled.{Agree}

pub agree_weaker : {X Y : Type 0} (R S : X → Y → Type 0) (xs : List X) (ys : List Y) → ((x : X) (y : Y) → R x y → S x y)
    → Agree R xs ys → Agree S xs ys
agree_weaker R S [] [] implies h = tt
agree_weaker R S (x ∷ xs) (y ∷ ys) implies h = (implies x y h.0, agree_weaker R S xs ys implies h.1)
agree_weaker R S [] (y ∷ ys) implies h = absurd h
agree_weaker R S (x ∷ xs) [] implies h = absurd h

pub agree_push : {X Y : Type 0} (R : X → Y → Type 0) (xs : List X) (ys : List Y) (x : X) (y : Y) → Agree R xs ys → R x y
    → Agree R (xs ++ x ∷ []) (ys ++ y ∷ [])
agree_push R [] [] x y h k = (k, tt)
agree_push R (a ∷ xs) (b ∷ ys) x y h k = (h.0, agree_push R xs ys x y h.1 k)
agree_push R [] (b ∷ ys) x y h k = absurd h
agree_push R (a ∷ xs) [] x y h k = absurd h

pub agree_length : {X Y : Type 0} (R : X → Y → Type 0) (xs : List X) (ys : List Y) → Agree R xs ys → length xs ≡ length ys
agree_length R [] [] h = refl
agree_length R (x ∷ xs) (y ∷ ys) h =
    let rest = agree_length R xs ys h.1 in
    omega arith
agree_length R [] (y ∷ ys) h = absurd h
agree_length R (x ∷ xs) [] h = absurd h
