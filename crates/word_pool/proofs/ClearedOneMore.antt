-- Where some words of a list are cleared and one more is written, one word more is cleared.
use Rattle.std.proofs.Common.{◌≡◌, ℕ, zero, suc, ◌+◌, ◌<◌, ◌++◌, List, [], ◌∷◌, length, take, drop, replicate, set, refl, sym, ap, ◌∙◌, add-one, arith}

pub one_more : {X : Type 0} (z : X) (xs : List X) (from n at : ℕ) → at ≡ from + n → at < length xs
    → set (take from xs ++ replicate n z ++ drop at xs) at z ≡ take from xs ++ replicate (suc n) z ++ drop (suc at) xs
one_more z [] from n at e lt = absurd (omega (arith, lt))
one_more z (x ∷ xs) zero zero zero e lt = refl
one_more z (x ∷ xs) zero zero (suc at) e lt = absurd (omega (arith, e))
one_more z (x ∷ xs) zero (suc n) zero e lt = absurd (omega (arith, e))
one_more z (x ∷ xs) zero (suc n) (suc at) e lt = ap (λ l. z ∷ l) (one_more z xs zero n at (omega (arith, e)) (omega (arith, lt)))
one_more z (x ∷ xs) (suc from) n zero e lt = absurd (omega (arith, e))
one_more z (x ∷ xs) (suc from) n (suc at) e lt = ap (λ l. x ∷ l) (one_more z xs from n at (omega (arith, e)) (omega (arith, lt)))

pub next : {X : Type 0} (z : X) (xs now new : List X) (from n at : ℕ) → at ≡ from + n → at < length xs
    → now ≡ take from xs ++ replicate n z ++ drop at xs → new ≡ set now at z
    → new ≡ take from xs ++ replicate (suc n) z ++ drop (at + 1) xs
next z xs now new from n at e lt is_now is_new =
    is_new ∙ ap (λ l. set l at z) is_now ∙ one_more z xs from n at e lt
    ∙ ap (λ k. take from xs ++ replicate (suc n) z ++ drop k xs) (sym (add-one at))
