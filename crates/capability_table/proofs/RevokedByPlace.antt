-- A creation that is revoked at its place is revoked as the model says, and past the last nothing changes.
use Rattle.std.proofs.Common.{◌≡◌, ℕ, zero, suc, ◌-◌, ◌<◌, ◌≤◌, List, [], ◌∷◌, length, set, get_or, refl, arith}
use Rattle.std.proofs.lemmas.Bool.{ne_eqb}
use Rattle.jk_model.specs.Capabilities.{Creation, revoked_at, revoked_creation}

pub revoked-set : (made : List Creation) (i : ℕ) (got new : Creation) → i < length made → got ≡ get_or made i got
    → new ≡ revoked_creation got → set made i new ≡ revoked_at made i
revoked-set [] i got new lt read e = absurd (omega (arith, lt))
revoked-set (c ∷ made) zero got new lt read e = rw (e, read) refl
revoked-set (c ∷ made) (suc i) got new lt read e =
    let back : suc i - 1 ≡ i = omega arith in
    rw (ne_eqb (suc i) 0 (λ (e : suc i ≡ 0). omega (arith, e)), back, revoked-set made i got new (omega (arith, lt)) read e) refl

pub revoked-past : (made : List Creation) (i : ℕ) → length made ≤ i → revoked_at made i ≡ made
revoked-past [] i le = refl
revoked-past (c ∷ made) zero le = absurd (omega (arith, le))
revoked-past (c ∷ made) (suc i) le =
    let back : suc i - 1 ≡ i = omega arith in
    rw (ne_eqb (suc i) 0 (λ (e : suc i ≡ 0). omega (arith, e)), back, revoked-past made i (omega (arith, le))) refl
