-- A count that never falls from one moment to the next never falls over both, and has risen where it rose in one of them.
use Rattle.std.proofs.Common.{ℕ, ◌^◌, ◌<◌, inl, inr, ⊎_elim, arith}
use Rattle.jk_model.specs.Outside.{HasRisen, NeverFalls}

pub NeverFalls-refl : (n : ℕ) → n < 2 ^ 64 → NeverFalls n n
NeverFalls-refl n fits = record { later = omega arith; fits = fits }

pub NeverFalls-after : (old mid new : ℕ) → NeverFalls old mid → NeverFalls mid new → NeverFalls old new
NeverFalls-after old mid new first second = record { later = omega arith; fits = second.fits }

pub HasRisen-after : (old mid new : ℕ) → NeverFalls old mid → HasRisen mid new → HasRisen old new
HasRisen-after old mid new first risen = ⊎_elim (λ below. inl (omega arith)) (λ last. inr last) risen
