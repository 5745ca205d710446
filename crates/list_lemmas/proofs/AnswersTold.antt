-- What an answer says: a test that is false, a result that is good, and what is known of one number more.
use Rattle.std.proofs.Common.{◌≡◌, ◌↔◌, ℕ, ◌+◌, ◌<◌, ◌≤◌, Bool, false, IsTrue, Result, Ok, Err, IfOk, sym, subst, inl, inr, arith}
use Rattle.std.proofs.Math.Nat.{eq-or-lt_of_le}
use Rattle.std.proofs.lemmas.Bool.{iff_false}

-- what a test tells isn't so where the test is false
pub not_so : (b : Bool) (P : Type 0) → (IsTrue b ↔ P) → b ≡ false → P → ⊥
not_so b P h e = iff_false h e

-- a good answer that is so is also what follows of that
pub ok_map : {T E : Type 0} (P Q : T → Type 0) (r : Result T E) → ((x : T) → P x → Q x) → IfOk r P → IfOk r Q
ok_map P Q (Ok x) f h = f x h
ok_map P Q (Err e) f h = tt

-- what holds of each number before n and of n holds of each before n + 1
pub up_to : (n : ℕ) (P : ℕ → Type 0) → ((k : ℕ) → k < n → P k) → P n → (k : ℕ) → k < n + 1 → P k
up_to n P before here k lt =
    let most : k ≤ n = omega arith in
    elim (eq-or-lt_of_le most) [
      | inl same ↦ subst P (sym same) here
      | inr less ↦ before k less
    ]
