-- The place of the first item that passes a test is as far as the items before it reach.
use Rattle.std.proofs.Common.{◌≡◌, ℕ, ◌<◌, ◌≤◌, Bool, true, false, not, List, [], ◌∷◌, length, refl, sym, get_or, cond, nat_lt, arith, Option, Some, None, unwrap_or}
use Rattle.std.specs.List.{prefix_len, position_or_len, position}
use Rattle.std.proofs.lemmas.List.Sums.{prefix_len-le-length}
use Rattle.std.proofs.lemmas.Bool.{ltb-true, ltb-false}
use Rattle.std.proofs.lemmas.Option.{cond_some}

-- what `position` finds is the length of what stands before it
pub found_at : {X : Type 0} (p : X → Bool) (xs : List X) (i : ℕ) → position p xs ≡ Some i → (i ≡ position_or_len p xs) × (position_or_len p xs < length xs)
found_at p xs i e =
    let (inside, is) = cond_some (nat_lt (position_or_len p xs) (length xs)) (position_or_len p xs) i e in
    (sym is, ltb-true (position_or_len p xs) (length xs) inside)

pub past_end : (n m : ℕ) (b : Bool) → nat_lt n m ≡ b → cond b (Some n) None ≡ None → m ≤ n
past_end n m true t e = cc
past_end n m false t e = ltb-false n m t

pub found_nowhere : {X : Type 0} (p : X → Bool) (xs : List X) → position p xs ≡ None → position_or_len p xs ≡ length xs
found_nowhere p xs e =
    let high : length xs ≤ position_or_len p xs = past_end (position_or_len p xs) (length xs) (nat_lt (position_or_len p xs) (length xs)) refl e in
    omega (arith, prefix_len-le-length (λ x. not (p x)) xs)

pub found_or_end : {X : Type 0} (p : X → Bool) (xs : List X) (o : Option ℕ) → o ≡ position p xs → unwrap_or o (length xs) ≡ position_or_len p xs
found_or_end p xs None e = sym (found_nowhere p xs (sym e))
found_or_end p xs (Some i) e = (found_at p xs i (sym e)).0

pub first_passes : (p : ℕ → Bool) (xs : List ℕ) → 0 < length xs → p (get_or xs 0 0) ≡ true → 0 < prefix_len p xs
first_passes p [] h e = absurd (omega arith)
first_passes p (x ∷ xs) h e = rw e (omega arith)
