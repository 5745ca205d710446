-- A text has a byte or more for each unit.
use Rattle.std.proofs.Common.{ℕ, ◌≤◌, List, [], ◌∷◌, length, ap, arith, length-append}
use Rattle.jk_model.specs.Text.{IsUnit, Spells}

pub some_bytes : (front : List ℕ) (u : ℕ) → IsUnit front u → 1 ≤ length front
some_bytes [] u h = absurd h
some_bytes (a ∷ front) u h = omega arith

pub units_within : (bytes units : List ℕ) → Spells bytes units → length units ≤ length bytes
units_within bytes [] h = omega arith
units_within bytes (u ∷ units) (front, rest, one, e, h) =
    let others = units_within rest units h in
    let first = some_bytes front u one in
    omega (arith, ap length e, length-append front rest)
