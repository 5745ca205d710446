-- Tests of an opcode against a table of ranges.
use Rattle.std.specs.Prelude.{ℕ, Bool, false, ◌&&◌, ◌||◌, nat_le, List, [], ◌∷◌}

-- the opcode is in one of the ranges
abbrev pub is_listed : List (ℕ × ℕ) → ℕ → Bool
is_listed [] op = false
is_listed (r ∷ rows) op = (nat_le r.0 op && nat_le op r.1) || is_listed rows op
