-- What is computed of a word's digits.
use Rattle.std.specs.Prelude.{ℕ, ◌+◌, ◌-◌, ◌*◌, List, fold, min}

-- The value of digits, or, where that is 2 ^ 32 or more, some number that is so too.
abbrev pub capped_value : List ℕ → ℕ
capped_value digits = fold (λ value digit. min value 4294967296 * 10 + (digit - 48)) 0 digits
