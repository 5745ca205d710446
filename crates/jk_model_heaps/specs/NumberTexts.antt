-- Numbers and truth values as text.
use Rattle.std.specs.Prelude.{ℕ, suc, ◌==◌, ℤ, pos, negsuc, List, ◌∷◌, codes, decimal, if◌then◌else◌}
use Rattle.jk_model_heaps.specs.StoredValues.{as_truth}

-- a number in decimal digits, with a `-` in front where it is negative
abbrev pub number_text : ℤ → List ℕ
number_text (pos n) = decimal n
number_text (negsuc n) = 45 ∷ decimal (suc n)

-- by its lowest bit
abbrev pub truth_text : ℤ → List ℕ
truth_text n = if as_truth n == 1 then codes "true" else codes "false"
