-- Numbers that digits write, as far as an int may have their magnitude.
use Rattle.std.specs.Prelude.{ℕ, ◌&&◌, Bool, ℤ, List, [], ◌∷◌, Option, Some, None, nat_le, if◌then◌else◌}
use Rattle.std.specs.List.{list_all}
use Rattle.jk_model.specs.ScriptGrammar.{is_digit, numeral_value}
use Rattle.jk_model_system_rows.specs.ParsedNumbers.{int_above, int_below}

-- the value of digits, of which there is one at least; none above 2 ^ 31
abbrev pub capped_value : List ℕ → Option ℕ
capped_value [] = None
capped_value (u ∷ units) =
    if list_all is_digit (u ∷ units) && nat_le (numeral_value (u ∷ units)) 2147483648 then Some (numeral_value (u ∷ units)) else None

-- the int of this value, above 0 or below
abbrev pub int_of_sign : Bool → ℕ → Option ℤ
int_of_sign negative n = if negative then int_below n else int_above n
