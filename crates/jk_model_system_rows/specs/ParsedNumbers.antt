-- The numbers that texts write, as java/lang/Integer.parseInt reads them: a `-`, which may be missing, and then decimal digits, one or
-- more, with zeros in front or without. 45 is `-`.
use Rattle.std.specs.Prelude.{ℕ, ◌^◌, ◌==◌, ℤ, pos, neg_ℤ, List, [], ◌∷◌, Option, Some, None, option_and_then, nat_le, nat_lt, if◌then◌else◌}
use Rattle.std.specs.List.{list_all}
use Rattle.jk_model.specs.ScriptGrammar.{is_digit, numeral_value}

-- the value of digits, of which there is one at least
abbrev pub digits_value : List ℕ → Option ℕ
digits_value [] = None
digits_value (u ∷ units) = if list_all is_digit (u ∷ units) then Some (numeral_value (u ∷ units)) else None

-- the int of this value, and of this value below 0, in 32 bits
abbrev pub int_above : ℕ → Option ℤ
int_above n = if nat_lt n (2 ^ 31) then Some (pos n) else None

abbrev pub int_below : ℕ → Option ℤ
int_below n = if nat_le n (2 ^ 31) then Some (neg_ℤ (pos n)) else None

-- nothing where the text is of another form, or the number doesn't fit
abbrev pub parsed : List ℕ → Option ℤ
parsed [] = None
parsed (u ∷ units) =
    if u == 45 then option_and_then int_below (digits_value units) else option_and_then int_above (digits_value (u ∷ units))
