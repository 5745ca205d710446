-- How numbers are written: decimal ones with a sign, and hexadecimal ones.
use Rattle.std.specs.Prelude.{◌≡◌, ℕ, ◌+◌, ◌-◌, ◌*◌, ◌≤◌, ◌&&◌, ◌||◌, ℤ, pos, negsuc, ◌≤ℤ◌, suc, Bool, IsTrue, List, ◌∷◌, length, fold, nat_le, decimal, if◌then◌else◌}
use Rattle.std.specs.List.{list_all}

-- decimal without a needless zero, with a `-`, 45, in front of a negative one
abbrev pub decimal_of : ℤ → List ℕ
decimal_of (pos n) = decimal n
decimal_of (negsuc n) = 45 ∷ decimal (suc n)

-- ---- The ranges of numbers of two, four and eight bytes.

abbrev pub IsShortNumber : ℤ → Type 0
IsShortNumber n = (negsuc 32767 ≤ℤ n) × (n ≤ℤ pos 32767)

abbrev pub IsIntNumber : ℤ → Type 0
IsIntNumber n = (negsuc 2147483647 ≤ℤ n) × (n ≤ℤ pos 2147483647)

abbrev pub IsLongNumber : ℤ → Type 0
IsLongNumber n = (negsuc 9223372036854775807 ≤ℤ n) × (n ≤ℤ pos 9223372036854775807)

-- ---- Hexadecimal digits of either case.

abbrev pub is_hex_digit : ℕ → Bool
is_hex_digit b = (nat_le 48 b && nat_le b 57) || (nat_le 65 b && nat_le b 70) || (nat_le 97 b && nat_le b 102)

abbrev pub hex_value : ℕ → ℕ
hex_value b = if nat_le b 57 then b - 48 else (if nat_le b 70 then b - 55 else b - 87)

-- one to four of them
abbrev pub IsHex : List ℕ → ℕ → Type 0
IsHex word n =
    (1 ≤ length word) × (length word ≤ 4) × IsTrue (list_all is_hex_digit word)
    × (n ≡ fold (λ (m : ℕ) b. m * 16 + hex_value b) 0 word)
