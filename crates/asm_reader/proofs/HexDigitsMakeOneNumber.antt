-- One to four hexadecimal digits make one number.
use Rattle.std.proofs.Common.{◌≡◌, ℕ, ◌+◌, ◌*◌, ◌^◌, ◌<◌, ◌≤◌, IsTrue, List, length, take, sym, ◌∙◌, arith}
use Rattle.std.specs.List.{list_all, fold}
use Rattle.std.proofs.lemmas.Bool.Decides.{nat_tests}
use Rattle.std.proofs.Math.Nat.{pow-le-pow_right}
use Rattle.asm_reader.specs.Numbers.{is_hex_digit, hex_value, IsHex}

pub one_hex : (word : List ℕ) (m n : ℕ) → IsHex word m → IsHex word n → m ≡ n
one_hex word m n f g = f.3 ∙ sym g.3

-- what digits make
abbrev pub hex_of : List ℕ → ℕ
hex_of digits = fold (λ (m : ℕ) b. m * 16 + hex_value b) 0 digits

pub digit_small : (b : ℕ) → IsTrue (is_hex_digit b) → hex_value b < 16
digit_small b h = grind (arith, nat_tests)

-- what is known once some digits are read
pub record ReadsHex (word : List ℕ) (i value : ℕ) : Type 0 where
  pub digits : IsTrue (list_all is_hex_digit (take i word))
  pub value_is : value ≡ hex_of (take i word)
  pub small : value < 16 ^ i

-- a fourth digit fits two bytes
pub room : (word : List ℕ) (i value : ℕ) → ReadsHex word i value → i < length word → length word ≤ 4 → value < 4096
room word i value h l short = omega (arith, h.small, pow-le-pow_right {n = 16} (omega arith) {i = i} {j = 3} (omega arith))
