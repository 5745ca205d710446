-- A number is written one way, and only where nothing in the word is needless.
use Rattle.std.proofs.Common.{◌≡◌, ◌≢◌, ℕ, ◌^◌, ◌<◌, ◌≤◌, zero, suc, ℤ, pos, negsuc, Bool, ◌&&◌, ◌||◌, ◌==◌, nat_le, IsTrue, List, [], ◌∷◌, ◌++◌, length, drop, get_or, refl, sym, ap, ◌∙◌, arith, lit<, Option, Result, Ok, Err, MatchOption, inl, inr}
use Rattle.std.specs.List.{list_all}
use Rattle.std.specs.Fmt.{decimal, signed_decimal}
use Rattle.std.specs.Int.{IsInRange}
use Rattle.std.specs.Int.RustNames.{FitsSigned}
use Rattle.std.specs.Int.Signed.{mag}
use Rattle.std.specs.Int.{FitsUnsignedBits, w16, w32, w64}
use Rattle.std.specs.Result.{OkIff, result_ok}
use Rattle.std.specs.Str.{IsUtf8}
use Rattle.std.specs.Str.Parse.{AllDigits, digits_value, ParsesSigned}
use Rattle.std.proofs.Math.IntN.{neg_ℤ, nat_abs}
use Rattle.std.proofs.lemmas.Bool.{and_from, or_right, le-leb, cases_eq}
use Rattle.std.proofs.lemmas.Int.{ints}
use Rattle.std.proofs.lemmas.Str.{IsUtf8-from_ascii}
use Rattle.std.proofs.lemmas.Str.Parse.{IsNumeralModel, numerals_by_value, tells_digits, digit_at, digit_from_value, parse_signed_plain, parse_signed_minus}
use Rattle.std.proofs.lemmas.Fmt.{digits_decimal, decimal_nonempty, decimal_digit, first_decimal, decimal-digits_value, signed_decimal_injective, parse-signed_decimal, IsAscii-signed}
use Rattle.asm_reader.specs.Numbers.{decimal_of, IsShortNumber, IsIntNumber, IsLongNumber}
use Rattle.asm_reader.specs.NumberForms.{HasNoNeedless}
use Rattle.asm_reader.proofs.OneSplitIntoWords.{one_span}

plain : IsNumeralModel (AllDigits 10) (digits_value 10)
plain = numerals_by_value (AllDigits 10) tells_digits

-- ---- Ranges.

pub short_is_long : (n : ℤ) → IsShortNumber n → IsLongNumber n
short_is_long n h = (omega (arith, ints), omega (arith, ints))

pub int_is_long : (n : ℤ) → IsIntNumber n → IsLongNumber n
int_is_long n h = (omega (arith, ints), omega (arith, ints))

pub count_is_long : (n : ℕ) → n ≤ 65535 → IsLongNumber (pos n)
count_is_long n h = (omega (arith, ints), omega (arith, ints))

pub fits_long : (n : ℤ) → IsLongNumber n → FitsSigned w64 n
fits_long n h = omega (arith, ints)

long_fits : (n : ℤ) → FitsSigned w64 n → IsLongNumber n
long_fits n h = (omega (arith, ints), omega (arith, ints))

pub fits_int : (n : ℤ) → IsIntNumber n → FitsSigned w32 n
fits_int n h = omega (arith, ints)

pub int_fits : (n : ℤ) → FitsSigned w32 n → IsIntNumber n
int_fits n h = (omega (arith, ints), omega (arith, ints))

pub fits_short : (n : ℤ) → IsShortNumber n → FitsSigned w16 n
fits_short n h = omega (arith, ints)

pub short_fits : (n : ℤ) → FitsSigned w16 n → IsShortNumber n
short_fits n h = (omega (arith, ints), omega (arith, ints))

mag_of_long : (n : ℤ) → IsLongNumber n → mag n < 2 ^ 63
mag_of_long n h = (fits_long n h).sfits

pos_small : (n : ℕ) → IsLongNumber (pos n) → n < 2 ^ 63
pos_small n h = mag_of_long (pos n) h

negative_small : (n : ℕ) → IsLongNumber (negsuc n) → suc n < 2 ^ 64
negative_small n h = let small = mag_of_long (negsuc n) h in omega arith

-- ---- One number for one text.

signed : (n : ℤ) → decimal_of n ≡ signed_decimal n
signed (pos n) = refl
signed (negsuc n) = refl

pub one_decimal : (m n : ℤ) → IsLongNumber m → IsLongNumber n → decimal_of m ≡ decimal_of n → m ≡ n
one_decimal m n f g e = signed_decimal_injective m n (mag_of_long m f) (mag_of_long n g) (sym (signed m) ∙ e ∙ signed n)

-- ---- The bytes of a number are digits and `-`.

-- 48 to 57, and 45
abbrev pub is_number_byte : ℕ → Bool
is_number_byte b = b == 45 || (nat_le 48 b && nat_le b 57)

number_bytes_of_digits : (ds : List ℕ) → AllDigits 10 ds → IsTrue (list_all is_number_byte ds)
number_bytes_of_digits [] h = refl
number_bytes_of_digits (d ∷ ds) h =
    let range = digit_from_value d h.0 in
    let digit = and_from (nat_le 48 d) (nat_le d 57) (le-leb 48 d range.0) (le-leb d 57 range.1) in
    and_from (is_number_byte d) (list_all is_number_byte ds) (or_right (d == 45) (nat_le 48 d && nat_le d 57) digit) (number_bytes_of_digits ds h.1)

pub decimal_bytes : (n : ℤ) → IsLongNumber n → IsTrue (list_all is_number_byte (decimal_of n))
decimal_bytes (pos n) h = let small = pos_small n h in number_bytes_of_digits (decimal n) (digits_decimal plain n (omega arith))
decimal_bytes (negsuc n) h = number_bytes_of_digits (decimal (suc n)) (digits_decimal plain (suc n) (negative_small n h))

-- `=`, 61, is no such byte, so that it ends a number one way
pub decimal_has_no_equals : (k l : ℤ) (a b : List ℕ) → IsLongNumber k → IsLongNumber l
    → decimal_of k ++ 61 ∷ a ≡ decimal_of l ++ 61 ∷ b → (k ≡ l) × (a ≡ b)
decimal_has_no_equals k l a b f g e =
    let same = one_span is_number_byte (decimal_of k) (61 ∷ a) (decimal_of l) (61 ∷ b) (decimal_bytes k f) refl (decimal_bytes l g) refl e in
    (one_decimal k l f g same.0, cc)

-- ---- Nothing in a number is needless.

first_digit : (n : ℕ) → n < 2 ^ 64 → IsInRange 48 57 (get_or (decimal n) 0 0)
first_digit n h = digit_at (decimal n) 0 (digits_decimal plain n h) (decimal_nonempty n h)

zero_alone : (n : ℕ) → n < 2 ^ 64 → get_or (decimal n) 0 0 ≡ 48 → length (decimal n) ≡ 1
zero_alone zero h e = ap length (decimal_digit 0 (lit< tt))
zero_alone (suc n) h e = absurd (omega (arith, first_decimal (suc n) (omega arith) h))

none_needless : (n : ℤ) → IsLongNumber n → HasNoNeedless (decimal_of n)
none_needless (pos n) h =
    let low = pos_small n h in
    let small : n < 2 ^ 64 = omega arith in
    let digit = first_digit n small in
    record { no_plus = λ e. omega (arith, e, digit.0); zero_alone = zero_alone n small; no_minus_zero = λ e. absurd (omega (arith, e, digit.0)) }
none_needless (negsuc n) h =
    let first = first_decimal (suc n) (omega arith) (negative_small n h) in
    record { no_plus = λ e. omega (arith, e); zero_alone = λ e. absurd (omega (arith, e)); no_minus_zero = λ _ e. omega (arith, first, e) }

pub needless : (word : List ℕ) → (HasNoNeedless word → ⊥) → (n : ℤ) → IsLongNumber n → word ≡ decimal_of n → ⊥
needless word never n h e = never (rw e (none_needless n h))

-- a number is a text
pub no_text : (word : List ℕ) → (IsUtf8 word → ⊥) → (n : ℤ) → IsLongNumber n → word ≡ decimal_of n → ⊥
no_text word never n h e =
    never (rw (e, signed n) (IsUtf8-from_ascii (signed_decimal n) (IsAscii-signed n (mag_of_long n h))))

-- ---- What a text reads as.

unread : {E : Type 0} (word : List ℕ) (e : E) → ParsesSigned w64 10 word (Err e) → (n : ℤ) → IsLongNumber n → word ≡ decimal_of n → ⊥
unread word e p n h same =
    let read : Err e ≡ Ok n = parse-signed_decimal w64 n word (Err e) (fits_long n h) (mag_of_long n h) (same ∙ signed n) p in
    cc

not_minus : (E : Type 0) (word : List ℕ) (z : ℤ) → ParsesSigned {E = E} w64 10 word (Ok z) → HasNoNeedless word → get_or word 0 0 ≢ 45
    → IsLongNumber z × (word ≡ decimal_of z)
not_minus E word z p f other =
    let read = parse_signed_plain plain {E = E} w64 word (Ok z) p f.no_plus other in
    let small : digits_value 10 word < 2 ^ 64 = omega (arith, read.0.2) in
    let written = decimal-digits_value plain word read.0.0 read.0.1 f.zero_alone small in
    rw read.1 (long_fits (pos (digits_value 10 word)) record { sfits = read.0.2 }, sym written)

tail_of : (word : List ℕ) → get_or word 0 0 ≡ 45 → word ≡ 45 ∷ drop 1 word
tail_of [] e = absurd (omega (arith, e))
tail_of (x ∷ word) e = ap (λ b. b ∷ word) e

second : (word : List ℕ) → get_or (drop 1 word) 0 0 ≡ get_or word 1 0
second [] = refl
second (x ∷ word) = refl

negative : (word ds : List ℕ) (n : ℕ) → word ≡ 45 ∷ ds → get_or ds 0 0 ≢ 48 → decimal n ≡ ds → n ≤ 2 ^ 63
    → IsLongNumber (neg_ℤ (pos n)) × (word ≡ decimal_of (neg_ℤ (pos n)))
negative word ds zero e no_zero written small =
    let first : get_or ds 0 0 ≡ 48 = ap (λ l. get_or l 0 0) (sym written ∙ decimal_digit 0 (lit< tt)) in
    absurd (no_zero first)
negative word ds (suc n) e no_zero written small =
    (long_fits (negsuc n) record { sfits = omega arith }, e ∙ ap (λ l. 45 ∷ l) (sym written))

minus : (E : Type 0) (word : List ℕ) (z : ℤ) → ParsesSigned {E = E} w64 10 word (Ok z) → HasNoNeedless word → get_or word 0 0 ≡ 45
    → IsLongNumber z × (word ≡ decimal_of z)
minus E word z p f e =
    let read = parse_signed_minus plain {E = E} w64 word (Ok z) p e in
    let no_zero : get_or (drop 1 word) 0 0 ≢ 48 = rw second (f.no_minus_zero e) in
    let small : digits_value 10 (drop 1 word) < 2 ^ 64 = omega (arith, read.0.2) in
    let written = decimal-digits_value plain (drop 1 word) read.0.0 read.0.1 (λ first. absurd (no_zero first)) small in
    rw read.1 (negative word (drop 1 word) (digits_value 10 (drop 1 word)) (tail_of word e) no_zero written read.0.2)

read_as : (E : Type 0) (word : List ℕ) (z : ℤ) → ParsesSigned {E = E} w64 10 word (Ok z) → HasNoNeedless word
    → IsLongNumber z × (word ≡ decimal_of z)
read_as E word z p f =
    elim (cases_eq (get_or word 0 0) 45) [ inl e ↦ minus E word z p f e | inr other ↦ not_minus E word z p f other ]

pub parsed : {E : Type 0} (word : List ℕ) (r : Result ℤ E) (o : Option ℤ) → ParsesSigned w64 10 word r → o ≡ result_ok r → HasNoNeedless word
    → MatchOption o ((n : ℤ) → IsLongNumber n → word ≡ decimal_of n → ⊥) (λ n. IsLongNumber n × (word ≡ decimal_of n))
parsed {E} word (Ok z) o p e f = rw e (read_as E word z p f)
parsed word (Err x) o p e f = rw e (unread word x p)

-- ---- Narrower numbers.

fits_or_not : {E : Type 0} (Fit : ℤ → Type 0) (Is : ℤ → Type 0) → ((n : ℤ) → Fit n → Is n) → ((n : ℤ) → Is n → Fit n)
    → ((n : ℤ) → Is n → IsLongNumber n) → (word : List ℕ) (number : ℤ) (r : Result ℤ E) (o : Option ℤ)
    → OkIff r (Fit number) number → o ≡ result_ok r → IsLongNumber number → word ≡ decimal_of number
    → MatchOption o ((n : ℤ) → Is n → word ≡ decimal_of n → ⊥) (λ n. Is n × (word ≡ decimal_of n))
fits_or_not Fit Is of to long word number (Ok z) o h e f w = rw (e, h.1) (of number h.0, w)
fits_or_not Fit Is of to long word number (Err x) o h e f w =
    rw e (λ n is same. h (let one : number ≡ n = one_decimal number n f (long n is) (sym w ∙ same) in rw one (to n is)))

pub short_or_not : {E : Type 0} (word : List ℕ) (number : ℤ) (r : Result ℤ E) (o : Option ℤ) → OkIff r (FitsSigned w16 number) number
    → o ≡ result_ok r → IsLongNumber number → word ≡ decimal_of number
    → MatchOption o ((n : ℤ) → IsShortNumber n → word ≡ decimal_of n → ⊥) (λ n. IsShortNumber n × (word ≡ decimal_of n))
short_or_not word number r o = fits_or_not (FitsSigned w16) IsShortNumber short_fits fits_short short_is_long word number r o

pub int_or_not : {E : Type 0} (word : List ℕ) (number : ℤ) (r : Result ℤ E) (o : Option ℤ) → OkIff r (FitsSigned w32 number) number
    → o ≡ result_ok r → IsLongNumber number → word ≡ decimal_of number
    → MatchOption o ((n : ℤ) → IsIntNumber n → word ≡ decimal_of n → ⊥) (λ n. IsIntNumber n × (word ≡ decimal_of n))
int_or_not word number r o = fits_or_not (FitsSigned w32) IsIntNumber int_fits fits_int int_is_long word number r o

pub count_or_not : {E : Type 0} (word : List ℕ) (number : ℤ) (r : Result ℕ E) (o : Option ℕ)
    → OkIff r (FitsUnsignedBits 16 number) (nat_abs number) → o ≡ result_ok r → IsLongNumber number → word ≡ decimal_of number
    → MatchOption o ((n : ℕ) → n ≤ 65535 → word ≡ decimal_of (pos n) → ⊥) (λ n. (n ≤ 65535) × (word ≡ decimal_of (pos n)))
count_or_not word (pos m) (Ok z) o h e f w = rw (e, h.1) (omega (arith, h.0), w)
count_or_not word (negsuc m) (Ok z) o h e f w = absurd h.0
count_or_not word number (Err x) o h e f w =
    rw e (λ n is same. h (let one : number ≡ pos n = one_decimal number (pos n) f (count_is_long n is) (sym w ∙ same) in rw one (omega arith)))
