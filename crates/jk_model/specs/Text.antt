-- Texts: modified UTF-8 (the Java Virtual Machine Specification, 4.4.7), and how output shows a text.
use Rattle.std.specs.Prelude.{◌≡◌, ℕ, ◌+◌, ◌-◌, ◌*◌, ◌/◌, ◌%◌, ◌≤◌, ◌&&◌, ◌≢◌, List, [], ◌∷◌, ◌++◌, nat_le, nat_lt, ◌==◌, if◌then◌else◌, length, flat_map, chars}
use Rattle.std.specs.Char.Escape.{encode_utf16}

-- ---- Modified UTF-8. A unit has one, two or three bytes. Overlong spellings count, and a surrogate
-- is three bytes of its own. No unit's bytes begin with 00, or with f0 to ff.

abbrev pub IsUnit : List ℕ → ℕ → Type 0
IsUnit [] u = ⊥
IsUnit (a ∷ []) u = (1 ≤ a) × (a ≤ 0x7f) × (u ≡ a)
IsUnit (a ∷ b ∷ []) u =
    (0xc0 ≤ a) × (a ≤ 0xdf) × (0x80 ≤ b) × (b ≤ 0xbf) × (u ≡ (a - 0xc0) * 64 + (b - 0x80))
IsUnit (a ∷ b ∷ c ∷ []) u =
    (0xe0 ≤ a) × (a ≤ 0xef) × (0x80 ≤ b) × (b ≤ 0xbf) × (0x80 ≤ c) × (c ≤ 0xbf)
    × (u ≡ (a - 0xe0) * 4096 + (b - 0x80) * 64 + (c - 0x80))
IsUnit (a ∷ b ∷ c ∷ d ∷ more) u = ⊥

-- the bytes spell these units, one after the other
abbrev pub Spells : List ℕ → List ℕ → Type 0
Spells bytes [] = bytes ≡ []
Spells bytes (u ∷ units) =
    (front : List ℕ) × (rest : List ℕ) × IsUnit front u × (bytes ≡ front ++ rest) × Spells rest units

abbrev pub IsModifiedUtf8 : List ℕ → Type 0
IsModifiedUtf8 bytes = (units : List ℕ) × Spells bytes units

-- the bytes of a unit stand in front
abbrev pub BeginsWithUnit : List ℕ → Type 0
BeginsWithUnit bytes = (front : List ℕ) × (u : ℕ) × (rest : List ℕ) × IsUnit front u × (bytes ≡ front ++ rest)

-- Bytes stop being modified UTF-8 at this place: those in front of it spell units, one after the other,
-- and there are bytes from there on, but they begin with no unit.
abbrev pub IsBadEncoding : List ℕ → ℕ → Type 0
IsBadEncoding bytes place =
    (front : List ℕ) × (rest : List ℕ) × (units : List ℕ) × (bytes ≡ front ++ rest) × Spells front units
    × (length front ≡ place) × (rest ≢ []) × (BeginsWithUnit rest → ⊥)

-- ---- Output. A unit from 32 to 126 stands for itself, but a backslash is doubled; each other unit is
-- `\u` and four hexadecimal digits.

abbrev pub hex_digit : ℕ → ℕ
hex_digit d = if nat_lt d 10 then 48 + d else 87 + d

abbrev pub shown_unit : ℕ → List ℕ
shown_unit u =
    if u == 92 then 92 ∷ 92 ∷ []
    else (if nat_le 32 u && nat_le u 126 then u ∷ []
    else 92 ∷ 117 ∷ hex_digit (u / 4096 % 16) ∷ hex_digit (u / 256 % 16) ∷ hex_digit (u / 16 % 16) ∷ hex_digit (u % 16) ∷ [])

abbrev pub shown : List ℕ → List ℕ
shown units = flat_map shown_unit units

-- the UTF-16 of a text in UTF-8, as a path has it
abbrev pub utf16_of : List ℕ → List ℕ
utf16_of bytes = flat_map encode_utf16 (chars bytes)
