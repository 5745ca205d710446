-- The lines of a script and their words.
use Rattle.std.specs.Prelude.{ℕ, ◌||◌, ◌&&◌, Bool, false, not, List, [], ◌∷◌, length, filter, ◌==◌, nat_le, None}
use Rattle.std.specs.List.{slice_split}
use Rattle.std.specs.Str.Lines.{lines}
use Rattle.jk_model.specs.declared.script.Quotas.{Quotas}

-- The lines of a script. Each is ended by a line feed, and loses a carriage return before that; the
-- last may do without one, and then keeps its carriage return.
abbrev pub script_lines : List ℕ → List (List ℕ)
script_lines bytes = lines bytes

-- The limits of a script: its bytes, and its lines.
abbrev pub MAX_BYTES : ℕ
MAX_BYTES = 1048576

abbrev pub MAX_LINES : ℕ
MAX_LINES = 65536

-- blanks are the space and the tab
abbrev pub is_blank : ℕ → Bool
is_blank b = b == 32 || b == 9

-- what stands between blanks
abbrev pub words : List ℕ → List (List ℕ)
words line = filter (λ word. not (length word == 0)) (slice_split is_blank line)

-- a byte that a line may have: a tab, or 32 to 126
abbrev pub is_line_byte : ℕ → Bool
is_line_byte b = b == 9 || (nat_le 32 b && nat_le b 126)

-- the first word begins with `#`
abbrev pub is_comment : List (List ℕ) → Bool
is_comment [] = false
is_comment ([] ∷ more) = false
is_comment ((b ∷ bs) ∷ more) = b == 35

-- a line without words, or whose first word begins with `#`
abbrev pub is_empty_line : List ℕ → Bool
is_empty_line line = length (words line) == 0 || is_comment (words line)

-- a letter, a digit, `_` or `-`
abbrev pub is_name_byte : ℕ → Bool
is_name_byte b =
    (nat_le 97 b && nat_le b 122) || (nat_le 65 b && nat_le b 90) || (nat_le 48 b && nat_le b 57) || b == 95 || b == 45

-- what a `domain` line without options gives
abbrev pub default_quotas : Quotas
default_quotas = record { heap = 65536; chunks = 256; caps = 64; threads = 16; names = 16; steps = None }
