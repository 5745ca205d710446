-- The parts of items' lines: the keyword, and the first words of a line with what follows them.
use Rattle.std.specs.Prelude.{◌≡◌, ℕ, ◌≤◌, pos, List, [], ◌∷◌, ◌++◌}
use Rattle.asm_reader.specs.declared.item_lines.Keyword as code
use Rattle.asm_reader.specs.declared.item_lines.Keyword.TheVariants as code_keyword
use Rattle.asm_reader.specs.declared.words.Word.{Word}
use Rattle.asm_reader.specs.declared.words.Word.TheVariants.{Plain}
use Rattle.asm_reader.specs.Items.{Keyword, Class, Field, Method, Catch, End, Code}
use Rattle.asm_reader.specs.Numbers.{decimal_of, IsHex}
use Rattle.asm_reader.specs.Statements.{IsLabel}

-- the keyword that a value of the code stands for
abbrev pub keyword_seen : code.Keyword → Keyword
keyword_seen code_keyword.Class = Class
keyword_seen code_keyword.Field = Field
keyword_seen code_keyword.Method = Method
keyword_seen code_keyword.Catch = Catch
keyword_seen code_keyword.End = End
keyword_seen code_keyword.Code = Code

-- `FLAGS NAME THIRD`, and the words after these
abbrev pub IsHead : List Word → ℕ → List ℕ → List ℕ → List Word → Type 0
IsHead words n name third rest =
    (flags : List ℕ) × IsHex flags n × (words ≡ Plain flags ∷ Plain name ∷ Plain third ∷ rest)

-- a number of slots, and the words after it
abbrev pub IsSize : List Word → ℕ → List Word → Type 0
IsSize words n rest = (n ≤ 65535) × (words ≡ Plain (decimal_of (pos n)) ∷ rest)

-- two of them, and the words after these
abbrev pub AreSizes : List Word → ℕ → ℕ → List Word → Type 0
AreSizes words stack locals rest =
    (stack ≤ 65535) × (locals ≤ 65535)
    × (words ≡ Plain (decimal_of (pos stack)) ∷ Plain (decimal_of (pos locals)) ∷ rest)

-- a label, and the words after it
abbrev pub IsLabelWord : List Word → List ℕ → List Word → Type 0
IsLabelWord words label rest = IsLabel label × (words ≡ Plain label ∷ rest)

-- three labels, and the words after these
abbrev pub AreLabels : List Word → List ℕ → List ℕ → List ℕ → List Word → Type 0
AreLabels words from to handler rest =
    IsLabel from × IsLabel to × IsLabel handler × (words ≡ Plain from ∷ Plain to ∷ Plain handler ∷ rest)

-- a label with a `:`, 58, and the words after it
abbrev pub IsMarked : List Word → List ℕ → List Word → Type 0
IsMarked words label rest = IsLabel label × (words ≡ Plain (label ++ 58 ∷ []) ∷ rest)
