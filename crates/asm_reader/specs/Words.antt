-- The lines of a text, and their words.
use Rattle.std.specs.Prelude.{◌≡◌, ◌≢◌, ℕ, ◌⊎◌, ◌&&◌, ◌||◌, ◌==◌, Bool, not, IsTrue, List, [], ◌∷◌, ◌++◌, length, nat_le}
use Rattle.std.specs.List.{slice_split, list_all}
use Rattle.asm_reader.specs.declared.words.Word.{Word}
use Rattle.asm_reader.specs.declared.words.Word.TheVariants.{Plain, Quoted}
use Rattle.asm_reader.specs.declared.words.LineWords.{LineWords}
use Rattle.asm_reader.specs.declared.words.LineWords.TheVariants.{Empty, Words, Malformed}

-- ---- Lines. A line feed ends each; the last may do without one.

abbrev without_empty_last : List (List ℕ) → List (List ℕ)
without_empty_last [] = []
without_empty_last ([] ∷ []) = []
without_empty_last (line ∷ lines) = line ∷ without_empty_last lines

abbrev pub text_lines : List ℕ → List (List ℕ)
text_lines text = without_empty_last (slice_split (λ b. b == 10) text)

-- ---- Words stand between spaces. A quoted text is one word.

-- bytes 33 to 126 but the quote, 34
abbrev pub is_plain_byte : ℕ → Bool
is_plain_byte b = nat_le 33 b && nat_le b 126 && not (b == 34)

-- the space too
abbrev pub is_quoted_byte : ℕ → Bool
is_quoted_byte b = b == 32 || is_plain_byte b

abbrev pub IsWord : Word → Type 0
IsWord (Plain bytes) = (bytes ≢ []) × IsTrue (list_all is_plain_byte bytes)
IsWord (Quoted text) = IsTrue (list_all is_quoted_byte text)

abbrev pub word_bytes : Word → List ℕ
word_bytes (Plain bytes) = bytes
word_bytes (Quoted text) = 34 ∷ text ++ 34 ∷ []

abbrev pub AreSpaces : List ℕ → Type 0
AreSpaces bytes = IsTrue (list_all (λ b. b == 32) bytes)

-- the line ends here, or goes on with a space
abbrev pub EndsWord : List ℕ → Type 0
EndsWord rest = (rest ≡ []) ⊎ ((more : List ℕ) × (rest ≡ 32 ∷ more))

-- the line is these words, with spaces around them
abbrev pub HasWords : List ℕ → List Word → Type 0
HasWords line [] = AreSpaces line
HasWords line (word ∷ words) =
    (spaces : List ℕ) × (rest : List ℕ) × AreSpaces spaces × IsWord word × (line ≡ spaces ++ word_bytes word ++ rest)
    × EndsWord rest × HasWords rest words

-- The line has no words, or its first word begins with `#`, 35. Any bytes may follow that.
abbrev pub IsEmptyLine : List ℕ → Type 0
IsEmptyLine line =
    (spaces : List ℕ) × (rest : List ℕ) × AreSpaces spaces × (line ≡ spaces ++ rest)
    × ((rest ≡ []) ⊎ ((more : List ℕ) × (rest ≡ 35 ∷ more)))

-- what the bytes of a line are
abbrev pub IsSplit : List ℕ → LineWords → Type 0
IsSplit line Empty = IsEmptyLine line
IsSplit line (Words words) = (IsEmptyLine line → ⊥) × HasWords line words
IsSplit line Malformed = (IsEmptyLine line → ⊥) × ((words : List Word) → HasWords line words → ⊥)

-- the bytes that count of a word: those of a quoted text are the ones between the quotes
abbrev pub content : Word → List ℕ
content (Plain bytes) = bytes
content (Quoted text) = text

-- the most bytes of a word
abbrev pub MAX_WORD : ℕ
MAX_WORD = 65535

abbrev pub is_short_word : Word → Bool
is_short_word word = nat_le (length (content word)) MAX_WORD
