-- What a line begins with: spaces, a word, and what follows it.
use Rattle.std.specs.Prelude.{◌≡◌, ℕ, ◌++◌, ◌==◌, ⊤, Bool, false, IsTrue, List, [], ◌∷◌}
use Rattle.std.specs.List.{list_all}
use Rattle.asm_reader.specs.declared.words.Word.{Word}
use Rattle.asm_reader.specs.declared.words.Word.TheVariants.{Plain, Quoted}
use Rattle.asm_reader.specs.declared.words.Front.{Front}
use Rattle.asm_reader.specs.declared.words.Front.TheVariants as front
use Rattle.asm_reader.specs.Words.{IsWord, word_bytes, AreSpaces, EndsWord}

-- no byte that passes stands in front
abbrev pub StopsAt : (ℕ → Bool) → List ℕ → Type 0
StopsAt passes [] = ⊤
StopsAt passes (byte ∷ bytes) = passes byte ≡ false

-- all bytes in front that pass, and the rest
pub record IsSpan (passes : ℕ → Bool) (bytes front rest : List ℕ) : Type 0 where
  pub pass : IsTrue (list_all passes front)
  pub stops : StopsAt passes rest
  pub parts : bytes ≡ front ++ rest

-- the text is this word, which ends there, and the rest
pub record IsWordThen (text : List ℕ) (word : Word) (rest : List ℕ) : Type 0 where
  pub is_word : IsWord word
  pub parts : text ≡ word_bytes word ++ rest
  pub ends : EndsWord rest

abbrev pub is_space : ℕ → Bool
is_space b = b == 32

-- the line is spaces, this word, which ends there, and the rest
pub record BeginsWith (line : List ℕ) (word : Word) (rest : List ℕ) : Type 0 where
  pub spaces : List ℕ
  pub text : List ℕ
  pub are_spaces : AreSpaces spaces
  pub parts : line ≡ spaces ++ text
  pub then : IsWordThen text word rest

abbrev pub IsFront : List ℕ → Front → Type 0
IsFront line front.End = AreSpaces line
IsFront line (front.Plain content rest) = BeginsWith line (Plain content.now) rest.now
IsFront line (front.Quoted content rest) = BeginsWith line (Quoted content.now) rest.now
IsFront line front.Malformed = (AreSpaces line → ⊥) × ((word : Word) (rest : List ℕ) → BeginsWith line word rest → ⊥)
