-- What the words after the name of an instruction, or one of them, are found to be.
use Rattle.std.specs.Prelude.{◌≡◌, ℕ, ℤ, ◌<ℤ◌, List, [], ◌∷◌, map, codes, Option, Some, None}
use Rattle.asm_reader.specs.declared.items.Statement.{Statement}
use Rattle.asm_reader.specs.declared.items.SwitchLine.{SwitchLine}
use Rattle.asm_reader.specs.declared.mnemonics.Operands.{Operands}
use Rattle.asm_reader.specs.declared.words.Word.{Word}
use Rattle.asm_reader.specs.declared.words.Word.TheVariants.{Plain, Quoted}
use Rattle.asm_reader.specs.Numbers.{decimal_of}
use Rattle.asm_reader.specs.Statements.{HasOperands, case_word, IsCase, AreCases}

-- the statement that operands of this sort make, or that they make none
abbrev pub Finds : ℕ → Operands → List Word → Option Statement → Type 0
Finds op operands words None = (s : Statement) → HasOperands op operands words s → ⊥
Finds op operands words (Some s) = HasOperands op operands words s

-- the case that a word is, or that it is none
abbrev pub FindsCase : Word → Option SwitchLine → Type 0
FindsCase word None = (c : SwitchLine) → IsCase c → word ≡ case_word c → ⊥
FindsCase word (Some c) = IsCase c × (word ≡ case_word c)

-- the cases that words are, or that they are none
abbrev pub FindsCases : List Word → Option (List SwitchLine) → Type 0
FindsCases words None = (cases : List SwitchLine) → AreCases cases → words ≡ map case_word cases → ⊥
FindsCases words (Some cases) = AreCases cases × (words ≡ map case_word cases)

-- the key is above that of the last case, where there is one
abbrev pub IsAbove : List SwitchLine → ℤ → Type 0
IsAbove [] key = Unit {0}
IsAbove (c ∷ []) key = c.key <ℤ key
IsAbove (c ∷ d ∷ cases) key = IsAbove (d ∷ cases) key

-- ---- The words of a constant.

abbrev pub IsIntConstant : ℤ → List Word → Type 0
IsIntConstant n words = words ≡ Plain (codes "int") ∷ Plain (decimal_of n) ∷ []

abbrev pub IsLongConstant : ℤ → List Word → Type 0
IsLongConstant n words = words ≡ Plain (codes "long") ∷ Plain (decimal_of n) ∷ []

abbrev pub IsTextConstant : List ℕ → List Word → Type 0
IsTextConstant text words = words ≡ Plain (codes "text") ∷ Quoted text ∷ []
