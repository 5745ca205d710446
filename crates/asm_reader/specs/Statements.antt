-- Instructions as they are written: a name, and its operands.
use Rattle.std.specs.Prelude.{◌≡◌, ◌≢◌, ℕ, ◌≤◌, ◌⊎◌, ◌==◌, ℤ, pos, not, IsTrue, List, [], ◌∷◌, ◌++◌, map, Some, codes}
use Rattle.std.specs.List.{list_all, AllByRecursion}
use Rattle.jk_model.specs.Instructions.{IsKind, Rises}
use Rattle.asm_reader.specs.declared.items.Constant.TheVariants.{Int, Long, Text}
use Rattle.asm_reader.specs.declared.items.Statement.{Statement}
use Rattle.asm_reader.specs.declared.items.Statement.TheVariants.{Simple, Push, Load, OnLocal, Increment, Jump, OnMember, OnClass, NewArray, NewArrays, Switch}
use Rattle.asm_reader.specs.declared.items.SwitchLine.{SwitchLine}
use Rattle.asm_reader.specs.declared.mnemonics.Operands.{Operands}
use Rattle.asm_reader.specs.declared.mnemonics.Operands.TheVariants.{Nothing, Number, SingleConstant, WideConstant, Local, LocalAndStep, Label, Member, ClassName, ArrayKind, Dimensions, Cases}
use Rattle.asm_reader.specs.declared.words.Word.{Word}
use Rattle.asm_reader.specs.declared.words.Word.TheVariants.{Plain, Quoted}
use Rattle.asm_reader.specs.Mnemonics.{Mnemonic, mnemonic_named}
use Rattle.asm_reader.specs.Numbers.{decimal_of, IsShortNumber, IsIntNumber, IsLongNumber}

-- a label is one byte or more, none of them `:`, 58
abbrev pub IsLabel : List ℕ → Type 0
IsLabel label = (label ≢ []) × IsTrue (list_all (λ b. not (b == 58)) label)

-- ---- `KEY=LABEL`; `=` is 61.

abbrev pub case_word : SwitchLine → Word
case_word c = Plain (decimal_of c.key ++ 61 ∷ c.label)

abbrev pub IsCase : SwitchLine → Type 0
IsCase c = IsIntNumber c.key × IsLabel c.label

-- each has its range and form, and the keys rise
abbrev pub AreCases : List SwitchLine → Type 0
AreCases cases = AllByRecursion IsCase cases × Rises (map (λ (c : SwitchLine). c.key) cases)

-- ---- Operands.

-- The words after the name of an instruction are its operands, of this sort, and make this statement.
abbrev pub HasOperands : ℕ → Operands → List Word → Statement → Type 0
HasOperands op Nothing words s = (words ≡ []) × (s ≡ Simple op)
HasOperands op Number words s = (n : ℤ) × IsShortNumber n × (words ≡ Plain (decimal_of n) ∷ []) × (s ≡ Push n)
HasOperands op SingleConstant words s =
    ((n : ℤ) × IsIntNumber n × (words ≡ Plain (codes "int") ∷ Plain (decimal_of n) ∷ []) × (s ≡ Load (Int n)))
    ⊎ ((text : List ℕ) × (words ≡ Plain (codes "text") ∷ Quoted text ∷ []) × (s ≡ Load (Text text)))
HasOperands op WideConstant words s =
    (n : ℤ) × IsLongNumber n × (words ≡ Plain (codes "long") ∷ Plain (decimal_of n) ∷ []) × (s ≡ Load (Long n))
HasOperands op Local words s = (n : ℕ) × (n ≤ 65535) × (words ≡ Plain (decimal_of (pos n)) ∷ []) × (s ≡ OnLocal op n)
HasOperands op LocalAndStep words s =
    (n : ℕ) × (step : ℤ) × (n ≤ 65535) × IsShortNumber step
    × (words ≡ Plain (decimal_of (pos n)) ∷ Plain (decimal_of step) ∷ []) × (s ≡ Increment n step)
HasOperands op Label words s = (label : List ℕ) × IsLabel label × (words ≡ Plain label ∷ []) × (s ≡ Jump op label)
HasOperands op (Member kind) words s =
    (class : List ℕ) × (name : List ℕ) × (descriptor : List ℕ)
    × (words ≡ Plain class ∷ Plain name ∷ Plain descriptor ∷ []) × (s ≡ OnMember op kind class name descriptor)
HasOperands op ClassName words s = (class : List ℕ) × (words ≡ Plain class ∷ []) × (s ≡ OnClass op class)
HasOperands op ArrayKind words s =
    (kind : ℕ) × IsKind kind × (words ≡ Plain (decimal_of (pos kind)) ∷ []) × (s ≡ NewArray kind)
HasOperands op Dimensions words s =
    (class : List ℕ) × (dims : ℕ) × (1 ≤ dims) × (dims ≤ 255)
    × (words ≡ Plain class ∷ Plain (decimal_of (pos dims)) ∷ []) × (s ≡ NewArrays class dims)
HasOperands op Cases words s =
    (default : List ℕ) × (cases : List SwitchLine) × IsLabel default × AreCases cases
    × (words ≡ Plain default ∷ map case_word cases) × (s ≡ Switch default cases)

-- These words are this instruction.
abbrev pub IsStatement : List Word → Statement → Type 0
IsStatement words s =
    (m : Mnemonic) × (name : List ℕ) × (operands : List Word)
    × (words ≡ Plain name ∷ operands) × (mnemonic_named name ≡ Some m) × HasOperands m.op m.operands operands s
