-- The items of a text: its class, fields and methods, and the code of these.
use Rattle.std.specs.Prelude.{◌≡◌, ◌≢◌, ℕ, ◌≤◌, ◌⊎◌, pos, List, [], ◌∷◌, ◌++◌, map, Option, Some, None, bytes_eq, codes, if◌then◌else◌}
use Rattle.asm_reader.specs.declared.items.ClassLine.{ClassLine}
use Rattle.asm_reader.specs.declared.items.FieldLine.{FieldLine}
use Rattle.asm_reader.specs.declared.items.MethodLine.{MethodLine}
use Rattle.asm_reader.specs.declared.items.CodeLine.{CodeLine}
use Rattle.asm_reader.specs.declared.items.CatchLine.{CatchLine}
use Rattle.asm_reader.specs.declared.items.Constant.{Constant}
use Rattle.asm_reader.specs.declared.items.Constant.TheVariants.{Int, Long, Text}
use Rattle.asm_reader.specs.declared.items.Item.{Item}
use Rattle.asm_reader.specs.declared.items.Item.TheVariants as item
use Rattle.asm_reader.specs.declared.items.Statement.{Statement}
use Rattle.asm_reader.specs.declared.words.Word.{Word}
use Rattle.asm_reader.specs.declared.words.Word.TheVariants.{Plain, Quoted}
use Rattle.asm_reader.specs.Numbers.{decimal_of, IsHex, IsIntNumber, IsLongNumber}
use Rattle.asm_reader.specs.Statements.{IsLabel, IsStatement}

-- ---- What a line begins with.

pub data Keyword : Type 0 where
  Class : Keyword
  Field : Keyword
  Method : Keyword
  Catch : Keyword
  End : Keyword
  -- a label, or the name of an instruction
  Code : Keyword

abbrev pub keyword_of : List ℕ → Keyword
keyword_of word =
    if bytes_eq word (codes "class") then Class
    else (if bytes_eq word (codes "field") then Field
    else (if bytes_eq word (codes "method") then Method
    else (if bytes_eq word (codes "catch") then Catch else (if bytes_eq word (codes "end") then End else Code))))

-- ---- The words after the keyword.

-- `class FLAGS NAME PARENT INTERFACE...`
abbrev pub IsClassLine : List Word → ClassLine → Type 0
IsClassLine words line =
    (flags : List ℕ) × IsHex flags line.flags
    × (words ≡ Plain flags ∷ Plain line.name ∷ Plain line.parent ∷ map Plain line.interfaces)

-- the constant of a field: a number is a long where the descriptor is `J`
abbrev pub HasConstant : List ℕ → List Word → Option Constant → Type 0
HasConstant descriptor words None = words ≡ []
HasConstant descriptor words (Some (Int n)) =
    (descriptor ≢ codes "J") × IsIntNumber n × (words ≡ Plain (decimal_of n) ∷ [])
HasConstant descriptor words (Some (Long n)) =
    (descriptor ≡ codes "J") × IsLongNumber n × (words ≡ Plain (decimal_of n) ∷ [])
HasConstant descriptor words (Some (Text text)) = words ≡ Quoted text ∷ []

-- `field FLAGS NAME DESCRIPTOR`, and a constant or none
abbrev pub IsFieldLine : List Word → FieldLine → Type 0
IsFieldLine words line =
    (flags : List ℕ) × (rest : List Word) × IsHex flags line.flags × HasConstant line.descriptor rest line.constant
    × (words ≡ Plain flags ∷ Plain line.name ∷ Plain line.descriptor ∷ rest)

-- `method FLAGS NAME DESCRIPTOR STACK LOCALS THROWS...`
abbrev pub IsMethodLine : List Word → MethodLine → Type 0
IsMethodLine words line =
    (flags : List ℕ) × IsHex flags line.flags × (line.stack ≤ 65535) × (line.locals ≤ 65535)
    × (words ≡ Plain flags ∷ Plain line.name ∷ Plain line.descriptor
    ∷ Plain (decimal_of (pos line.stack)) ∷ Plain (decimal_of (pos line.locals)) ∷ map Plain line.throws)

-- what a catch catches: `any`, or a class
abbrev pub IsCaught : Word → Option (List ℕ) → Type 0
IsCaught word None = word ≡ Plain (codes "any")
IsCaught word (Some class) = (class ≢ codes "any") × (word ≡ Plain class)

-- `catch FROM TO HANDLER CLASS`, or `any` in place of the class
abbrev pub IsCatchLine : List Word → CatchLine → Type 0
IsCatchLine words line =
    (caught : Word) × IsLabel line.from × IsLabel line.to × IsLabel line.handler × IsCaught caught line.class
    × (words ≡ Plain line.from ∷ Plain line.to ∷ Plain line.handler ∷ caught ∷ [])

-- the words after a label: none, or an instruction
abbrev pub IsAfterLabel : List Word → Option Statement → Type 0
IsAfterLabel words None = words ≡ []
IsAfterLabel words (Some statement) = IsStatement words statement

-- a label with a `:`, 58, an instruction, or both
abbrev pub IsCodeLine : List Word → CodeLine → Type 0
IsCodeLine words line =
    ((statement : Statement) × (line ≡ record { label = None; statement = Some statement }) × IsStatement words statement)
    ⊎ ((label : List ℕ) × (rest : List Word) × IsLabel label × (words ≡ Plain (label ++ 58 ∷ []) ∷ rest)
    × (line.label ≡ Some label) × IsAfterLabel rest line.statement)

-- ---- A whole line, by its keyword.

abbrev pub IsItemOf : Keyword → List ℕ → List Word → Item → Type 0
IsItemOf Class word rest i = (line : ClassLine) × (i ≡ item.Class line) × IsClassLine rest line
IsItemOf Field word rest i = (line : FieldLine) × (i ≡ item.Field line) × IsFieldLine rest line
IsItemOf Method word rest i = (line : MethodLine) × (i ≡ item.Method line) × IsMethodLine rest line
IsItemOf Catch word rest i = (line : CatchLine) × (i ≡ item.Catch line) × IsCatchLine rest line
IsItemOf End word rest i = (i ≡ item.End) × (rest ≡ [])
IsItemOf Code word rest i = (line : CodeLine) × (i ≡ item.Code line) × IsCodeLine (Plain word ∷ rest) line

-- These words are this item.
abbrev pub IsItem : List Word → Item → Type 0
IsItem words i =
    (word : List ℕ) × (rest : List Word) × (words ≡ Plain word ∷ rest) × IsItemOf (keyword_of word) word rest i
