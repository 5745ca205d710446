-- The texts of a short line's item are short, of bytes from 32 to 126, and the numbers of an item are within their types.
use Rattle.std.proofs.Common.{◌≡◌, ℕ, ℤ, ◌≤◌, ◌&&◌, Bool, true, List, [], ◌∷◌, ◌++◌, length, map, nat_le, Option, Some, None, refl, inl, inr, subst, arith}
use Rattle.std.specs.Prelude.{⊤}
use Rattle.std.specs.Int.{w32, w64}
use Rattle.std.specs.Int.RustNames.{FitsSigned}
use Rattle.std.specs.List.{AllByRecursion, list_all}
use Rattle.std.proofs.lemmas.Bool.{and_parts, leb-true}
use Rattle.std.proofs.lemmas.Bool.Decides.{nat_tests}
use Rattle.std.proofs.lemmas.Int.{ints}
use Rattle.asm_reader.specs.declared.items.Constant.{Constant}
use Rattle.asm_reader.specs.declared.items.Constant.TheVariants.{Int, Long, Text}
use Rattle.asm_reader.specs.declared.items.Item.{Item}
use Rattle.asm_reader.specs.declared.items.Item.TheVariants as item
use Rattle.asm_reader.specs.declared.items.Statement.{Statement}
use Rattle.asm_reader.specs.declared.items.Statement.TheVariants.{Load, OnMember, OnClass, NewArrays}
use Rattle.asm_reader.specs.declared.mnemonics.Operands.{Operands}
use Rattle.asm_reader.specs.declared.mnemonics.Operands.TheVariants as operands
use Rattle.asm_reader.specs.declared.words.Word.{Word}
use Rattle.asm_reader.specs.declared.words.Word.TheVariants.{Plain, Quoted}
use Rattle.asm_reader.specs.Items.{Keyword, Class, Field, Method, Catch, End, Code, keyword_of, HasConstant, IsCaught, IsAfterLabel, IsItemOf, IsItem}
use Rattle.asm_reader.specs.Numbers.{IsIntNumber, IsLongNumber}
use Rattle.asm_reader.specs.Readings.{IsItemLine}
use Rattle.asm_reader.specs.Statements.{HasOperands, IsStatement}
use Rattle.asm_reader.specs.Words.{IsWord, HasWords, content, is_plain_byte, is_quoted_byte, is_short_word}

-- ---- What is said of texts and numbers.

abbrev pub is_text_byte : ℕ → Bool
is_text_byte b = nat_le 32 b && nat_le b 126

abbrev pub IsShortText : List ℕ → Type 0
IsShortText bytes = (length bytes ≤ 65535) × (list_all is_text_byte bytes ≡ true)

abbrev pub texts_of_constant : Option Constant → List (List ℕ)
texts_of_constant (Some (Text text)) = text ∷ []
texts_of_constant _ = []

-- names and texts of an instruction, but no labels
abbrev pub texts_of_statement : Option Statement → List (List ℕ)
texts_of_statement (Some (Load constant)) = texts_of_constant (Some constant)
texts_of_statement (Some (OnMember op kind class name descriptor)) = class ∷ name ∷ descriptor ∷ []
texts_of_statement (Some (OnClass op class)) = class ∷ []
texts_of_statement (Some (NewArrays class dims)) = class ∷ []
texts_of_statement _ = []

abbrev texts_of_class : Option (List ℕ) → List (List ℕ)
texts_of_class None = []
texts_of_class (Some class) = class ∷ []

-- the same of an item
abbrev pub texts_of : Item → List (List ℕ)
texts_of (item.Class line) = line.name ∷ line.parent ∷ line.interfaces
texts_of (item.Field line) = line.name ∷ line.descriptor ∷ texts_of_constant line.constant
texts_of (item.Method line) = line.name ∷ line.descriptor ∷ line.throws
texts_of (item.Code line) = texts_of_statement line.statement
texts_of (item.Catch line) = texts_of_class line.class
texts_of item.End = []

abbrev pub HasShortTexts : Item → Type 0
HasShortTexts i = AllByRecursion IsShortText (texts_of i)

abbrev pub ConstantFits : Option Constant → Type 0
ConstantFits (Some (Int n)) = FitsSigned w32 n
ConstantFits (Some (Long n)) = FitsSigned w64 n
ConstantFits _ = ⊤

abbrev pub StatementFits : Option Statement → Type 0
StatementFits (Some (Load constant)) = ConstantFits (Some constant)
StatementFits _ = ⊤

-- the numbers of its constants are within their types
abbrev pub HasFittingNumbers : Item → Type 0
HasFittingNumbers (item.Field line) = ConstantFits line.constant
HasFittingNumbers (item.Code line) = StatementFits line.statement
HasFittingNumbers _ = ⊤

-- ---- Words.

-- what a word says is a short text
abbrev IsShortWord : Word → Type 0
IsShortWord word = IsShortText (content word)

abbrev AreShortWords : List Word → Type 0
AreShortWords words = AllByRecursion IsShortWord words

plain_byte : (b : ℕ) → is_plain_byte b ≡ true → is_text_byte b ≡ true
plain_byte b h = grind (arith, nat_tests)

quoted_byte : (b : ℕ) → is_quoted_byte b ≡ true → is_text_byte b ≡ true
quoted_byte b h = grind (arith, nat_tests)

tests_weaker : (p q : ℕ → Bool) → ((b : ℕ) → p b ≡ true → q b ≡ true) → (bytes : List ℕ) → list_all p bytes ≡ true → list_all q bytes ≡ true
tests_weaker p q implies [] h = refl
tests_weaker p q implies (b ∷ bytes) h =
    let (here, others) = and_parts (p b) (list_all p bytes) h in
    let one : q b ≡ true = implies b here in
    let more : list_all q bytes ≡ true = tests_weaker p q implies bytes others in
    rw (one, more) refl

short_word : (word : Word) → IsWord word → is_short_word word ≡ true → IsShortWord word
short_word (Plain bytes) is short = (leb-true (length bytes) 65535 short, tests_weaker is_plain_byte is_text_byte plain_byte bytes is.1)
short_word (Quoted text) is short = (leb-true (length text) 65535 short, tests_weaker is_quoted_byte is_text_byte quoted_byte text is)

short_words : (line : List ℕ) (words : List Word) → HasWords line words → list_all is_short_word words ≡ true → AreShortWords words
short_words line [] has short = tt
short_words line (word ∷ words) (spaces, rest, blank, is, parts, ends, others) short =
    let (here, more) = and_parts (is_short_word word) (list_all is_short_word words) short in
    (short_word word is here, short_words rest words others more)

plain_texts : (texts : List (List ℕ)) → AreShortWords (map Plain texts) → AllByRecursion IsShortText texts
plain_texts [] h = tt
plain_texts (text ∷ texts) h = (h.0, plain_texts texts h.1)

-- ---- Texts of items.

constant_texts : (descriptor : List ℕ) (words : List Word) (constant : Option Constant) → HasConstant descriptor words constant → AreShortWords words
    → AllByRecursion IsShortText (texts_of_constant constant)
constant_texts descriptor words None is all = tt
constant_texts descriptor words (Some (Int n)) is all = tt
constant_texts descriptor words (Some (Long n)) is all = tt
constant_texts descriptor words (Some (Text text)) is all = let one = subst AreShortWords is all in (one.0, tt)

operand_texts : (op : ℕ) (sort : Operands) (words : List Word) (s : Statement) → HasOperands op sort words s → AreShortWords words
    → AllByRecursion IsShortText (texts_of_statement (Some s))
operand_texts op operands.Nothing words s (none, is) all = rw is tt
operand_texts op operands.Number words s (n, fits, parts, is) all = rw is tt
operand_texts op operands.SingleConstant words s (inl (n, fits, parts, is)) all = rw is tt
operand_texts op operands.SingleConstant words s (inr (text, parts, is)) all = let two = subst AreShortWords parts all in rw is (two.1.0, tt)
operand_texts op operands.WideConstant words s (n, fits, parts, is) all = rw is tt
operand_texts op operands.Local words s (n, few, parts, is) all = rw is tt
operand_texts op operands.LocalAndStep words s (n, step, few, fits, parts, is) all = rw is tt
operand_texts op operands.Label words s (label, good, parts, is) all = rw is tt
operand_texts op (operands.Member kind) words s (class, name, descriptor, parts, is) all =
    let three = subst AreShortWords parts all in
    rw is (three.0, (three.1.0, (three.1.1.0, tt)))
operand_texts op operands.ClassName words s (class, parts, is) all = let one = subst AreShortWords parts all in rw is (one.0, tt)
operand_texts op operands.ArrayKind words s (kind, good, parts, is) all = rw is tt
operand_texts op operands.Dimensions words s (class, dims, some, few, parts, is) all =
    let two = subst AreShortWords parts all in
    rw is (two.0, tt)
operand_texts op operands.Cases words s (default, cases, label, good, parts, is) all = rw is tt

statement_texts : (words : List Word) (s : Statement) → IsStatement words s → AreShortWords words
    → AllByRecursion IsShortText (texts_of_statement (Some s))
statement_texts words s (m, name, rest, parts, named, has) all =
    let more = subst AreShortWords parts all in
    operand_texts m.op m.operands rest s has more.1

labelled_texts : (words : List Word) (s : Option Statement) → IsAfterLabel words s → AreShortWords words → AllByRecursion IsShortText (texts_of_statement s)
labelled_texts words None is all = tt
labelled_texts words (Some s) is all = statement_texts words s is all

caught_texts : (from to handler : List ℕ) (word : Word) (class : Option (List ℕ)) → IsCaught word class → IsShortWord word
    → HasShortTexts (item.Catch (record { from = from; to = to; handler = handler; class = class }))
caught_texts from to handler word None is pool = tt
caught_texts from to handler word (Some class) is pool = let one = subst IsShortWord is.1 pool in (one, tt)

texts_by_keyword : (k : Keyword) (word : List ℕ) (rest : List Word) (i : Item) → IsItemOf k word rest i → AreShortWords (Plain word ∷ rest) → HasShortTexts i
texts_by_keyword Class word rest i (line, is, (flags, hex, parts)) all =
    let more = subst AreShortWords parts all.1 in
    rw is (more.1.0, (more.1.1.0, plain_texts line.interfaces more.1.1.1))
texts_by_keyword Field word rest i (line, is, (flags, others, hex, has, parts)) all =
    let more = subst AreShortWords parts all.1 in
    rw is (more.1.0, (more.1.1.0, constant_texts line.descriptor others line.constant has more.1.1.1))
texts_by_keyword Method word rest i (line, is, (flags, hex, stack, locals, parts)) all =
    let more = subst AreShortWords parts all.1 in
    rw is (more.1.0, (more.1.1.0, plain_texts line.throws more.1.1.1.1.1))
texts_by_keyword Catch word rest i (line, is, (caught, from, to, handler, has, parts)) all =
    let more = subst AreShortWords parts all.1 in
    rw is (caught_texts line.from line.to line.handler caught line.class has more.1.1.1.0)
texts_by_keyword End word rest i (is, none) all = rw is tt
texts_by_keyword Code word rest i (line, is, inl (s, plain, has)) all = rw (is, plain) (statement_texts (Plain word ∷ rest) s has all)
texts_by_keyword Code word rest i (line, is, inr (label, others, good, parts, named, has)) all =
    let more = subst AreShortWords parts all in
    rw is (labelled_texts others line.statement has more.1)

item_texts : (words : List Word) (i : Item) → IsItem words i → AreShortWords words → HasShortTexts i
item_texts words i (word, rest, parts, is) all = texts_by_keyword (keyword_of word) word rest i is (subst AreShortWords parts all)

-- ---- Numbers.

int_fits : (n : ℤ) → IsIntNumber n → FitsSigned w32 n
int_fits n h = omega (arith, ints)

long_fits : (n : ℤ) → IsLongNumber n → FitsSigned w64 n
long_fits n h = omega (arith, ints)

constant_fits : (descriptor : List ℕ) (words : List Word) (constant : Option Constant) → HasConstant descriptor words constant → ConstantFits constant
constant_fits descriptor words None is = tt
constant_fits descriptor words (Some (Int n)) is = int_fits n is.1
constant_fits descriptor words (Some (Long n)) is = long_fits n is.1
constant_fits descriptor words (Some (Text text)) is = tt

operands_fit : (op : ℕ) (sort : Operands) (words : List Word) (s : Statement) → HasOperands op sort words s → StatementFits (Some s)
operands_fit op operands.Nothing words s (none, is) = rw is tt
operands_fit op operands.Number words s (n, fits, parts, is) = rw is tt
operands_fit op operands.SingleConstant words s (inl (n, fits, parts, is)) = rw is (int_fits n fits)
operands_fit op operands.SingleConstant words s (inr (text, parts, is)) = rw is tt
operands_fit op operands.WideConstant words s (n, fits, parts, is) = rw is (long_fits n fits)
operands_fit op operands.Local words s (n, few, parts, is) = rw is tt
operands_fit op operands.LocalAndStep words s (n, step, few, fits, parts, is) = rw is tt
operands_fit op operands.Label words s (label, good, parts, is) = rw is tt
operands_fit op (operands.Member kind) words s (class, name, descriptor, parts, is) = rw is tt
operands_fit op operands.ClassName words s (class, parts, is) = rw is tt
operands_fit op operands.ArrayKind words s (kind, good, parts, is) = rw is tt
operands_fit op operands.Dimensions words s (class, dims, some, few, parts, is) = rw is tt
operands_fit op operands.Cases words s (default, cases, label, good, parts, is) = rw is tt

labelled_fits : (words : List Word) (s : Option Statement) → IsAfterLabel words s → StatementFits s
labelled_fits words None is = tt
labelled_fits words (Some s) (m, name, rest, parts, named, has) = operands_fit m.op m.operands rest s has

numbers_by_keyword : (k : Keyword) (word : List ℕ) (rest : List Word) (i : Item) → IsItemOf k word rest i → HasFittingNumbers i
numbers_by_keyword Class word rest i (line, is, has) = rw is tt
numbers_by_keyword Field word rest i (line, is, (flags, others, hex, has, parts)) = rw is (constant_fits line.descriptor others line.constant has)
numbers_by_keyword Method word rest i (line, is, has) = rw is tt
numbers_by_keyword Catch word rest i (line, is, has) = rw is tt
numbers_by_keyword End word rest i (is, none) = rw is tt
numbers_by_keyword Code word rest i (line, is, inl (s, plain, (m, name, more, parts, named, has))) =
    rw (is, plain) (operands_fit m.op m.operands more s has)
numbers_by_keyword Code word rest i (line, is, inr (label, others, good, parts, named, has)) = rw is (labelled_fits others line.statement has)

-- ---- Lines.

pub short_texts : (line : List ℕ) (i : Item) → IsItemLine line i true → HasShortTexts i
short_texts line i (some, (words, has, is, short)) = item_texts words i is (short_words line words has short)

pub fitting_numbers : (line : List ℕ) (i : Item) (short : Bool) → IsItemLine line i short → HasFittingNumbers i
fitting_numbers line i short (some, (words, has, (word, rest, parts, is), long)) = numbers_by_keyword (keyword_of word) word rest i is
