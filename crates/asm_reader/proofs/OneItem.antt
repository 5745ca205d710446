-- Words are one item.
use Rattle.std.proofs.Common.{◌≡◌, ℕ, ℤ, List, [], ◌∷◌, ◌++◌, map, decimal, Option, Some, None, codes, refl, sym, ap, ◌∙◌, arith, inl, inr}
use Rattle.std.proofs.lemmas.Int.{ints}
use Rattle.std.proofs.lemmas.List.{append_cancel_right}
use Rattle.asm_reader.specs.declared.items.ClassLine.{ClassLine}
use Rattle.asm_reader.specs.declared.items.FieldLine.{FieldLine}
use Rattle.asm_reader.specs.declared.items.MethodLine.{MethodLine}
use Rattle.asm_reader.specs.declared.items.CodeLine.{CodeLine}
use Rattle.asm_reader.specs.declared.items.CatchLine.{CatchLine}
use Rattle.asm_reader.specs.declared.items.Constant.{Constant}
use Rattle.asm_reader.specs.declared.items.Constant.TheVariants.{Int, Long, Text}
use Rattle.asm_reader.specs.declared.items.Item.{Item}
use Rattle.asm_reader.specs.declared.items.Item.TheVariants as item
use Rattle.asm_reader.specs.declared.items.Statement.{Statement}
use Rattle.asm_reader.specs.declared.words.Word.{Word}
use Rattle.asm_reader.specs.declared.words.Word.TheVariants.{Plain, Quoted}
use Rattle.asm_reader.specs.Items.{Keyword, Class, Field, Method, Catch, End, Code, keyword_of, HasConstant, IsAfterLabel, IsCatchLine, IsCaught, IsClassLine, IsCodeLine, IsFieldLine, IsItem, IsItemOf, IsMethodLine}
use Rattle.asm_reader.specs.Numbers.{decimal_of, IsIntNumber, IsLongNumber}
use Rattle.asm_reader.proofs.CodeLines.{marked_is_no_statement}
use Rattle.asm_reader.proofs.ItemsByKeyword.{by_keyword}
use Rattle.asm_reader.proofs.HexDigitsMakeOneNumber.{one_hex}
use Rattle.asm_reader.proofs.NumbersAreWrittenOneWay.{one_decimal}
use Rattle.asm_reader.proofs.OneCount.{one_count}
use Rattle.asm_reader.proofs.OneStatement.{one_statement}

-- plain words are one list of bytes
one_list : (a b : List (List ℕ)) → map Plain a ≡ map Plain b → a ≡ b
one_list [] [] e = refl
one_list [] (y ∷ ys) e = cc
one_list (x ∷ xs) [] e = cc
one_list (x ∷ xs) (y ∷ ys) e =
    let first : x ≡ y = cc in
    let more : map Plain xs ≡ map Plain ys = cc in
    let others : xs ≡ ys = one_list xs ys more in
    cc

-- ---- Lines by their parts.

abbrev class_line : ℕ → List ℕ → List ℕ → List (List ℕ) → ClassLine
class_line flags name parent interfaces = record { flags = flags; name = name; parent = parent; interfaces = interfaces }

abbrev field_line : ℕ → List ℕ → List ℕ → Option Constant → FieldLine
field_line flags name descriptor constant = record { flags = flags; name = name; descriptor = descriptor; constant = constant }

abbrev method_line : ℕ → List ℕ → List ℕ → ℕ → ℕ → List (List ℕ) → MethodLine
method_line flags name descriptor stack locals throws =
    record { flags = flags; name = name; descriptor = descriptor; stack = stack; locals = locals; throws = throws }

abbrev catch_line : List ℕ → List ℕ → List ℕ → Option (List ℕ) → CatchLine
catch_line from to handler class = record { from = from; to = to; handler = handler; class = class }

abbrev code_line : Option (List ℕ) → Option Statement → CodeLine
code_line label statement = record { label = label; statement = statement }

-- ---- One sort of line after another.

one_class : (words : List Word) (a b : ClassLine) → IsClassLine words a → IsClassLine words b → a ≡ b
one_class words a b h k =
    let same : Plain h.0 ∷ Plain a.name ∷ Plain a.parent ∷ map Plain a.interfaces
    ≡ Plain k.0 ∷ Plain b.name ∷ Plain b.parent ∷ map Plain b.interfaces = sym h.2 ∙ k.2 in
    let word : h.0 ≡ k.0 = cc in
    let flags : a.flags ≡ b.flags = one_hex h.0 a.flags b.flags h.1 (rw word k.1) in
    let name : a.name ≡ b.name = cc in
    let parent : a.parent ≡ b.parent = cc in
    let plain : map Plain a.interfaces ≡ map Plain b.interfaces = cc in
    let interfaces : a.interfaces ≡ b.interfaces = one_list a.interfaces b.interfaces plain in
    let whole : class_line a.flags a.name a.parent a.interfaces ≡ class_line b.flags b.name b.parent b.interfaces
    = rw (flags, name, parent, interfaces) refl in
    whole

long_from_int : (n : ℤ) → IsIntNumber n → IsLongNumber n
long_from_int n h = (omega (arith, ints), omega (arith, ints))

one_constant : (descriptor : List ℕ) (words : List Word) (a b : Option Constant) → HasConstant descriptor words a
    → HasConstant descriptor words b → a ≡ b
one_constant descriptor words None None h k = refl
one_constant descriptor words (Some (Int m)) (Some (Int n)) h k =
    let same : Plain (decimal_of m) ∷ [] ≡ Plain (decimal_of n) ∷ [] = sym h.2 ∙ k.2 in
    let digits : decimal_of m ≡ decimal_of n = cc in
    ap (λ x. Some (Int x)) (one_decimal m n (long_from_int m h.1) (long_from_int n k.1) digits)
one_constant descriptor words (Some (Long m)) (Some (Long n)) h k =
    let same : Plain (decimal_of m) ∷ [] ≡ Plain (decimal_of n) ∷ [] = sym h.2 ∙ k.2 in
    let digits : decimal_of m ≡ decimal_of n = cc in
    ap (λ x. Some (Long x)) (one_decimal m n h.1 k.1 digits)
one_constant descriptor words (Some (Text s)) (Some (Text t)) h k =
    let same : Quoted s ∷ [] ≡ Quoted t ∷ [] = sym h ∙ k in
    cc
one_constant descriptor words (Some (Int m)) (Some (Long n)) h k = absurd (h.0 k.0)
one_constant descriptor words (Some (Long m)) (Some (Int n)) h k = absurd (k.0 h.0)
one_constant descriptor words None (Some (Int n)) h k = cc
one_constant descriptor words None (Some (Long n)) h k = cc
one_constant descriptor words None (Some (Text t)) h k = cc
one_constant descriptor words (Some (Int m)) None h k = cc
one_constant descriptor words (Some (Long m)) None h k = cc
one_constant descriptor words (Some (Text s)) None h k = cc
one_constant descriptor words (Some (Int m)) (Some (Text t)) h k = cc
one_constant descriptor words (Some (Long m)) (Some (Text t)) h k = cc
one_constant descriptor words (Some (Text s)) (Some (Int n)) h k = cc
one_constant descriptor words (Some (Text s)) (Some (Long n)) h k = cc

one_field : (words : List Word) (a b : FieldLine) → IsFieldLine words a → IsFieldLine words b → a ≡ b
one_field words a b h k =
    let same : Plain h.0 ∷ Plain a.name ∷ Plain a.descriptor ∷ h.1 ≡ Plain k.0 ∷ Plain b.name ∷ Plain b.descriptor ∷ k.1 = sym h.4 ∙ k.4 in
    let word : h.0 ≡ k.0 = cc in
    let flags : a.flags ≡ b.flags = one_hex h.0 a.flags b.flags h.2 (rw word k.2) in
    let name : a.name ≡ b.name = cc in
    let descriptor : a.descriptor ≡ b.descriptor = cc in
    let rest : h.1 ≡ k.1 = cc in
    let constant : a.constant ≡ b.constant = one_constant a.descriptor h.1 a.constant b.constant h.3 (rw (descriptor, rest) k.3) in
    let whole : field_line a.flags a.name a.descriptor a.constant ≡ field_line b.flags b.name b.descriptor b.constant
    = rw (flags, name, descriptor, constant) refl in
    whole

one_method : (words : List Word) (a b : MethodLine) → IsMethodLine words a → IsMethodLine words b → a ≡ b
one_method words a b h k =
    let same : Plain h.0 ∷ Plain a.name ∷ Plain a.descriptor ∷ Plain (decimal a.stack) ∷ Plain (decimal a.locals) ∷ map Plain a.throws
    ≡ Plain k.0 ∷ Plain b.name ∷ Plain b.descriptor ∷ Plain (decimal b.stack) ∷ Plain (decimal b.locals) ∷ map Plain b.throws
    = sym h.4 ∙ k.4 in
    let word : h.0 ≡ k.0 = cc in
    let flags : a.flags ≡ b.flags = one_hex h.0 a.flags b.flags h.1 (rw word k.1) in
    let name : a.name ≡ b.name = cc in
    let descriptor : a.descriptor ≡ b.descriptor = cc in
    let stack_word : decimal a.stack ≡ decimal b.stack = cc in
    let stack : a.stack ≡ b.stack = one_count a.stack b.stack h.2 k.2 stack_word in
    let locals_word : decimal a.locals ≡ decimal b.locals = cc in
    let locals : a.locals ≡ b.locals = one_count a.locals b.locals h.3 k.3 locals_word in
    let plain : map Plain a.throws ≡ map Plain b.throws = cc in
    let throws : a.throws ≡ b.throws = one_list a.throws b.throws plain in
    let whole : method_line a.flags a.name a.descriptor a.stack a.locals a.throws ≡ method_line b.flags b.name b.descriptor b.stack b.locals b.throws
    = rw (flags, name, descriptor, stack, locals, throws) refl in
    whole

one_caught : (word : Word) (a b : Option (List ℕ)) → IsCaught word a → IsCaught word b → a ≡ b
one_caught word None None h k = refl
one_caught word None (Some y) h k = let same : Plain y ≡ Plain (codes "any") = sym k.1 ∙ h in let any : y ≡ codes "any" = cc in absurd (k.0 any)
one_caught word (Some x) None h k = let same : Plain x ≡ Plain (codes "any") = sym h.1 ∙ k in let any : x ≡ codes "any" = cc in absurd (h.0 any)
one_caught word (Some x) (Some y) h k = let same : Plain x ≡ Plain y = sym h.1 ∙ k.1 in cc

one_catch : (words : List Word) (a b : CatchLine) → IsCatchLine words a → IsCatchLine words b → a ≡ b
one_catch words a b h k =
    let same : Plain a.from ∷ Plain a.to ∷ Plain a.handler ∷ h.0 ∷ [] ≡ Plain b.from ∷ Plain b.to ∷ Plain b.handler ∷ k.0 ∷ [] = sym h.5 ∙ k.5 in
    let from : a.from ≡ b.from = cc in
    let to : a.to ≡ b.to = cc in
    let handler : a.handler ≡ b.handler = cc in
    let word : h.0 ≡ k.0 = cc in
    let class : a.class ≡ b.class = one_caught h.0 a.class b.class h.4 (rw word k.4) in
    let whole : catch_line a.from a.to a.handler a.class ≡ catch_line b.from b.to b.handler b.class
    = rw (from, to, handler, class) refl in
    whole

one_after : (words : List Word) (s t : Option Statement) → IsAfterLabel words s → IsAfterLabel words t → s ≡ t
one_after words None None h k = refl
one_after words None (Some t) h k = cc
one_after words (Some s) None h k = cc
one_after words (Some s) (Some t) h k = ap Some (one_statement words s t h k)

one_code : (words : List Word) (a b : CodeLine) → IsCodeLine words a → IsCodeLine words b → a ≡ b
one_code words a b (inl h) (inl k) = let same : h.0 ≡ k.0 = one_statement words h.0 k.0 h.2 k.2 in cc
one_code words a b (inl h) (inr k) = absurd (marked_is_no_statement words k.0 k.1 h.0 (k.2, k.3) h.2)
one_code words a b (inr h) (inl k) = absurd (marked_is_no_statement words h.0 h.1 k.0 (h.2, h.3) k.2)
one_code words a b (inr h) (inr k) =
    let same : Plain (h.0 ++ 58 ∷ []) ∷ h.1 ≡ Plain (k.0 ++ 58 ∷ []) ∷ k.1 = sym h.3 ∙ k.3 in
    let marks : h.0 ++ 58 ∷ [] ≡ k.0 ++ 58 ∷ [] = cc in
    let labels : h.0 ≡ k.0 = append_cancel_right h.0 k.0 (58 ∷ []) marks in
    let rest : h.1 ≡ k.1 = cc in
    let label : a.label ≡ b.label = cc in
    let statement : a.statement ≡ b.statement = one_after h.1 a.statement b.statement h.5 (rw rest k.5) in
    let whole : code_line a.label a.statement ≡ code_line b.label b.statement
    = rw (label, statement) refl in
    whole

-- ---- All sorts of lines.

one_of_keyword : (keyword : Keyword) (word : List ℕ) (rest : List Word) (i j : Item) → IsItemOf keyword word rest i
    → IsItemOf keyword word rest j → i ≡ j
one_of_keyword Class word rest i j h k = h.1 ∙ ap item.Class (one_class rest h.0 k.0 h.2 k.2) ∙ sym k.1
one_of_keyword Field word rest i j h k = h.1 ∙ ap item.Field (one_field rest h.0 k.0 h.2 k.2) ∙ sym k.1
one_of_keyword Method word rest i j h k = h.1 ∙ ap item.Method (one_method rest h.0 k.0 h.2 k.2) ∙ sym k.1
one_of_keyword Catch word rest i j h k = h.1 ∙ ap item.Catch (one_catch rest h.0 k.0 h.2 k.2) ∙ sym k.1
one_of_keyword End word rest i j h k = h.0 ∙ sym k.0
one_of_keyword Code word rest i j h k = h.1 ∙ ap item.Code (one_code (Plain word ∷ rest) h.0 k.0 h.2 k.2) ∙ sym k.1

pub one_item : (words : List Word) (i j : Item) → IsItem words i → IsItem words j → i ≡ j
one_item words i j h k =
    one_of_keyword (keyword_of h.0) h.0 h.1 i j h.3 (by_keyword words h.0 h.1 (keyword_of h.0) j h.2 refl k)
