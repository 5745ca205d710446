-- Words are one instruction at most: that of their first word, with the operands after it.
use Rattle.std.proofs.Common.{◌≡◌, ℕ, ◌≤◌, inl, inr, ℤ, pos, codes, List, [], ◌∷◌, map, arith, refl, sym, ap, ◌∙◌, subst, Option, Some, None, Result, Ok, Err, IfOk, MatchOption}
use Rattle.jk_model.specs.declared.memory.OutOfMemory.{OutOfMemory}
use Rattle.asm_reader.specs.declared.items.Statement.{Statement}
use Rattle.asm_reader.specs.declared.mnemonics.Mnemonic as code
use Rattle.asm_reader.specs.declared.words.Word.{Word}
use Rattle.asm_reader.specs.declared.words.Word.TheVariants.{Plain}
use Rattle.asm_reader.specs.declared.items.Constant.TheVariants.{Int, Long}
use Rattle.asm_reader.specs.declared.items.Statement.TheVariants.{Push, Load, OnLocal, Increment, NewArray, NewArrays, Switch}
use Rattle.asm_reader.specs.declared.items.SwitchLine.{SwitchLine}
use Rattle.asm_reader.specs.declared.mnemonics.Operands.{Operands}
use Rattle.asm_reader.specs.declared.mnemonics.Operands.TheVariants.{Nothing, Number, SingleConstant, WideConstant, Local, LocalAndStep, Label, Member, ClassName, ArrayKind, Dimensions, Cases}
use Rattle.std.specs.List.{AllByRecursion}
use Rattle.asm_reader.specs.Finds.{Finds}
use Rattle.asm_reader.specs.Numbers.{decimal_of, IsLongNumber}
use Rattle.asm_reader.specs.Mnemonics.{Mnemonic, mnemonic_named}
use Rattle.asm_reader.specs.Rows.{row_of}
use Rattle.asm_reader.specs.Statements.{IsStatement, HasOperands, IsCase, case_word}
use Rattle.asm_reader.proofs.CasesAreWrittenOnce.{one_case}
use Rattle.asm_reader.proofs.NumbersAreWrittenOneWay.{one_decimal, short_is_long, int_is_long}
use Rattle.asm_reader.proofs.OneCount.{one_count, kind_small}

-- the operands of the instruction of a name are those of the words that it stands in front of
its_operands : (name : List ℕ) (operands : List Word) (m : Mnemonic) (s : Statement) → mnemonic_named name ≡ Some m
    → IsStatement (Plain name ∷ operands) s → HasOperands m.op m.operands operands s
its_operands name operands m s named (n, other, rest, e, is, has) =
    let names : name ≡ other = cc e in
    let rests : operands ≡ rest = cc e in
    let one : Some m ≡ Some n = sym named ∙ ap mnemonic_named names ∙ is in
    let same : n ≡ m = cc one in
    subst (λ (k : Mnemonic). HasOperands k.op k.operands operands s) same
    (subst (λ (ws : List Word). HasOperands n.op n.operands ws s) (sym rests) has)

-- the statement that the operands make is that of the words
pub by_operands : (words : List Word) (name : List ℕ) (operands : List Word) (m : code.Mnemonic) (r : Result (Option Statement) OutOfMemory)
    → words ≡ Plain name ∷ operands → Some (row_of m) ≡ mnemonic_named name → IfOk r (Finds m.op m.operands operands)
    → IfOk r (λ found. MatchOption found ((s : Statement) → IsStatement words s → ⊥) (λ s. IsStatement words s))
by_operands words name operands m (Err e) is named h = tt
by_operands words name operands m (Ok None) is named h =
    λ s has. h s (its_operands name operands (row_of m) s (sym named) (subst (λ (ws : List Word). IsStatement ws s) is has))
by_operands words name operands m (Ok (Some s)) is named h = (row_of m, name, operands, is, sym named, h)

-- ---- Operands of one sort make one statement.

pub one_list_of_cases : (cs ds : List SwitchLine) → AllByRecursion IsCase cs → AllByRecursion IsCase ds
    → map case_word cs ≡ map case_word ds → cs ≡ ds
one_list_of_cases [] [] h k e = refl
one_list_of_cases [] (d ∷ ds) h k e = absurd cc
one_list_of_cases (c ∷ cs) [] h k e = absurd cc
one_list_of_cases (c ∷ cs) (d ∷ ds) h k e =
    let first : case_word c ≡ case_word d = cc in
    let others : map case_word cs ≡ map case_word ds = cc in
    ap (λ (x : SwitchLine). x ∷ cs) (one_case c d h.0 k.0 first) ∙ ap (λ (xs : List SwitchLine). d ∷ xs) (one_list_of_cases cs ds h.1 k.1 others)

-- two words that write one number
same_number : (words : List Word) (m n : ℤ) → IsLongNumber m → IsLongNumber n → words ≡ Plain (decimal_of m) ∷ [] → words ≡ Plain (decimal_of n) ∷ []
    → m ≡ n
same_number words m n h k e f =
    let digits : decimal_of m ≡ decimal_of n = cc in
    one_decimal m n h k digits

same_count : (words : List Word) (m n : ℕ) → m ≤ 65535 → n ≤ 65535 → words ≡ Plain (decimal_of (pos m)) ∷ []
    → words ≡ Plain (decimal_of (pos n)) ∷ [] → m ≡ n
same_count words m n h k e f =
    let digits : decimal_of (pos m) ≡ decimal_of (pos n) = cc in
    one_count m n h k digits

same_second : (words : List Word) (v w : Word) (m n : ℤ) → IsLongNumber m → IsLongNumber n → words ≡ v ∷ Plain (decimal_of m) ∷ []
    → words ≡ w ∷ Plain (decimal_of n) ∷ [] → m ≡ n
same_second words v w m n h k e f =
    let digits : decimal_of m ≡ decimal_of n = cc in
    one_decimal m n h k digits

pub one_statement_of : (op : ℕ) (sort : Operands) (words : List Word) (s t : Statement) → HasOperands op sort words s → HasOperands op sort words t → s ≡ t
one_statement_of op Nothing words s t h k = h.1 ∙ sym k.1
one_statement_of op Number words s t (m, small, e, is) (n, short, f, also) =
    is ∙ ap Push (same_number words m n (short_is_long m small) (short_is_long n short) e f) ∙ sym also
one_statement_of op SingleConstant words s t (inl (m, small, e, is)) (inl (n, short, f, also)) =
    is ∙ ap (λ (z : ℤ). Load (Int z)) (same_second words (Plain (codes "int")) (Plain (codes "int")) m n (int_is_long m small) (int_is_long n short) e f)
    ∙ sym also
one_statement_of op SingleConstant words s t (inl (m, small, e, is)) (inr (text, f, also)) = absurd cc
one_statement_of op SingleConstant words s t (inr (text, e, is)) (inl (n, short, f, also)) = absurd cc
one_statement_of op SingleConstant words s t (inr (text, e, is)) (inr (other, f, also)) = cc
one_statement_of op WideConstant words s t (m, small, e, is) (n, short, f, also) =
    is ∙ ap (λ (z : ℤ). Load (Long z)) (same_second words (Plain (codes "long")) (Plain (codes "long")) m n small short e f) ∙ sym also
one_statement_of op Local words s t (m, small, e, is) (n, short, f, also) =
    is ∙ ap (λ (k : ℕ). OnLocal op k) (same_count words m n small short e f) ∙ sym also
one_statement_of op LocalAndStep words s t (m, step, small, fits, e, is) (n, step', short, fits', f, also) =
    let first : decimal_of (pos m) ≡ decimal_of (pos n) = cc in
    let local : m ≡ n = one_count m n small short first in
    let by : step ≡ step' =
    same_second words (Plain (decimal_of (pos m))) (Plain (decimal_of (pos n))) step step' (short_is_long step fits) (short_is_long step' fits') e f in
    is ∙ ap (λ (k : ℕ). Increment k step) local ∙ ap (λ (z : ℤ). Increment n z) by ∙ sym also
one_statement_of op Label words s t (label, form, e, is) (other, form', f, also) = cc
one_statement_of op (Member kind) words s t (class, name, descriptor, e, is) (class', name', descriptor', f, also) = cc
one_statement_of op ClassName words s t (class, e, is) (other, f, also) = cc
one_statement_of op ArrayKind words s t (m, small, e, is) (n, short, f, also) =
    is ∙ ap NewArray (same_count words m n (kind_small m small) (kind_small n short) e f) ∙ sym also
one_statement_of op Dimensions words s t (class, m, some, small, e, is) (other, n, some', short, f, also) =
    let names : class ≡ other = cc in
    let digits : decimal_of (pos m) ≡ decimal_of (pos n) = cc in
    let dims : m ≡ n = one_count m n (omega arith) (omega arith) digits in
    is ∙ ap (λ (c : List ℕ). NewArrays c m) names ∙ ap (λ (k : ℕ). NewArrays other k) dims ∙ sym also
one_statement_of op Cases words s t (default, cases, form, are, e, is) (default', cases', form', are', f, also) =
    let first : default ≡ default' = cc in
    let others : map case_word cases ≡ map case_word cases' = cc in
    let same : cases ≡ cases' = one_list_of_cases cases cases' are.0 are'.0 others in
    is ∙ ap (λ (label : List ℕ). Switch label cases) first ∙ ap (λ (cs : List SwitchLine). Switch default' cs) same ∙ sym also

pub one_statement : (words : List Word) (s t : Statement) → IsStatement words s → IsStatement words t → s ≡ t
one_statement words s t (m, name, operands, is, named, has) k =
    one_statement_of m.op m.operands operands s t has
    (its_operands name operands m t named (subst (λ (ws : List Word). IsStatement ws t) is k))
