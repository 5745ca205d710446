-- A word is one case of a switch at most, and it is cut at its first `=`.
use Rattle.std.proofs.Common.{◌≡◌, ℕ, zero, suc, ◌+◌, ◌-◌, ◌<◌, ◌≤◌, ◌==◌, ℤ, Bool, true, false, cond, not, IsTrue, List, [], ◌∷◌, ◌++◌, length, take, drop, get_or, refl, sym, ap, ◌∙◌, subst, Some, None, position, nat_lt, arith, eqb-true, take_all}
use Rattle.std.specs.List.{list_all, position_or_len}
use Rattle.std.proofs.Math.Seq.{drop-cons}
use Rattle.std.proofs.lemmas.Bool.{and_parts, and_from, both_ways, ne_eqb, ltb-false}
use Rattle.std.proofs.lemmas.List.{take-append-drop, take_rest}
use Rattle.std.proofs.lemmas.List.Quantifiers.{position-Some}
use Rattle.std.proofs.lemmas.List.Sums.{fails_before_first}
use Rattle.asm_reader.specs.declared.items.SwitchLine.{SwitchLine}
use Rattle.asm_reader.specs.declared.words.Word.TheVariants.{Plain}
use Rattle.asm_reader.specs.Numbers.{decimal_of, IsIntNumber}
use Rattle.asm_reader.specs.Statements.{IsLabel, IsCase, case_word}
use Rattle.asm_reader.specs.Finds.{FindsCase}
use Rattle.asm_reader.proofs.NumbersAreWrittenOneWay.{is_number_byte, one_decimal, decimal_bytes, int_is_long}

-- ---- No byte of a number is a `=`, 61.

abbrev pub no_equals : ℕ → Bool
no_equals b = not (b == 61)

number_byte : (b : ℕ) → is_number_byte b ≡ true → no_equals b ≡ true
number_byte b h = ap not (ne_eqb b 61 (λ e. both_ways (is_number_byte b) (ap is_number_byte e) h))

number_bytes : (bytes : List ℕ) → list_all is_number_byte bytes ≡ true → list_all no_equals bytes ≡ true
number_bytes [] h = refl
number_bytes (b ∷ bytes) h =
    let (here, after) = and_parts (is_number_byte b) (list_all is_number_byte bytes) h in
    and_from (no_equals b) (list_all no_equals bytes) (number_byte b here) (number_bytes bytes after)

-- ---- Two lists that are cut at their first `=` have the same parts.

pub one_cut : (xs ys us vs : List ℕ) → list_all no_equals xs ≡ true → list_all no_equals us ≡ true
    → xs ++ 61 ∷ ys ≡ us ++ 61 ∷ vs → (xs ≡ us) × (ys ≡ vs)
one_cut [] ys [] vs h k e = (refl, cc)
one_cut [] ys (u ∷ us) vs h k e =
    let same : 61 ≡ u = cc in
    absurd (both_ways (no_equals u) (ap no_equals (sym same)) (and_parts (no_equals u) (list_all no_equals us) k).0)
one_cut (x ∷ xs) ys [] vs h k e =
    let same : x ≡ 61 = cc in
    absurd (both_ways (no_equals x) (ap no_equals same) (and_parts (no_equals x) (list_all no_equals xs) h).0)
one_cut (x ∷ xs) ys (u ∷ us) vs h k e =
    let first : x ≡ u = cc in
    let others : xs ++ 61 ∷ ys ≡ us ++ 61 ∷ vs = cc in
    let rest =
    one_cut xs ys us vs (and_parts (no_equals x) (list_all no_equals xs) h).1 (and_parts (no_equals u) (list_all no_equals us) k).1 others in
    let same : x ∷ xs ≡ u ∷ us = cc (first, rest.0) in
    (same, rest.1)

key_has_none : (c : SwitchLine) → IsCase c → list_all no_equals (decimal_of c.key) ≡ true
key_has_none c h = number_bytes (decimal_of c.key) (decimal_bytes c.key (int_is_long c.key h.0))

-- the parts of a word that is a case
pub case_parts : (c : SwitchLine) (key label : List ℕ) → IsCase c → list_all no_equals key ≡ true
    → key ++ 61 ∷ label ≡ decimal_of c.key ++ 61 ∷ c.label → (key ≡ decimal_of c.key) × (label ≡ c.label)
case_parts c key label h none e = one_cut key label (decimal_of c.key) c.label none (key_has_none c h) e

case_same : (c d : SwitchLine) → c.key ≡ d.key → c.label ≡ d.label → c ≡ d
case_same c d key label =
    let same : (j k : ℤ) (l m : List ℕ) → j ≡ k → l ≡ m → (let x : SwitchLine = record { key = j; label = l } in x) ≡ (record { key = k; label = m }) =
    λ j k l m p q. cc in
    same c.key d.key c.label d.label key label

pub one_case : (c d : SwitchLine) → IsCase c → IsCase d → case_word c ≡ case_word d → c ≡ d
one_case c d h k e =
    let bytes : decimal_of c.key ++ 61 ∷ c.label ≡ decimal_of d.key ++ 61 ∷ d.label = cc in
    let parts = case_parts d (decimal_of c.key) c.label k (key_has_none c h) bytes in
    case_same c d (one_decimal c.key d.key (int_is_long c.key h.0) (int_is_long d.key k.0) parts.0) parts.1

-- ---- The first `=` of a word.

abbrev pub is_equals : ℕ → Bool
is_equals b = b == 61

all_before : (xs : List ℕ) (i : ℕ) → i ≤ length xs → ((k : ℕ) → k < i → is_equals (get_or xs k 0) ≡ false) → list_all no_equals (take i xs) ≡ true
all_before [] zero h none = refl
all_before [] (suc i) h none = absurd (omega arith)
all_before (x ∷ xs) zero h none = refl
all_before (x ∷ xs) (suc i) h none =
    and_from (no_equals x) (list_all no_equals (take i xs)) (ap not (none 0 (omega arith)))
    (all_before xs i (omega arith) (λ k less. none (suc k) (omega arith)))

none_below : (below : Bool) (n : ℕ) → cond below (Some n) None ≡ None → below ≡ false
none_below true n e = absurd cc
none_below false n e = refl

pub without_equals : (word : List ℕ) → position is_equals word ≡ None → IsTrue (list_all no_equals word)
without_equals word e =
    let n = position_or_len is_equals word in
    let past : length word ≤ n = ltb-false n (length word) (none_below (nat_lt n (length word)) n e) in
    let all = all_before word (length word) (omega arith) (λ k less. fails_before_first is_equals word k 0 (omega (arith, past))) in
    subst (λ bytes. list_all no_equals bytes ≡ true) (take_all (length word) word (omega arith)) all

pub cut_at_equals : (word : List ℕ) (n : ℕ) → position is_equals word ≡ Some n
    → IsTrue (list_all no_equals (take n word)) × (word ≡ take n word ++ 61 ∷ take (length word - (n + 1)) (drop (n + 1) word))
cut_at_equals word n e =
    let (below, here, others) = position-Some is_equals word n 0 e in
    let all = all_before word n (omega (arith, below)) others in
    let byte : get_or word n 0 ≡ 61 = eqb-true (get_or word n 0) 61 here in
    let next : suc n ≡ n + 1 = omega arith in
    let rest : drop n word ≡ 61 ∷ drop (n + 1) word = drop-cons word n 0 below ∙ ap (λ b. b ∷ drop (suc n) word) byte ∙ ap (λ k. 61 ∷ drop k word) next in
    let whole : word ≡ take n word ++ 61 ∷ drop (n + 1) word = sym (take-append-drop n word) ∙ ap (λ bytes. take n word ++ bytes) rest in
    (all, whole ∙ ap (λ bytes. take n word ++ 61 ∷ bytes) (sym (take_rest word (n + 1))))

-- ---- A word that is no case.

pub no_key : (word key label : List ℕ) → list_all no_equals key ≡ true → word ≡ key ++ 61 ∷ label
    → ((n : ℤ) → IsIntNumber n → key ≡ decimal_of n → ⊥) → FindsCase (Plain word) None
no_key word key label none cut never c is e =
    let bytes : key ++ 61 ∷ label ≡ decimal_of c.key ++ 61 ∷ c.label = cc (cut, e) in
    never c.key is.0 (case_parts c key label is none bytes).0

pub no_label : (word key label : List ℕ) → list_all no_equals key ≡ true → word ≡ key ++ 61 ∷ label
    → (IsLabel label → ⊥) → FindsCase (Plain word) None
no_label word key label none cut never c is e =
    let bytes : key ++ 61 ∷ label ≡ decimal_of c.key ++ 61 ∷ c.label = cc (cut, e) in
    never (subst IsLabel (sym (case_parts c key label is none bytes).1) is.1)
