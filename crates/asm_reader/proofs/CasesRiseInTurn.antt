-- Words that are cases one after the other are cases of a switch exactly where each key is above the one before it.
use Rattle.std.proofs.Common.{◌≡◌, ℕ, suc, ◌+◌, ◌-◌, ◌<◌, ◌≤◌, ◌↔◌, ℤ, ◌<ℤ◌, int_lt, IsTrue, List, [], ◌∷◌, ◌++◌, map, length, take, drop, get_or, refl, sym, ap, ◌∙◌, subst, Some, None, arith}
use Rattle.std.specs.List.{AllByRecursion}
use Rattle.std.proofs.Math.Seq.{drop-cons}
use Rattle.std.specs.Int.Signed.{lt_z_yes}
use Rattle.std.proofs.lemmas.Float.{T_from_true}
use Rattle.std.proofs.lemmas.Int.{ints}
use Rattle.std.proofs.lemmas.List.{take-append-drop, map-append, take_more}
use Rattle.jk_model.specs.Instructions.{Rises}
use Rattle.jk_model.proofs.EachItem.{all_push}
use Rattle.asm_reader.specs.declared.items.SwitchLine.{SwitchLine}
use Rattle.asm_reader.specs.declared.words.Word.{Word}
use Rattle.asm_reader.specs.Statements.{IsCase, AreCases, case_word}
use Rattle.asm_reader.specs.Finds.{FindsCase, FindsCases, IsAbove}
use Rattle.asm_reader.proofs.CasesAreWrittenOnce.{one_case}

abbrev pub keys : List SwitchLine → List ℤ
keys cases = map (λ (c : SwitchLine). c.key) cases

-- ---- Keys that rise.

pub rises_push : (cases : List SwitchLine) (c : SwitchLine) → Rises (keys cases) → IsAbove cases c.key → Rises (keys (cases ++ c ∷ []))
rises_push [] c h above = tt
rises_push (x ∷ []) c h above = (above, tt)
rises_push (x ∷ y ∷ cases) c h above = (h.0, rises_push (y ∷ cases) c h.1 above)

pub rises_above : (cases : List SwitchLine) (c : SwitchLine) (more : List SwitchLine) → Rises (keys (cases ++ c ∷ more)) → IsAbove cases c.key
rises_above [] c more h = tt
rises_above (x ∷ []) c [] h = h.0
rises_above (x ∷ []) c (d ∷ more) h = h.0
rises_above (x ∷ y ∷ cases) c more h = rises_above (y ∷ cases) c more h.1

-- a key is above those of cases where it is above that of the last of them
pub above_last : (cases : List SwitchLine) (last : SwitchLine) (key : ℤ) → 1 ≤ length cases
    → last ≡ get_or cases (length cases - 1) last → last.key <ℤ key ↔ IsAbove cases key
above_last [] last key some is = absurd (omega arith)
above_last (x ∷ []) last key some is =
    ((λ h. subst (λ (c : SwitchLine). c.key <ℤ key) is h), (λ h. subst (λ (c : SwitchLine). c.key <ℤ key) (sym is) h))
above_last (x ∷ y ∷ cases) last key some is =
    let place : length (x ∷ y ∷ cases) - 1 ≡ suc (length (y ∷ cases) - 1) = omega arith in
    above_last (y ∷ cases) last key (omega arith) (is ∙ ap (λ (k : ℕ). get_or (x ∷ y ∷ cases) k last) place)

pub above_by_test : (cases : List SwitchLine) (last : SwitchLine) (key : ℤ) → 1 ≤ length cases
    → last ≡ get_or cases (length cases - 1) last → IsTrue (int_lt last.key key) ↔ IsAbove cases key
above_by_test cases last key some is =
    let same = above_last cases last key some is in
    ((λ h. same.0 (lt_z_yes (T_from_true (int_lt last.key key) h))), (λ h. let less = same.1 h in grind (arith, ints)))

-- ---- The cases so far.

pub record IsSoFar (words : List Word) (i : ℕ) (cases : List SwitchLine) : Type 0 where
  pub read : take i words ≡ map case_word cases
  pub are_cases : AreCases cases

pub none_yet : (words : List Word) (cases : List SwitchLine) → cases ≡ [] → IsSoFar words 0 cases
none_yet words cases e = record { read = rw e refl; are_cases = rw e (tt, tt) }

pub one_more : (words : List Word) (i : ℕ) (cases : List SwitchLine) (word : Word) (c : SwitchLine) (new : List SwitchLine)
    → i < length words → word ≡ get_or words i word → IsSoFar words i cases → FindsCase word (Some c) → IsAbove cases c.key
    → new ≡ cases ++ c ∷ [] → IsSoFar words (i + 1) new
one_more words i cases word c new below at so_far found above e =
    let taken : take (i + 1) words ≡ map case_word cases ++ word ∷ [] =
    take_more words i word below ∙ ap (λ (w : Word). take i words ++ w ∷ []) (sym at) ∙ ap (λ (ws : List Word). ws ++ word ∷ []) so_far.read in
    let read : take (i + 1) words ≡ map case_word (cases ++ c ∷ []) =
    taken ∙ ap (λ (w : Word). map case_word cases ++ w ∷ []) found.1 ∙ sym (map-append case_word cases (c ∷ [])) in
    rw e (record {
      read = read;
      are_cases = (all_push IsCase cases c so_far.are_cases.0 found.0, rises_push cases c so_far.are_cases.1 above);
    })

-- a list of words around one of them
around : (words : List Word) (i : ℕ) (cases : List SwitchLine) (word : Word) → i < length words → word ≡ get_or words i word
    → IsSoFar words i cases → words ≡ map case_word cases ++ word ∷ drop (suc i) words
around words i cases word below at so_far =
    sym (take-append-drop i words) ∙ ap (λ (ws : List Word). take i words ++ ws) (drop-cons words i word below)
    ∙ ap (λ (w : Word). take i words ++ w ∷ drop (suc i) words) (sym at)
    ∙ ap (λ (ws : List Word). ws ++ word ∷ drop (suc i) words) so_far.read

no_more : (front : List SwitchLine) (word : Word) (rest : List Word) (cases : List SwitchLine) → FindsCase word None → AllByRecursion IsCase cases
    → map case_word front ++ word ∷ rest ≡ map case_word cases → ⊥
no_more [] word rest [] none all e = absurd cc
no_more [] word rest (c ∷ cases) none all e = let first : word ≡ case_word c = cc in none c all.0 first
no_more (x ∷ front) word rest [] none all e = absurd cc
no_more (x ∷ front) word rest (c ∷ cases) none all e =
    let others : map case_word front ++ word ∷ rest ≡ map case_word cases = cc in
    no_more front word rest cases none all.1 others

-- where a word is no case, the words are no cases
pub stops_at : (words : List Word) (i : ℕ) (cases : List SwitchLine) (word : Word) → i < length words → word ≡ get_or words i word
    → IsSoFar words i cases → FindsCase word None → FindsCases words None
stops_at words i cases word below at so_far none all are e =
    no_more cases word (drop (suc i) words) all none are.0 (sym (around words i cases word below at so_far) ∙ e)

-- the words of cases begin with those of their front alone
same_front : (front : List SwitchLine) (c : SwitchLine) (rest : List Word) (cases : List SwitchLine) → AllByRecursion IsCase front → IsCase c
    → AllByRecursion IsCase cases → map case_word front ++ case_word c ∷ rest ≡ map case_word cases
    → (more : List SwitchLine) × (cases ≡ front ++ c ∷ more)
same_front [] c rest [] h is all e = absurd cc
same_front [] c rest (d ∷ cases) h is all e =
    let first : case_word d ≡ case_word c = cc in
    let same : d ≡ c = one_case d c all.0 is first in
    (cases, ap (λ (x : SwitchLine). x ∷ cases) same)
same_front (x ∷ front) c rest [] h is all e = absurd cc
same_front (x ∷ front) c rest (d ∷ cases) h is all e =
    let first : case_word d ≡ case_word x = cc in
    let others : map case_word front ++ case_word c ∷ rest ≡ map case_word cases = cc in
    let same : d ≡ x = one_case d x all.0 h.0 first in
    let (more, whole) = same_front front c rest cases h.1 is all.1 others in
    (more, ap (λ (y : SwitchLine). y ∷ cases) same ∙ ap (λ (cs : List SwitchLine). x ∷ cs) whole)

-- where a key isn't above the one before it, the words are no cases
pub falls_at : (words : List Word) (i : ℕ) (cases : List SwitchLine) (word : Word) (c : SwitchLine) → i < length words
    → word ≡ get_or words i word → IsSoFar words i cases → FindsCase word (Some c) → (IsAbove cases c.key → ⊥) → FindsCases words None
falls_at words i cases word c below at so_far found falls all are e =
    let whole : map case_word cases ++ case_word c ∷ drop (suc i) words ≡ map case_word all =
    ap (λ (w : Word). map case_word cases ++ w ∷ drop (suc i) words) (sym found.1) ∙ sym (around words i cases word below at so_far) ∙ e in
    let (more, is) = same_front cases c (drop (suc i) words) all so_far.are_cases.0 found.0 are.0 whole in
    falls (rises_above cases c more (subst (λ (cs : List SwitchLine). Rises (keys cs)) is are.1))
