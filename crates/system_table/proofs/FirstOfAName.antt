-- Texts that agree unit by unit are the same, and the first number whose class has a name is that of the name.
use Rattle.std.proofs.Common.{◌≡◌, ℕ, ◌<◌, ◌≤◌, ◌==◌, ◌&&◌, List, [], ◌∷◌, length, refl, sym, ap, ◌∙◌, arith, Bool, true, false, cond, nat_lt, Option, Some, None, MatchOption, bytes_eq, zip, get_or, lt-ltb}
use Rattle.std.specs.List.{list_all, position, position_or_len}
use Rattle.std.proofs.lemmas.List.Sums.{position_or_len_is}
use Rattle.std.proofs.lemmas.Option.{get_or_from_slice_get}
use Rattle.jk_model.specs.SystemTable as Table
use Rattle.jk_model.specs.SystemTable.{system_classes, number_named, interface_without_members}
use Rattle.system_table.specs.declared.entry.SystemClass.{SystemClass}
use Rattle.system_table.specs.Entry.{IsEntry, HasName}

-- as long as each other, two lists that agree as far as both go are the same
pub agree_whole : (xs ys : List ℕ) → length xs ≡ length ys → list_all (λ pair. pair.0 == pair.1) (zip xs ys) ≡ bytes_eq xs ys
agree_whole [] [] h = refl
agree_whole [] (y ∷ ys) h = absurd (omega (arith, h))
agree_whole (x ∷ xs) [] h = absurd (omega (arith, h))
agree_whole (x ∷ xs) (y ∷ ys) h = ap (λ b. (x == y) && b) (agree_whole xs ys (omega (arith, h)))

pub named : (n : ℕ) (c : SystemClass) (name : List ℕ) (answer : Bool) → IsEntry n c → answer ≡ bytes_eq c.name.now name → HasName n name answer
named n c name answer (e, at, shows) h = (e, at, h ∙ ap (λ text. bytes_eq text name) shows.name)

test : List ℕ → Table.SystemClass → Bool
test name c = bytes_eq c.name name

at_place : (n : ℕ) (name : List ℕ) (answer : Bool) → HasName n name answer → test name (get_or system_classes n (interface_without_members [])) ≡ answer
unfolding test
at_place n name answer (e, at, h) =
    ap (λ c. bytes_eq c.name name) (get_or_from_slice_get system_classes n e (interface_without_members []) at) ∙ sym h

first_place : (name : List ℕ) (n : ℕ) → n ≤ 45 → ((k : ℕ) → k < n → HasName k name false) → (n < 45 → HasName n name true)
    → position_or_len (test name) system_classes ≡ n
first_place name n within others this =
    position_or_len_is (test name) system_classes n (interface_without_members []) within
    (λ k below. at_place k name false (others k below)) (λ below. at_place n name true (this below))

position_is : (p : Table.SystemClass → Bool) (es : List Table.SystemClass) (n : ℕ) → n < length es → position_or_len p es ≡ n → position p es ≡ Some n
position_is p es n below place =
    ap (λ k. cond (nat_lt k (length es)) (Some k) None) place ∙ ap (λ b. cond b (Some n) None) (lt-ltb n (length es) below)

-- the first number that passes is that of the class of the name
pub first_named : (name : List ℕ) (count : ℕ) (found : Option ℕ) → count ≡ 45
    → MatchOption found ((k : ℕ) → 0 ≤ k → k < count → HasName k name false)
    (λ n. (0 ≤ n) × (n < count) × HasName n name true × ((k : ℕ) → 0 ≤ k → k < n → HasName k name false))
    → found ≡ number_named name
unfolding test
first_named name count None all others =
    let place : position_or_len (test name) system_classes ≡ 45 =
    first_place name 45 (omega arith) (λ k below. others k (omega arith) (omega (arith, below, all))) (λ below. absurd (omega (arith, below))) in
    sym (ap (λ n. cond (nat_lt n 45) (Some n) None) place)
first_named name count (Some n) all (low, below, this, others) =
    let within : n < 45 = omega (arith, below, all) in
    let place : position_or_len (test name) system_classes ≡ n =
    first_place name n (omega (arith, within)) (λ k less. others k (omega arith) less) (λ _. this) in
    sym (position_is (test name) system_classes n within place)
