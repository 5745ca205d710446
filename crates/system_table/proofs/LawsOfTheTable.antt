-- The laws of the table: what a test of the whole table says is said of each class.
use Rattle.std.proofs.Common.{◌≡◌, ℕ, zero, suc, ◌+◌, ◌<◌, ◌==◌, ◌&&◌, List, [], ◌∷◌, refl, sym, ap, ◌∙◌, arith, zero-add, Bool, true, false, not, nat_lt, Option, Some, None, MatchOption, bytes_eq, slice_get, eqb-true, ltb-true}
use Rattle.std.specs.List.{list_all, AllByRecursion}
use Rattle.std.proofs.lemmas.Bool.{and_parts, and_from, not-true, both_ways}
use Rattle.std.proofs.lemmas.Slice.Eq.{bytes_eq-Decides}
use Rattle.jk_model.proofs.EachItem.{all_from_test, all_at}
use Rattle.jk_model.specs.SystemTable.{system_classes, number_named}
use Rattle.system_table.specs.Laws.{Class, IsAt, IsInFront}

abbrev pub all_from : (ℕ → Class → Bool) → ℕ → List Class → Bool
all_from test n [] = true
all_from test n (c ∷ cs) = test n c && all_from test (n + 1) cs

passes : (test : ℕ → Class → Bool) (first : ℕ) (cs : List Class) (n : ℕ) (c : Class) → all_from test first cs ≡ true
    → slice_get cs n ≡ Some c → test (first + n) c ≡ true
passes test first [] n c h at = absurd cc
passes test first (d ∷ cs) zero c h at =
    let same : d ≡ c = cc in
    let place : first + 0 ≡ first = omega arith in
    ap (λ k. test k c) place ∙ ap (λ e. test first e) (sym same) ∙ (and_parts (test first d) (all_from test (first + 1) cs) h).0
passes test first (d ∷ cs) (suc n) c h at =
    let place : first + suc n ≡ first + 1 + n = omega arith in
    ap (λ k. test k c) place ∙ passes test (first + 1) cs n c (and_parts (test first d) (all_from test (first + 1) cs) h).1 at

-- a test that all of the table passes
pub each : (test : ℕ → Class → Bool) → all_from test 0 system_classes ≡ true → (n : ℕ) (c : Class) → IsAt c n → test n c ≡ true
each test h n c at = ap (λ k. test k c) (sym (zero-add n)) ∙ passes test 0 system_classes n c h at

-- ---- Places.

abbrev pub is_place : ℕ → Option ℕ → Bool
is_place n None = false
is_place n (Some k) = k == n

is_place_some : (n : ℕ) (o : Option ℕ) → is_place n o ≡ true → o ≡ Some n
is_place_some n None h = absurd cc
is_place_some n (Some k) h = ap (λ m. Some m) (eqb-true k n h)

-- the class of this name is the one here
abbrev pub has_own_name : ℕ → Class → Bool
has_own_name n c = is_place n (number_named c.name)

pub own_name : (n : ℕ) (c : Class) → has_own_name n c ≡ true → number_named c.name ≡ Some n
own_name n c h = is_place_some n (number_named c.name) h

abbrev pub is_below : ℕ → Option ℕ → Bool
is_below n None = false
is_below n (Some k) = nat_lt k n

below_some : (n : ℕ) (o : Option ℕ) → is_below n o ≡ true → (k : ℕ) × (o ≡ Some k) × (k < n)
below_some n None h = absurd cc
below_some n (Some k) h = (k, refl, ltb-true k n h)

abbrev pub is_in_front : ℕ → List ℕ → Bool
is_in_front n name = is_below n (number_named name)

pub in_front : (n : ℕ) (name : List ℕ) → is_in_front n name ≡ true → IsInFront name n
in_front n name h = below_some n (number_named name) h

abbrev pub parent_is_in_front : ℕ → Option (List ℕ) → Bool
parent_is_in_front n None = n == 0
parent_is_in_front n (Some name) = is_in_front n name

pub parent_in_front : (n : ℕ) (parent : Option (List ℕ)) → parent_is_in_front n parent ≡ true → MatchOption parent (n ≡ 0) (λ name. IsInFront name n)
parent_in_front n None h = eqb-true n 0 h
parent_in_front n (Some name) h = in_front n name h

-- ---- Closed classes.

-- no closed class of these has this name
abbrev pub none_closed : List Class → Option (List ℕ) → Bool
none_closed cs None = true
none_closed cs (Some name) = list_all (λ c. not (c.closed && bytes_eq c.name name)) cs

not_here : (closed same : Bool) → closed ≡ true → same ≡ true → not (closed && same) ≡ true → ⊥
not_here closed same h k none = both_ways (closed && same) (not-true (closed && same) none) (and_from closed same h k)

at_place : (test : Class → Bool) (cs : List Class) (n : ℕ) (c : Class) → list_all test cs ≡ true → slice_get cs n ≡ Some c → test c ≡ true
at_place test cs n c h at =
    let Passes : Class → Type 0 = λ d. test d ≡ true in
    all_at Passes cs n c (all_from_test Passes test (λ d passes. passes) cs h) at

no_child : (cs : List Class) (m : ℕ) (c : Class) (parent : Option (List ℕ)) → none_closed cs parent ≡ true → slice_get cs m ≡ Some c
    → c.closed ≡ true → parent ≡ Some c.name → ⊥
no_child cs m c None h at closed e = absurd cc
no_child cs m c (Some name) h at closed e =
    let same : c.name ≡ name = cc in
    not_here c.closed (bytes_eq c.name name) closed ((bytes_eq-Decides c.name name).1 same) (at_place (λ d. not (d.closed && bytes_eq d.name name)) cs m c h at)

-- ---- The laws.

pub names_apart : (m n : ℕ) (c d : Class) → IsAt c m → IsAt d n → c.name ≡ d.name → m ≡ n
names_apart m n c d at_m at_n same =
    let left : number_named c.name ≡ Some m = own_name m c (each has_own_name refl m c at_m) in
    let right : number_named d.name ≡ Some n = own_name n d (each has_own_name refl n d at_n) in
    let numbers : Some m ≡ Some n = sym left ∙ ap number_named same ∙ right in
    cc

pub parents : (n : ℕ) (c : Class) → IsAt c n → MatchOption c.parent (n ≡ 0) (λ name. IsInFront name n)
parents n c at = parent_in_front n c.parent (each (λ k d. parent_is_in_front k d.parent) refl n c at)

pub interfaces : (n : ℕ) (c : Class) → IsAt c n → AllByRecursion (λ name. IsInFront name n) c.interfaces
interfaces n c at =
    all_from_test (λ name. IsInFront name n) (is_in_front n) (in_front n) c.interfaces (each (λ k d. list_all (is_in_front k) d.interfaces) refl n c at)

pub closed_alone : (m n : ℕ) (c d : Class) → IsAt c m → IsAt d n → c.closed ≡ true → d.parent ≡ Some c.name → ⊥
closed_alone m n c d at_m at_n closed e =
    no_child system_classes m c d.parent (each (λ _ b. none_closed system_classes b.parent) refl n d at_n) at_m closed e
