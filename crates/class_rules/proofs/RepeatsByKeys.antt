-- A set of the keys so far finds the first member whose key is there already.
use Rattle.std.proofs.Common.{◌≡◌, ℕ, ◌+◌, ◌<◌, zero, suc, List, [], ◌∷◌, length, take, slice_get, refl, sym, ◌∙◌, ap, subst, arith, Bool, true, false, ◌||◌, not, cond, ◌⊎◌, inl, inr, Option, Some, None}
use Rattle.std.specs.List.{list_any}
use Rattle.std.specs.Ordering.{is_eq, nat_cmp, ordering_then}
use Rattle.std.specs.declared.cmp.Ordering.{Ordering}
use Rattle.std.specs.declared.cmp.Ordering.TheVariants.{Equal}
use Rattle.std.proofs.lemmas.Bool.{cases_eq}
use Rattle.std.proofs.lemmas.Cmp.{tied_itself, nat_cmp_total}
use Rattle.std.proofs.lemmas.List.Folds.{list_any_more}
use Rattle.std.proofs.lemmas.Map.Lookups.{exact_pairs, exact_unsigned}
use Rattle.std.proofs.lemmas.Option.{slice_get_within, get_or_from_slice_get}
use Rattle.list_lemmas.proofs.TestsAndOrders.{equal_by as equal_from_is_eq}
use Rattle.jk_model.specs.declared.class_file.MemberInfo.{MemberInfo}
use Rattle.jk_model_classes.specs.Items.{HasItemBefore}
use Rattle.class_rules.specs.declared.texts.TextFacts.{TextFacts}
use Rattle.class_rules.specs.MemberKeys.{key_of, HasKeyBefore, IsFirstRepeat}

-- ---- A test of the items in front of a place.

or_true : (a b : Bool) → a ≡ true → (a || b) ≡ true
or_true true b h = refl
or_true false b h = absurd cc

or_right : (a b : Bool) → b ≡ true → (a || b) ≡ true
or_right true b h = refl
or_right false b h = h

other_true : (a b : Bool) → (a || b) ≡ true → a ≡ false → b ≡ true
other_true true b h e = absurd cc
other_true false b h e = h

at_head : {X : Type 0} (p : X → Bool) (x : X) (xs : List X) (n : ℕ) (b : Bool) → p x ≡ b
    → (b ≡ false → HasItemBefore n (λ y. p y ≡ true) xs) → HasItemBefore (suc n) (λ y. p y ≡ true) (x ∷ xs)
at_head p x xs n true e later = (0, x, omega arith, refl, e)
at_head p x xs n false e later =
    let (i, y, lt, at, so) = later refl in
    (suc i, y, omega arith, at, so)

place_of_any : {X : Type 0} (p : X → Bool) (xs : List X) (n : ℕ) → list_any p (take n xs) ≡ true → HasItemBefore n (λ x. p x ≡ true) xs
place_of_any p [] zero h = absurd cc
place_of_any p [] (suc n) h = absurd cc
place_of_any p (x ∷ xs) zero h = absurd cc
place_of_any p (x ∷ xs) (suc n) h = at_head p x xs n (p x) refl (λ e. place_of_any p xs n (other_true (p x) (list_any p (take n xs)) h e))

any_of_place : {X : Type 0} (p : X → Bool) (xs : List X) (n i : ℕ) (x : X) → i < n → slice_get xs i ≡ Some x → p x ≡ true → list_any p (take n xs) ≡ true
any_of_place p [] n i x lt at so = absurd cc
any_of_place p (y ∷ ys) zero i x lt at so = absurd (omega arith)
any_of_place p (y ∷ ys) (suc n) zero x lt at so =
    let here : Some y ≡ Some x = at in
    let same : y ≡ x = cc in
    or_true (p y) (list_any p (take n ys)) (ap p same ∙ so)
any_of_place p (y ∷ ys) (suc n) (suc i) x lt at so = or_right (p y) (list_any p (take n ys)) (any_of_place p ys n i x (omega arith) at so)

-- ---- Keys.

abbrev pub pair_cmp : ℕ × ℕ → ℕ × ℕ → Ordering
pair_cmp x y = ordering_then (nat_cmp x.0 y.0) (nat_cmp x.1 y.1)

abbrev pub is_key : ℕ × ℕ → Option (ℕ × ℕ) → Bool
is_key q None = false
is_key q (Some k) = is_eq (pair_cmp k q)

abbrev pub has_key : List (Option TextFacts) → ℕ × ℕ → MemberInfo → Bool
has_key facts q m = is_key q (key_of facts m)

key_from_test : (q : ℕ × ℕ) (o : Option (ℕ × ℕ)) → is_key q o ≡ true → o ≡ Some q
key_from_test q None h = absurd cc
key_from_test q (Some k) h = ap Some (exact_pairs nat_cmp nat_cmp exact_unsigned exact_unsigned k q (equal_from_is_eq (pair_cmp k q) h))

test_from_key : (q : ℕ × ℕ) (o : Option (ℕ × ℕ)) → o ≡ Some q → is_key q o ≡ true
test_from_key q o e =
    let first : nat_cmp q.0 q.0 ≡ Equal = tied_itself nat_cmp_total q.0 in
    let second : nat_cmp q.1 q.1 ≡ Equal = tied_itself nat_cmp_total q.1 in
    let both : is_key q (Some q) ≡ true = rw (first, second) refl in
    rw e both

abbrev pub KeyBefore : List (Option TextFacts) → List MemberInfo → ℕ → ℕ × ℕ → Type 0
KeyBefore facts members i q = HasItemBefore i (λ m. key_of facts m ≡ Some q) members

key_before : (facts : List (Option TextFacts)) (members : List MemberInfo) (i : ℕ) (q : ℕ × ℕ) → list_any (has_key facts q) (take i members) ≡ true
    → KeyBefore facts members i q
key_before facts members i q h =
    let (j, m, lt, at, so) = place_of_any (has_key facts q) members i h in
    (j, m, lt, at, key_from_test q (key_of facts m) so)

before_key : (facts : List (Option TextFacts)) (members : List MemberInfo) (i : ℕ) (q : ℕ × ℕ) → KeyBefore facts members i q
    → list_any (has_key facts q) (take i members) ≡ true
before_key facts members i q (j, m, lt, at, so) = any_of_place (has_key facts q) members i j m lt at (test_from_key q (key_of facts m) so)

-- ---- The walk over members, with a set that has the keys so far.

abbrev pub HasKeysSoFar : (ℕ × ℕ → Bool) → List (Option TextFacts) → List MemberInfo → ℕ → Type 0
HasKeysSoFar has facts members i = (q : ℕ × ℕ) → has q ≡ list_any (has_key facts q) (take i members)

abbrev pub HasNoRepeat : List (Option TextFacts) → List MemberInfo → ℕ → Type 0
HasNoRepeat facts members i = (j : ℕ) → j < i → HasKeyBefore facts members j → ⊥

added_key : (a b : Bool) → cond b true a ≡ (a || b)
added_key true true = refl
added_key true false = refl
added_key false true = refl
added_key false false = refl

pub was_there : (added has : Bool) → added ≡ not has → added ≡ false → has ≡ true
was_there added true e h = refl
was_there added false e h = absurd (let other : added ≡ true = e in cc)

pub was_new : (added has : Bool) → added ≡ not has → added ≡ true → has ≡ false
was_new added true e h = absurd (let other : added ≡ false = e in cc)
was_new added false e h = refl

no_key : (a : Bool) → a ≡ (a || false)
no_key true = refl
no_key false = refl

one_more : (facts : List (Option TextFacts)) (members : List MemberInfo) (i : ℕ) (m : MemberInfo) (q : ℕ × ℕ) → slice_get members i ≡ Some m
    → list_any (has_key facts q) (take (i + 1) members) ≡ (list_any (has_key facts q) (take i members) || is_key q (key_of facts m))
one_more facts members i m q at =
    list_any_more (has_key facts q) members i m (slice_get_within members i m at)
    ∙ ap (λ (x : MemberInfo). list_any (has_key facts q) (take i members) || has_key facts q x) (get_or_from_slice_get members i m m at)

pub keys_after_new : (facts : List (Option TextFacts)) (members : List MemberInfo) (i : ℕ) (m : MemberInfo) (key : ℕ × ℕ) (has after : ℕ × ℕ → Bool)
    → slice_get members i ≡ Some m → key_of facts m ≡ Some key → HasKeysSoFar has facts members i
    → ((q : ℕ × ℕ) → after q ≡ cond (is_eq (pair_cmp key q)) true (has q)) → HasKeysSoFar after facts members (i + 1)
keys_after_new facts members i m key has after at is_its so_far h = λ q.
    h q ∙ added_key (has q) (is_eq (pair_cmp key q))
    ∙ ap (λ (b : Bool). b || is_eq (pair_cmp key q)) (so_far q)
    ∙ sym (one_more facts members i m q at ∙ ap (λ (o : Option (ℕ × ℕ)). list_any (has_key facts q) (take i members) || is_key q o) is_its)

pub keys_after_none : (facts : List (Option TextFacts)) (members : List MemberInfo) (i : ℕ) (m : MemberInfo) (has : ℕ × ℕ → Bool)
    → slice_get members i ≡ Some m → key_of facts m ≡ None → HasKeysSoFar has facts members i → HasKeysSoFar has facts members (i + 1)
keys_after_none facts members i m has at none so_far = λ q.
    so_far q ∙ no_key (list_any (has_key facts q) (take i members))
    ∙ sym (one_more facts members i m q at ∙ ap (λ (o : Option (ℕ × ℕ)). list_any (has_key facts q) (take i members) || is_key q o) none)

below_or_at : (i j : ℕ) → j < i + 1 → (j < i) ⊎ (j ≡ i)
below_or_at i j lt = elim (cases_eq j i) [ inl same ↦ inr same | inr apart ↦ inl (omega arith) ]

no_repeat_more : (facts : List (Option TextFacts)) (members : List MemberInfo) (i : ℕ) → HasNoRepeat facts members i
    → (HasKeyBefore facts members i → ⊥) → HasNoRepeat facts members (i + 1)
no_repeat_more facts members i before here j lt h =
    elim (below_or_at i j lt) as (λ _. ⊥) [ inl less ↦ before j less h | inr same ↦ here (subst (λ (k : ℕ). HasKeyBefore facts members k) same h) ]

pub none_after_new : (facts : List (Option TextFacts)) (members : List MemberInfo) (i : ℕ) (m : MemberInfo) (key : ℕ × ℕ) (has : ℕ × ℕ → Bool)
    → slice_get members i ≡ Some m → key_of facts m ≡ Some key → HasKeysSoFar has facts members i → has key ≡ false
    → HasNoRepeat facts members i → HasNoRepeat facts members (i + 1)
none_after_new facts members i m key has at is_its so_far new before = no_repeat_more facts members i before here
  where
    here : HasKeyBefore facts members i → ⊥
    here (m2, key2, at2, is_its2, earlier) =
        let both : Some m2 ≡ Some m = sym at2 ∙ at in
        let same : m2 ≡ m = cc in
        let keys : Some key2 ≡ Some key = sym is_its2 ∙ ap (λ (x : MemberInfo). key_of facts x) same ∙ is_its in
        let one : key2 ≡ key = cc in
        let there : has key ≡ true = so_far key ∙ before_key facts members i key (subst (λ (k : ℕ × ℕ). KeyBefore facts members i k) one earlier) in
        absurd cc

pub none_after_none : (facts : List (Option TextFacts)) (members : List MemberInfo) (i : ℕ) (m : MemberInfo)
    → slice_get members i ≡ Some m → key_of facts m ≡ None → HasNoRepeat facts members i → HasNoRepeat facts members (i + 1)
none_after_none facts members i m at none before = no_repeat_more facts members i before here
  where
    here : HasKeyBefore facts members i → ⊥
    here (m2, key2, at2, is_its2, earlier) =
        let both : Some m2 ≡ Some m = sym at2 ∙ at in
        let same : m2 ≡ m = cc in
        let keys : Some key2 ≡ None = sym is_its2 ∙ ap (λ (x : MemberInfo). key_of facts x) same ∙ none in
        absurd cc

pub repeat_here : (facts : List (Option TextFacts)) (members : List MemberInfo) (i : ℕ) (m : MemberInfo) (key : ℕ × ℕ) (has : ℕ × ℕ → Bool)
    → slice_get members i ≡ Some m → key_of facts m ≡ Some key → HasKeysSoFar has facts members i → has key ≡ true
    → HasNoRepeat facts members i → IsFirstRepeat facts members (Some i)
repeat_here facts members i m key has at is_its so_far there before =
    ((m, key, at, is_its, key_before facts members i key (sym (so_far key) ∙ there)), before)

pub no_repeat : (facts : List (Option TextFacts)) (members : List MemberInfo) (n : ℕ) → length members ≡ n → HasNoRepeat facts members n
    → IsFirstRepeat facts members None
no_repeat facts members n long none j (m, key, at, is_its, earlier) =
    let within = slice_get_within members j m at in
    none j (omega arith) (m, key, at, is_its, earlier)
