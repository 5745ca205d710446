-- The items of a walk, each once and in the order in which they come, are what a set that keeps the order of insertion has
-- after they were put into it.
use Rattle.std.proofs.Common.{◌≡◌, ℕ, Bool, true, false, cond, not, ◌||◌, ◌==◌, nat_eq, List, [], ◌∷◌, ◌++◌, length, take, filter, Contains, refl, sym, ap, subst, ◌∙◌, inl, inr, ◌⊎◌, append-nil, append_assoc}
use Rattle.std.specs.List.{list_any, AllByRecursion}
use Rattle.std.proofs.lemmas.Bool.{cases_Bool, eqb-true, eq-eqb, or_cases, or_left, or_right}
use Rattle.indexmap.specs.IndexSet.{insert_key}
use Rattle.jk_model.specs.declared.identifiers.ClassId.{ClassId}
use Rattle.jk_model_classes.specs.Classes.{firsts}
use Rattle.class_table.specs.Walks.{numbers, classes_numbered, with_all}
use Rattle.list_lemmas.proofs.ItemsOfLists.{Contains-here, Contains-there, Contains-cases, Contains-none}
use Rattle.list_lemmas.proofs.ItemsByPlace.{take_front}
use Rattle.list_lemmas.proofs.ItemsThatPass.{Contains-filter}

-- whether a class's number isn't among these
abbrev is_new : List ℕ → ClassId → Bool
is_new keys d = not (list_any (nat_eq d.0) keys)

pub with_all-append : (keys : List ℕ) (xs ys : List ClassId) → with_all keys (xs ++ ys) ≡ with_all (with_all keys xs) ys
with_all-append keys [] ys = refl
with_all-append keys (x ∷ xs) ys = with_all-append (insert_key nat_eq keys x.0) xs ys

module _ {X : Type 0} where
  filter-twice : (p q r : X → Bool) → ((x : X) → r x ≡ cond (q x) (p x) false) → (xs : List X) → filter p (filter q xs) ≡ filter r xs
  filter-twice p q r both [] = refl
  filter-twice p q r both (x ∷ xs) =
      let go : (b : Bool) → filter p (cond b (x ∷ filter q xs) (filter q xs)) ≡ cond (cond b (p x) false) (x ∷ filter r xs) (filter r xs)
      = λ b. elim b as (λ v. filter p (cond v (x ∷ filter q xs) (filter q xs)) ≡ cond (cond v (p x) false) (x ∷ filter r xs) (filter r xs)) [
        | true ↦ rw (filter-twice p q r both xs) refl
        | false ↦ filter-twice p q r both xs
      ] in
      rw (both x) (go (q x))

  list_any-push : (p : X → Bool) (xs : List X) (y : X) → list_any p (xs ++ y ∷ []) ≡ (list_any p xs || p y)
  list_any-push p [] y = elim (p y) as (λ v. (v || false) ≡ v) [ true ↦ refl | false ↦ refl ]
  list_any-push p (x ∷ xs) y =
      rw (list_any-push p xs y)
      (elim (p x) as (λ v. (v || (list_any p xs || p y)) ≡ ((v || list_any p xs) || p y)) [ true ↦ refl | false ↦ refl ])

-- ---- The set after a walk: what it had, and then the new ones in the order in which they come.

abbrev is_other : ClassId → ClassId → Bool
is_other c d = not (d.0 == c.0)

new_by : (a e : Bool) → not (a || e) ≡ cond (not e) (not a) false
new_by true true = refl
new_by true false = refl
new_by false true = refl
new_by false false = refl

-- a class that was there isn't new, and so isn't to be left out
there_by : (keys : List ℕ) (n m : ℕ) → list_any (nat_eq m) keys ≡ true
    → not (list_any (nat_eq n) keys) ≡ cond (not (n == m)) (not (list_any (nat_eq n) keys)) false
there_by keys n m there =
    elim (cases_Bool (n == m)) [
      | inl same ↦ let e = eqb-true n m same in rw (same, e, there) refl
      | inr other ↦ rw other refl
    ]

-- with one key more, one more isn't new
more_by : (keys : List ℕ) (n m : ℕ) → not (list_any (nat_eq n) (keys ++ m ∷ [])) ≡ cond (not (n == m)) (not (list_any (nat_eq n) keys)) false
more_by keys n m = rw (list_any-push (nat_eq n) keys m) (new_by (list_any (nat_eq n) keys) (n == m))

insert_key-present : (keys : List ℕ) (n : ℕ) → list_any (nat_eq n) keys ≡ true → insert_key nat_eq keys n ≡ keys
insert_key-present keys n there = rw there refl

insert_key-new : (keys : List ℕ) (n : ℕ) → list_any (nat_eq n) keys ≡ false → insert_key nat_eq keys n ≡ keys ++ n ∷ []
insert_key-new keys n new = rw new refl

pub with_all-is : (keys : List ℕ) (xs : List ClassId) → with_all keys xs ≡ keys ++ numbers (filter (is_new keys) (firsts xs))
with_all-is keys [] = sym (append-nil keys)
with_all-is keys (x ∷ xs) =
    let left : ClassId → List ClassId = λ d. filter (is_new keys) (filter (is_other d) (firsts xs)) in
    elim (cases_Bool (list_any (nat_eq x.0) keys)) [
      | inl there ↦
          ap (λ start. with_all start xs) (insert_key-present keys x.0 there)
          ∙ with_all-is keys xs
          ∙ ap (λ walk. keys ++ numbers walk) (sym (filter-twice (is_new keys) (is_other x) (is_new keys) (λ d. there_by keys d.0 x.0 there) (firsts xs)))
          ∙ ap (λ new. keys ++ numbers (cond (not new) (x ∷ left x) (left x))) (sym there)
      | inr new ↦
          ap (λ start. with_all start xs) (insert_key-new keys x.0 new)
          ∙ with_all-is (keys ++ x.0 ∷ []) xs
          ∙ append_assoc keys (x.0 ∷ []) (numbers (filter (is_new (keys ++ x.0 ∷ [])) (firsts xs)))
          ∙ ap (λ walk. keys ++ x.0 ∷ numbers walk)
          (sym (filter-twice (is_new keys) (is_other x) (is_new (keys ++ x.0 ∷ [])) (λ d. more_by keys d.0 x.0) (firsts xs)))
          ∙ ap (λ new. keys ++ numbers (cond (not new) (x ∷ left x) (left x))) (sym new)
    ]

filter_all : {X : Type 0} (xs : List X) → filter (λ x. true) xs ≡ xs
filter_all [] = refl
filter_all (x ∷ xs) = ap (λ rest. x ∷ rest) (filter_all xs)

-- put into a set with nothing in it
pub with_all-none : (xs : List ClassId) → with_all [] xs ≡ numbers (firsts xs)
with_all-none xs = with_all-is [] xs ∙ ap numbers (filter_all (firsts xs))

-- ---- What is there stays, and what is put in is there.

abbrev pub IsThere : List ℕ → ClassId → Type 0
IsThere keys c = list_any (nat_eq c.0) keys ≡ true

insert_key-there : (keys : List ℕ) (c x : ClassId) → IsThere keys c → IsThere (insert_key nat_eq keys x.0) c
insert_key-there keys c x there = elim (cases_Bool (list_any (nat_eq x.0) keys)) [
  | inl present ↦ rw present there
  | inr new ↦ rw new (rw (list_any-push (nat_eq c.0) keys x.0) (or_left (list_any (nat_eq c.0) keys) (nat_eq c.0 x.0) there))
]

insert_key-itself : (keys : List ℕ) (x : ClassId) → IsThere (insert_key nat_eq keys x.0) x
insert_key-itself keys x = elim (cases_Bool (list_any (nat_eq x.0) keys)) [
  | inl present ↦ rw (present, present) refl
  | inr new ↦
      rw (new, list_any-push (nat_eq x.0) keys x.0)
      (or_right (list_any (nat_eq x.0) keys) (nat_eq x.0 x.0) (eq-eqb x.0 x.0 refl))
]

pub with_all-kept : (keys : List ℕ) (xs : List ClassId) (c : ClassId) → IsThere keys c → IsThere (with_all keys xs) c
with_all-kept keys [] c there = there
with_all-kept keys (x ∷ xs) c there = with_all-kept (insert_key nat_eq keys x.0) xs c (insert_key-there keys c x there)

pub with_all-put : (keys : List ℕ) (xs : List ClassId) (c : ClassId) → Contains xs c → IsThere (with_all keys xs) c
with_all-put keys [] c h = absurd (Contains-none c h)
with_all-put keys (x ∷ xs) c h = elim (Contains-cases c x xs h) [
  | inl same ↦ with_all-kept (insert_key nat_eq keys x.0) xs c (rw (← same) (insert_key-itself keys x))
  | inr later ↦ with_all-put (insert_key nat_eq keys x.0) xs c later
]

same_class : (c d : ClassId) → c.0 ≡ d.0 → c ≡ d
same_class c d e = ap (λ (n : ℕ). record { 0 = n }) e

insert_key-from : (keys : List ℕ) (c x : ClassId) → IsThere (insert_key nat_eq keys x.0) c → IsThere keys c ⊎ (x ≡ c)
insert_key-from keys c x there = elim (cases_Bool (list_any (nat_eq x.0) keys)) [
  | inl present ↦ inl (rw present at there)
  | inr new ↦
      elim (or_cases (list_any (nat_eq c.0) keys) (nat_eq c.0 x.0) (rw (new, list_any-push (nat_eq c.0) keys x.0) at there)) [
        | inl before ↦ inl before
        | inr same ↦ inr (same_class x c (sym (eqb-true c.0 x.0 same)))
      ]
]

-- what is there was there before, or was put in
pub with_all-from : (keys : List ℕ) (xs : List ClassId) (c : ClassId) → IsThere (with_all keys xs) c → IsThere keys c ⊎ Contains xs c
with_all-from keys [] c there = inl there
with_all-from keys (x ∷ xs) c there = elim (with_all-from (insert_key nat_eq keys x.0) xs c there) [
  | inl before ↦
      elim (insert_key-from keys c x before) [
        | inl old ↦ inl old
        | inr same ↦ inr (rw same (Contains-here c xs))
      ]
  | inr later ↦ inr (Contains-there c x xs later)
]

-- ---- What needn't be put in.

-- nothing changes where all is there
pub with_all-present : (keys : List ℕ) (xs : List ClassId) → AllByRecursion (IsThere keys) xs → with_all keys xs ≡ keys
with_all-present keys [] h = refl
with_all-present keys (x ∷ xs) h = ap (λ start. with_all start xs) (insert_key-present keys x.0 h.0) ∙ with_all-present keys xs h.1

with_all-without : (keys : List ℕ) (x : ClassId) (ys : List ClassId) → IsThere keys x
    → with_all keys (filter (is_other x) ys) ≡ with_all keys ys
with_all-without keys x [] there = refl
with_all-without keys x (y ∷ ys) there = elim (cases_Bool (y.0 == x.0)) [
  | inl same ↦
      let present : list_any (nat_eq y.0) keys ≡ true = rw (eqb-true y.0 x.0 same) there in
      rw same (with_all-without keys x ys there ∙ ap (λ start. with_all start ys) (sym (insert_key-present keys y.0 present)))
  | inr other ↦ rw other (with_all-without (insert_key nat_eq keys y.0) x ys (insert_key-there keys x y there))
]

-- the classes of a walk may be put in each once
pub with_all-firsts : (keys : List ℕ) (xs : List ClassId) → with_all keys (firsts xs) ≡ with_all keys xs
with_all-firsts keys [] = refl
with_all-firsts keys (x ∷ xs) =
    with_all-without (insert_key nat_eq keys x.0) x (firsts xs) (insert_key-itself keys x)
    ∙ with_all-firsts (insert_key nat_eq keys x.0) xs

-- ---- What was there stands in front.

pub with_all-front : (keys : List ℕ) (xs : List ClassId) → take (length keys) (with_all keys xs) ≡ keys
with_all-front keys xs = rw (with_all-is keys xs) (take_front keys (numbers (filter (is_new keys) (firsts xs))))

-- ---- Which classes are on the list of firsts.

Contains-filter_from : {X : Type 0} (p : X → Bool) (xs : List X) (x : X) → Contains (filter p xs) x → Contains xs x
Contains-filter_from p [] x h = h
Contains-filter_from p (y ∷ xs) x h = elim (cases_Bool (p y)) [
  | inl passes ↦
      elim (Contains-cases x y (filter p xs) (rw passes at h)) [
        | inl same ↦ rw same (Contains-here x xs)
        | inr later ↦ Contains-there x y xs (Contains-filter_from p xs x later)
      ]
  | inr fails ↦ Contains-there x y xs (Contains-filter_from p xs x (rw fails at h))
]

pub Contains-firsts_from : (xs : List ClassId) (c : ClassId) → Contains (firsts xs) c → Contains xs c
Contains-firsts_from [] c h = h
Contains-firsts_from (x ∷ xs) c h = elim (Contains-cases c x (filter (is_other x) (firsts xs)) h) [
  | inl same ↦ rw same (Contains-here c xs)
  | inr later ↦ Contains-there c x xs (Contains-firsts_from xs c (Contains-filter_from (is_other x) (firsts xs) c later))
]

pub Contains-firsts : (xs : List ClassId) (c : ClassId) → Contains xs c → Contains (firsts xs) c
Contains-firsts [] c h = h
Contains-firsts (x ∷ xs) c h =
    let here : x ≡ c → Contains (firsts (x ∷ xs)) c
    = λ e. subst (λ (d : ClassId). Contains (firsts (x ∷ xs)) d) e (Contains-here x (filter (is_other x) (firsts xs))) in
    elim (Contains-cases c x xs h) [
      | inl same ↦ here same
      | inr later ↦
          elim (cases_Bool (c.0 == x.0)) [
            | inl same ↦ here (same_class x c (sym (eqb-true c.0 x.0 same)))
            | inr other ↦
                Contains-there c x (filter (is_other x) (firsts xs))
                (Contains-filter (is_other x) (firsts xs) c (Contains-firsts xs c later) (rw other refl))
          ]
    ]

pub classes_numbered-numbers : (xs : List ClassId) → classes_numbered (numbers xs) ≡ xs
classes_numbered-numbers [] = refl
classes_numbered-numbers (x ∷ xs) = ap (λ rest. x ∷ rest) (classes_numbered-numbers xs)
