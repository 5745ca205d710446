-- The name at a place: how it is found, and the names after it is changed or removed.
use Rattle.std.proofs.Common.{◌≡◌, ℕ, zero, suc, ◌+◌, ◌<◌, inl, inr, Bool, true, false, List, [], ◌∷◌, length, drop, filter, find, map, set, take, Option, Some, None, slice_get, refl, sym, ap, subst, ◌∙◌, arith}
use Rattle.std.specs.Prelude.{◌==◌, bytes_eq, if◌then◌else◌, not, option_map}
use Rattle.std.specs.List.{position, position_from, remove}
use Rattle.std.proofs.lemmas.Bool.{cases_Bool}
use Rattle.std.proofs.lemmas.Iterator.Adapters.{position_from-zero}
use Rattle.std.proofs.lemmas.List.{drop-map, map-append, map-set, take-map}
use Rattle.std.proofs.lemmas.Option.{same_Some}
use Rattle.jk_model.specs.declared.identifiers.CapId.{CapId}
use Rattle.jk_model.specs.declared.identifiers.DomainId.{DomainId}
use Rattle.jk_model_sharing.specs.BoundNames.{BoundName, bound_as, count_bound_by, without_names_of}
use Rattle.list_lemmas.proofs.ItemsByPlace.{mapped_at}
use Rattle.thread_segments.specs.declared.names.NameEntry.{NameEntry}
use Rattle.thread_segments.specs.NameEntries.{IsPlaceOfName, name_of, names_of}
use Rattle.thread_segments.proofs.SoundNames.{text_same}
use Rattle.thread_stacks.proofs.Filtered.{one_if}

-- ---- Finding.

record FoundFrom {X : Type 0} (p : X → Bool) (n : ℕ) (xs : List X) (k : ℕ) : Type 0 where
  place : ℕ
  is : k ≡ n + place
  item : X
  there : slice_get xs place ≡ Some item
  passes : p item ≡ true
  found : find p xs ≡ Some item

position_some : {X : Type 0} (p : X → Bool) (n : ℕ) (xs : List X) (k : ℕ) → position_from p n xs ≡ Some k → FoundFrom p n xs k
position_some p n [] k e = absurd cc
position_some p n (x ∷ xs) k e = elim (cases_Bool (p x)) [
  | inl hit ↦
      let here : Some n ≡ Some k = rw hit at e in
      let same : n ≡ k = same_Some n k here in
      record { place = zero; is = omega (arith, same); item = x; there = refl; passes = hit; found = rw hit refl }
  | inr miss ↦
      let later : position_from p (n + 1) xs ≡ Some k = rw miss at e in
      let r = position_some p (n + 1) xs k later in
      record { place = suc r.place; is = omega (arith, r.is); item = r.item; there = r.there; passes = r.passes; found = rw miss r.found }
]

position_none : {X : Type 0} (p : X → Bool) (n : ℕ) (xs : List X) → position_from p n xs ≡ None → find p xs ≡ None
position_none p n [] e = refl
position_none p n (x ∷ xs) e = elim (cases_Bool (p x)) [
  | inl hit ↦ let here : Some n ≡ None = rw hit at e in absurd cc
  | inr miss ↦ let later : position_from p (n + 1) xs ≡ None = rw miss at e in rw miss (position_none p (n + 1) xs later)
]

from_start : {X : Type 0} (p : X → Bool) (xs : List X) → position_from p 0 xs ≡ position p xs
from_start p xs = sym (position_from-zero p xs)

found_of : (entries : List NameEntry) (text : List ℕ)
    → bound_as (names_of entries) text ≡ option_map name_of (find (λ (e : NameEntry). bytes_eq e.text.items text) entries)
found_of [] text = refl
found_of (e ∷ entries) text = elim (cases_Bool (bytes_eq e.text.items text)) [
  | inl hit ↦ rw hit refl
  | inr miss ↦ rw miss (found_of entries text)
]

pub place_told : (entries : List NameEntry) (text : List ℕ) (o : Option ℕ) → o ≡ position (λ (e : NameEntry). bytes_eq e.text.items text) entries
    → IsPlaceOfName (names_of entries) text o
place_told entries text None e =
    let none = position_none (λ (x : NameEntry). bytes_eq x.text.items text) 0 entries
    (from_start (λ (x : NameEntry). bytes_eq x.text.items text) entries ∙ sym e) in
    found_of entries text ∙ ap (option_map name_of) none
place_told entries text (Some k) e =
    let r = position_some (λ (x : NameEntry). bytes_eq x.text.items text) 0 entries k
    (from_start (λ (x : NameEntry). bytes_eq x.text.items text) entries ∙ sym e) in
    let P : ℕ → Type 0 = λ i. slice_get entries i ≡ Some r.item in
    let place : r.place ≡ k = omega (arith, r.is) in (
      name_of r.item,
      mapped_at name_of entries k r.item (subst P place r.there),
      text_same r.item.text.items text r.passes,
      found_of entries text ∙ ap (option_map name_of) r.found,
    )

-- ---- Changes by place.

pub map-remove : {X Y : Type 0} (f : X → Y) (xs : List X) (i : ℕ) → map f (remove xs i) ≡ remove (map f xs) i
map-remove f xs i = map-append f (take i xs) (drop (suc i) xs) ∙ rw (take-map f i xs, drop-map f (suc i) xs) refl

pub names_set : (entries : List NameEntry) (i : ℕ) (e : NameEntry) (n : BoundName) (k : CapId) → slice_get entries i ≡ Some e
    → slice_get (names_of entries) i ≡ Some n → names_of (set entries i (record e { cap = k })) ≡ set (names_of entries) i (record n { cap = k })
names_set entries i e n k at_e at_n =
    let same : name_of e ≡ n = same_Some (name_of e) n (sym (mapped_at name_of entries i e at_e) ∙ at_n) in
    map-set name_of entries i (record e { cap = k }) ∙ ap (λ (m : BoundName). set (names_of entries) i (record m { cap = k })) same

module _ {X : Type 0} (test : X → Bool) (new : X) where
  none_changed : (xs : List X) → ((j : ℕ) (y : X) → slice_get xs j ≡ Some y → test y ≡ true → ⊥) → map (λ (x : X). if test x then new else x) xs ≡ xs
  none_changed [] none = refl
  none_changed (x ∷ xs) none = elim (cases_Bool (test x)) [
    | inl hit ↦ absurd (none zero x refl hit)
    | inr miss ↦ rw (miss, none_changed xs (λ j y at. none (suc j) y at)) refl
  ]

  -- where one item alone passes, it alone is replaced
  pub one_replaced : (xs : List X) (i : ℕ) (x : X) → slice_get xs i ≡ Some x → test x ≡ true
      → ((j : ℕ) (y : X) → slice_get xs j ≡ Some y → test y ≡ true → j ≡ i) → set xs i new ≡ map (λ (y : X). if test y then new else y) xs
  one_replaced [] i x at hit only = absurd cc
  one_replaced (y ∷ xs) zero x at hit only =
      let here : test y ≡ true = ap test (same_Some y x at) ∙ hit in
      let rest = none_changed xs (λ j z there passes. let e = only (suc j) z there passes in omega (arith, e)) in
      rw (here, rest) refl
  one_replaced (y ∷ xs) (suc i) x at hit only = elim (cases_Bool (test y)) [
    | inl passes ↦ absurd (let e = only zero y refl passes in omega (arith, e))
    | inr miss ↦
        rw (miss, ← one_replaced xs i x at hit (λ j z there passes. let e = only (suc j) z there passes in omega (arith, e))) refl
  ]

module _ {X : Type 0} (test : X → Bool) where
  none_left_out : (xs : List X) → ((j : ℕ) (y : X) → slice_get xs j ≡ Some y → test y ≡ true → ⊥) → filter (λ (x : X). not (test x)) xs ≡ xs
  none_left_out [] none = refl
  none_left_out (x ∷ xs) none = elim (cases_Bool (test x)) [
    | inl hit ↦ absurd (none zero x refl hit)
    | inr miss ↦ rw miss (ap (λ ys. x ∷ ys) (none_left_out xs (λ j y at. none (suc j) y at)))
  ]

  -- and it alone is left out
  pub one_left_out : (xs : List X) (i : ℕ) (x : X) → slice_get xs i ≡ Some x → test x ≡ true
      → ((j : ℕ) (y : X) → slice_get xs j ≡ Some y → test y ≡ true → j ≡ i) → remove xs i ≡ filter (λ (y : X). not (test y)) xs
  one_left_out [] i x at hit only = absurd cc
  one_left_out (y ∷ xs) zero x at hit only =
      let here : test y ≡ true = ap test (same_Some y x at) ∙ hit in
      rw here (sym (none_left_out xs (λ j z there passes. let e = only (suc j) z there passes in omega (arith, e))))
  one_left_out (y ∷ xs) (suc i) x at hit only = elim (cases_Bool (test y)) [
    | inl passes ↦ absurd (let e = only zero y refl passes in omega (arith, e))
    | inr miss ↦
        rw miss (ap (λ ys. y ∷ ys) (one_left_out xs i x at hit (λ j z there passes. let e = only (suc j) z there passes in omega (arith, e))))
  ]

-- ---- Counts.

pub count_removed : (d : DomainId) (names : List BoundName) (i : ℕ) (n : BoundName) → slice_get names i ≡ Some n
    → count_bound_by (remove names i) d + one_if (n.binder.0 == d.0) ≡ count_bound_by names d
count_removed d [] i n at = absurd cc
count_removed d (m ∷ names) zero n at =
    let same : (m.binder.0 == d.0) ≡ (n.binder.0 == d.0) = ap (λ (x : BoundName). x.binder.0 == d.0) (same_Some m n at) in
    elim (cases_Bool (n.binder.0 == d.0)) [
      | inl hit ↦ let now : (m.binder.0 == d.0) ≡ true = same ∙ hit in rw (now, hit) (omega arith)
      | inr miss ↦ let now : (m.binder.0 == d.0) ≡ false = same ∙ miss in rw (now, miss) (omega arith)
    ]
count_removed d (m ∷ names) (suc i) n at =
    let rest = count_removed d names i n at in
    elim (cases_Bool (m.binder.0 == d.0)) [ inl hit ↦ rw hit (omega (arith, rest)) | inr miss ↦ rw miss rest ]

pub count_set : (d : DomainId) (names : List BoundName) (i : ℕ) (n new : BoundName) → slice_get names i ≡ Some n → new.binder ≡ n.binder
    → count_bound_by (set names i new) d ≡ count_bound_by names d
count_set d [] i n new at same = refl
count_set d (m ∷ names) zero n new at same =
    let told : (new.binder.0 == d.0) ≡ (m.binder.0 == d.0) =
    ap (λ (x : DomainId). x.0 == d.0) (same ∙ ap (λ (x : BoundName). x.binder) (sym (same_Some m n at))) in
    elim (cases_Bool (m.binder.0 == d.0)) [
      | inl hit ↦ let now : (new.binder.0 == d.0) ≡ true = told ∙ hit in rw (now, hit) refl
      | inr miss ↦ let now : (new.binder.0 == d.0) ≡ false = told ∙ miss in rw (now, miss) refl
    ]
count_set d (m ∷ names) (suc i) n new at same =
    let rest = count_set d names i n new at same in
    elim (cases_Bool (m.binder.0 == d.0)) [ inl hit ↦ rw hit (ap suc rest) | inr miss ↦ rw miss rest ]

pub length-removed : {X : Type 0} (xs : List X) (i : ℕ) → i < length xs → length (remove xs i) + 1 ≡ length xs
length-removed [] i low = absurd (omega arith)
length-removed (x ∷ xs) zero low = omega arith
length-removed (x ∷ xs) (suc i) low = let rest = length-removed xs i (omega arith) in omega (arith, rest)

-- the names of other domains
pub names_of_others : (d : DomainId) (es : List NameEntry) → names_of (filter (λ (e : NameEntry). not (e.binder.0 == d.0)) es)
    ≡ without_names_of d (names_of es)
names_of_others d [] = refl
names_of_others d (e ∷ es) = elim (cases_Bool (e.binder.0 == d.0)) [
  | inl hit ↦ rw hit (names_of_others d es)
  | inr miss ↦ rw miss (ap (λ (ns : List BoundName). name_of e ∷ ns) (names_of_others d es))
]
