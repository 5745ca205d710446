-- The owners and places that a table keeps beside its ranges stay theirs in each call, and there is a number for each range.
use Rattle.std.proofs.Common.{◌≡◌, ℕ, zero, suc, ◌+◌, ◌≤◌, Bool, false, List, [], ◌∷◌, ◌++◌, length, set, map, replicate, Option, Some, None, MatchOption, nat_eq, refl, sym, ◌∙◌, inl, inr, true, ◌<◌, ◌^◌, ap, arith, append-nil, append_assoc}
use Rattle.std.specs.List.{list_any, AllByRecursion, IsDistinct}
use Rattle.std.proofs.lemmas.Bool.{or_cases, eqb-true}
use Rattle.std.proofs.lemmas.Cmp.{nat_eq_equiv}
use Rattle.std.proofs.lemmas.Map.Keys.{IsDistinct-push}
use Rattle.std.proofs.lemmas.Map.Steps.{length-le_from_distinct_below}
use Rattle.std.proofs.lemmas.List.{length-map, length_push, map_push, set-get_or}
use Rattle.jk_model.proofs.EachItem.{all_push}
use Rattle.std.proofs.lemmas.List.Sums.{sum_by-cons, sum_by-append}
use Rattle.indexmap.specs.IndexSet.{insert_key}
use Rattle.jk_model.specs.declared.identifiers.DomainId.{DomainId}
use Rattle.jk_model.specs.declared.identifiers.CapId.{CapId}
use Rattle.jk_model.specs.Capabilities.{Range, Creation, last_number, numbers, is_owned_by, range_of, next_in, next_number, created, with_creation}
use Rattle.capability_table.specs.Places.{IsOnlyAt, AreChained, places_from, owner_number, IsTable}
use Rattle.capability_table.proofs.OneRangePasses.{only-changed, only-find, only-get_or, head_passes}
use Rattle.capability_table.proofs.PlaceOfAnOwner.{eq_sym}
use Rattle.capability_table.proofs.PlaceOfANumber.{length-places_from}

-- there are as many places as numbers
pub table-length : (owners places : List ℕ) (xs : List Range) → IsTable owners places xs → length places ≡ numbers xs
table-length owners places xs t = ap length t.places_are ∙ length-places_from 0 xs

-- ---- A range is changed in what was created alone.

pub record IsSameRange (r s : Range) : Type 0 where
  pub owner : s.owner ≡ r.owner
  pub first : s.first ≡ r.first
  pub count : s.count ≡ r.count

owners-set : (test : Range → Bool) (xs : List Range) (i : ℕ) (r s : Range) → IsOnlyAt test xs i r → IsSameRange r s
    → map owner_number (set xs i s) ≡ map owner_number xs
owners-set test [] i r s h same = absurd h
owners-set test (x ∷ xs) zero r s h same = rw (same.owner, h.0) refl
owners-set test (x ∷ xs) (suc i) r s h same = rw (owners-set test xs i r s h.1 same) refl

places-set : (test : Range → Bool) (p : ℕ) (xs : List Range) (i : ℕ) (r s : Range) → IsOnlyAt test xs i r → IsSameRange r s
    → places_from p (set xs i s) ≡ places_from p xs
places-set test p [] i r s h same = absurd h
places-set test p (x ∷ xs) zero r s h same = rw (same.count, h.0) refl
places-set test p (x ∷ xs) (suc i) r s h same = rw (places-set test (p + 1) xs i r s h.1 same) refl

chained-set : (test : Range → Bool) (first : ℕ) (xs : List Range) (i : ℕ) (r s : Range) → IsOnlyAt test xs i r → IsSameRange r s
    → AreChained first xs → AreChained first (set xs i s)
chained-set test first [] i r s h same all = absurd h
chained-set test first (x ∷ xs) zero r s h same all =
    (same.first ∙ ap (λ y. y.first) (sym h.0) ∙ all.0, rw (same.count, ← (h.0)) all.1)
chained-set test first (x ∷ xs) (suc i) r s h same all =
    (all.0, chained-set test (first + x.count) xs i r s h.1 same all.1)

numbers-set : (test : Range → Bool) (xs : List Range) (i : ℕ) (r s : Range) → IsOnlyAt test xs i r → IsSameRange r s → numbers (set xs i s) ≡ numbers xs
numbers-set test [] i r s h same = absurd h
numbers-set test (x ∷ xs) zero r s h same =
    omega (arith, sum_by-cons (λ y. y.count) x xs, sum_by-cons (λ y. y.count) s xs, same.count, ap (λ y. y.count) h.0)
numbers-set test (x ∷ xs) (suc i) r s h same =
    omega (arith, sum_by-cons (λ y. y.count) x xs, sum_by-cons (λ y. y.count) x (set xs i s), numbers-set test xs i r s h.1 same)

pub table-set : (owners places : List ℕ) (test : Range → Bool) (xs : List Range) (i : ℕ) (r s : Range) → IsTable owners places xs
    → IsOnlyAt test xs i r → IsSameRange r s → IsTable owners places (set xs i s)
table-set owners places test xs i r s t h same =
    record {
      owners_are = t.owners_are ∙ sym (owners-set test xs i r s h same);
      owners_apart = t.owners_apart;
      owners_fit = t.owners_fit;
      places_are = t.places_are ∙ sym (places-set test 0 xs i r s h same);
      chained = chained-set test 1 xs i r s h same t.chained;
      few = rw (numbers-set test xs i r s h same) t.few;
    }

-- ---- One more range.

places-push : (p : ℕ) (xs : List Range) (r : Range) → places_from p (xs ++ r ∷ []) ≡ places_from p xs ++ replicate r.count (p + length xs)
places-push p [] r = let e : p + 0 ≡ p = omega arith in rw (append-nil, e) refl
places-push p (x ∷ xs) r =
    let e : (p + 1) + length xs ≡ p + suc (length xs) = omega arith in
    rw (places-push (p + 1) xs r, e) (sym (append_assoc (replicate x.count p) (places_from (p + 1) xs) (replicate r.count (p + suc (length xs)))))

chained-push : (first : ℕ) (xs : List Range) (r : Range) → AreChained first xs → r.first ≡ first + numbers xs → AreChained first (xs ++ r ∷ [])
chained-push first [] r all e = let none : first + 0 ≡ first = omega arith in (e ∙ none, tt)
chained-push first (x ∷ xs) r all e =
    (all.0, chained-push (first + x.count) xs r all.1 (omega (arith, e, sum_by-cons (λ y. y.count) x xs)))

pub no_owner : (owner : DomainId) (xs : List Range) → range_of xs owner ≡ None → list_any (nat_eq owner.0) (map owner_number xs) ≡ false
no_owner owner [] none = refl
no_owner owner (x ∷ xs) none =
    let parts = head_passes (is_owned_by owner x) x (range_of xs owner) none in
    rw (eq_sym owner.0 x.owner.0, parts.0) (no_owner owner xs parts.1)

pub table-push : (owners places : List ℕ) (xs : List Range) (r : Range) → IsTable owners places xs → r.owner.0 < 2 ^ 32
    → r.first ≡ 1 + numbers xs → list_any (nat_eq r.owner.0) owners ≡ false → numbers xs + r.count ≤ last_number
    → IsTable (owners ++ r.owner.0 ∷ []) (places ++ replicate r.count (length xs)) (xs ++ r ∷ [])
table-push owners places xs r t fits e other few =
    record {
      owners_are = rw (map_push owner_number, t.owners_are) refl;
      owners_apart = IsDistinct-push nat_eq_equiv owners r.owner.0 t.owners_apart other;
      owners_fit = all_push (λ k. k < 2 ^ 32) owners r.owner.0 t.owners_fit fits;
      places_are = let same : 0 + length xs ≡ length xs = omega arith in rw (places-push 0 xs r, same, t.places_are) refl;
      chained = chained-push 1 xs r t.chained e;
      few = omega (arith, few, sum_by-append (λ y. y.count) xs (r ∷ []), sum_by-cons (λ y. y.count) r []);
    }

insert_new : (owners : List ℕ) (n : ℕ) → list_any (nat_eq n) owners ≡ false → insert_key nat_eq owners n ≡ owners ++ n ∷ []
insert_new owners n none = rw none refl

-- no range is this owner's
other_owner : (owners places : List ℕ) (xs : List Range) (owner : DomainId) → IsTable owners places xs
    → range_of xs owner ≡ None → list_any (nat_eq owner.0) owners ≡ false
other_owner owners places xs owner t none = rw (t.owners_are) (no_owner owner xs none)

pub table-admitted : (owners places : List ℕ) (xs : List Range) (owner : DomainId) (r : Range) (used count place : ℕ)
    → IsTable owners places xs → owner.0 < 2 ^ 32 → range_of xs owner ≡ None → place ≡ length xs → used ≡ numbers xs
    → used + count ≤ last_number → r ≡ record { owner = owner; first = 1 + used; count = count; made = [] }
    → IsTable (insert_key nat_eq owners owner.0) (places ++ replicate count place) (xs ++ r ∷ [])
table-admitted owners places xs owner r used count place t fits none e many few is =
    let other = other_owner owners places xs owner t none in
    let s : Range = record { owner = owner; first = 1 + used; count = count; made = [] } in
    rw (insert_new owners owner.0 other, e, is)
    (table-push owners places xs s t fits (ap (λ n. 1 + n) many) other (omega (arith, few, many)))

-- ---- There are no more owners than numbers of 32 bits.

below_bound : (bound : ℕ) (ns : List ℕ) → AllByRecursion (λ n. n < bound) ns → (q : ℕ) → list_any (nat_eq q) ns ≡ true → q < bound
below_bound bound [] h q is = absurd cc
below_bound bound (n ∷ ns) h q is = elim (or_cases (nat_eq q n) (list_any (nat_eq q) ns) is) [
  | inl here ↦ omega (arith, eqb-true q n here, h.0)
  | inr later ↦ below_bound bound ns h.1 q later
]

few_with : (bound n : ℕ) (ns : List ℕ) → IsDistinct nat_eq ns → AllByRecursion (λ k. k < bound) ns → n < bound
    → list_any (nat_eq n) ns ≡ false → length ns < bound
few_with bound n ns apart fit fits other =
    let both = IsDistinct-push nat_eq_equiv ns n apart other in
    let all = all_push (λ k. k < bound) ns n fit fits in
    let most : length (ns ++ n ∷ []) ≤ bound = length-le_from_distinct_below (ns ++ n ∷ []) bound both (below_bound bound (ns ++ n ∷ []) all) in
    omega (arith, most, length_push ns n)

-- where a domain has no range yet, the count of the ranges fits 32 bits
pub few_ranges : (owners places : List ℕ) (xs : List Range) (owner : DomainId) → IsTable owners places xs → owner.0 < 2 ^ 32
    → range_of xs owner ≡ None → length xs < 2 ^ 32
few_ranges owners places xs owner t fits none =
    let few : length owners < 2 ^ 32 = few_with (2 ^ 32) owner.0 owners t.owners_apart t.owners_fit fits (other_owner owners places xs owner t none) in
    omega (arith, few, ap length t.owners_are, length-map xs owner_number)

-- ---- What the calls answer, where the one range that they touch is known.

set-same : (test : Range → Bool) (xs : List Range) (i : ℕ) (r : Range) → IsOnlyAt test xs i r → set xs i r ≡ xs
set-same test xs i r h = ap (set xs i) (sym (only-get_or test xs i r r h)) ∙ set-get_or xs i r

pub next-only : (owner : DomainId) (xs : List Range) (i : ℕ) (r : Range) → IsOnlyAt (is_owned_by owner) xs i r → next_number xs owner ≡ next_in r
next-only owner xs i r h = rw (only-find (is_owned_by owner) xs i r h) refl

pub created-only : (owner : DomainId) (target : ℕ) (xs : List Range) (i : ℕ) (r s : Range) (c : Option CapId)
    → IsOnlyAt (is_owned_by owner) xs i r → MatchOption c (s ≡ r) (λ _. s ≡ with_creation target r)
    → MatchOption c (set xs i s ≡ xs) (λ _. set xs i s ≡ created xs owner target)
created-only owner target xs i r s None h e = rw e (set-same (is_owned_by owner) xs i r h)
created-only owner target xs i r s (Some k) h e = rw e (only-changed (is_owned_by owner) (with_creation target) xs i r h)

pub same-created : (target : ℕ) (r s : Range) (c : Option CapId) → MatchOption c (s ≡ r) (λ _. s ≡ with_creation target r) → IsSameRange r s
same-created target r s None e = rw e (record { owner = refl; first = refl; count = refl })
same-created target r s (Some k) e = rw e (record { owner = refl; first = refl; count = refl })

pub same-made : (r s : Range) (made : List Creation) → s ≡ record r { made = made } → IsSameRange r s
same-made r s made e = rw e (record { owner = refl; first = refl; count = refl })
