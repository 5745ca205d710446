-- Offers have an order, and a search in order finds an offer exactly where it is there.
use Rattle.std.proofs.Common.{◌≡◌, ℕ, ◌+◌, ◌<◌, ◌≤◌, ◌⊎◌, inl, inr, true, false, List, length, refl, sym, ◌∙◌, ap, arith, Option, Some, None, Result, Ok, Err, Ordering, get_or}
use Rattle.std.specs.Prelude.{Contains, IsTrue, ◌↔◌, IsSorted}
use Rattle.std.specs.Result.{is_ok}
use Rattle.std.specs.Ordering.{nat_cmp, ordering_then, ordering_index, is_lt}
use Rattle.std.specs.declared.cmp.Ordering.TheVariants.{Less, Equal, Greater}
use Rattle.std.specs.Cmp.{IsTotalOrder, IsStrictWeakOrder}
use Rattle.std.specs.Cmp.Lexicographic.{options_total}
use Rattle.std.specs.List.{HoldsAt}
use Rattle.std.specs.List.Sorted.{IsSortedByKey, IsNonDecreasingBy, IsBinarySearchResult, IsSearchInRange}
use Rattle.std.proofs.lemmas.Bool.{cases_lt}
use Rattle.std.proofs.lemmas.Cmp.{then_total, on_total, lists_total, nat_cmp_total, tied_itself}
use Rattle.std.proofs.lemmas.List.Elements.{Contains-get_or}
use Rattle.std.proofs.lemmas.List.Sorted.{ranks_by, searchable_from_sorted}
use Rattle.std.proofs.lemmas.Map.Lookups.{exact_unsigned, exact_bytes}
use Rattle.jk_model.specs.declared.identifiers.ClassId.{ClassId}
use Rattle.jk_model_classes.specs.declared.sharing.Offer.{Offer}
use Rattle.domain_resolver.proofs.ClassOfANumber.{same_class}
use Rattle.domain_resolver.specs.OfferOrder.{offer_cmp, to_cmp}

-- ---- The order.

pub offer_cmp_total : IsTotalOrder offer_cmp
offer_cmp_total = then_total (on_total (λ (o : Offer). o.class.0) nat_cmp_total) (on_total (λ (o : Offer). o.to) (options_total (lists_total nat_cmp_total)))

-- as a sort asks for it
pub offers_rank : IsStrictWeakOrder (λ x y. is_lt (offer_cmp x y))
offers_rank = ranks_by offer_cmp_total (λ (o : Offer). o)

exact_to : (a b : Option (List ℕ)) → to_cmp a b ≡ Equal → a ≡ b
exact_to None None e = refl
exact_to None (Some y) e = cc
exact_to (Some x) None e = cc
exact_to (Some x) (Some y) e = ap Some (exact_bytes x y e)

-- offers that tie are equal
pub exact_offer : (a b : Offer) → offer_cmp a b ≡ Equal → a ≡ b
exact_offer a b e = by_class (nat_cmp a.class.0 b.class.0) refl e
  where
    same : (m n : ℕ) (s t : Option (List ℕ)) → m ≡ n → s ≡ t
        → (let x : Offer = record { class = record { 0 = m }; to = s } in x) ≡ record { class = record { 0 = n }; to = t }
    same m n s t p q = cc

    by_class : (r : Ordering) → nat_cmp a.class.0 b.class.0 ≡ r → ordering_then r (to_cmp a.to b.to) ≡ Equal → a ≡ b
    by_class Less p q = cc
    by_class Equal p q = same a.class.0 b.class.0 a.to b.to (exact_unsigned a.class.0 b.class.0 p) (exact_to a.to b.to q)
    by_class Greater p q = cc

-- offers in order are in the order of their classes
class_below : (m n : ℕ) (t : Ordering) → is_lt (ordering_then (nat_cmp m n) t) ≡ false → is_lt (nat_cmp m n) ≡ false
class_below m n t h = by_class (nat_cmp m n) refl h
  where
    by_class : (r : Ordering) → nat_cmp m n ≡ r → is_lt (ordering_then r t) ≡ false → is_lt (nat_cmp m n) ≡ false
    by_class Less p q = cc
    by_class Equal p q = ap is_lt p
    by_class Greater p q = ap is_lt p

pub classes_in_order : (xs : List Offer) → IsSorted offer_cmp xs → IsSortedByKey (λ (o : Offer). o.class.0) nat_cmp xs
classes_in_order xs h =
    λ k d low high.
    let a = get_or xs (k + 1) d in
    let b = get_or xs k d in
    class_below a.class.0 b.class.0 (to_cmp a.to b.to) (h k d low high)

-- ---- The search.

-- over items in order, a search answers whether some item ties
pub search_tells : {X : Type 0} (ord : X → Ordering) (xs : List X) (r : Result ℕ ℕ) → IsSearchInRange r (length xs) → IsBinarySearchResult ord xs r
    → IsNonDecreasingBy (λ y. ordering_index (ord y)) xs → (k : ℕ) (x : X) → k < length xs → get_or xs k x ≡ x → ord x ≡ Equal → is_ok r ≡ true
search_tells ord xs (Ok i) range found rising k x low at tie = refl
search_tells ord xs (Err i) range found rising k x low at tie = by_order (cases_lt k i)
  where
    by_order : (k < i) ⊎ (i ≤ k) → false ≡ true
    by_order (inl early) =
        let less : ord (get_or xs k x) ≡ Less = (found rising).0 k x (omega arith) early in
        let both : Less ≡ Equal = sym less ∙ ap ord at ∙ tie in cc
    by_order (inr late) =
        let more : ord (get_or xs k x) ≡ Greater = (found rising).1 k x late low in
        let both : Greater ≡ Equal = sym more ∙ ap ord at ∙ tie in cc

-- and what it finds ties
pub search_finds : {X : Type 0} (ord : X → Ordering) (xs : List X) (r : Result ℕ ℕ) → IsSearchInRange r (length xs) → IsBinarySearchResult ord xs r
    → is_ok r ≡ true → (i : ℕ) × (i < length xs) × HoldsAt (λ y. ord y ≡ Equal) xs i
search_finds ord xs (Ok i) range found ok = (i, range, found)
search_finds ord xs (Err i) range found ok = cc

-- ---- What a search says of offers in order.

pub says_offer : (xs : List Offer) (x : Offer) (r : Result ℕ ℕ) → IsSorted offer_cmp xs → IsSearchInRange r (length xs)
    → IsBinarySearchResult (λ y. offer_cmp y x) xs r → IsTrue (is_ok r) ↔ Contains xs x
says_offer xs x r sorted range found = (there, tells)
  where
    there : IsTrue (is_ok r) → Contains xs x
    there ok = let f = search_finds (λ y. offer_cmp y x) xs r range found ok in (f.0, f.1, exact_offer _ x (f.2 x))

    tells : Contains xs x → IsTrue (is_ok r)
    tells (k, low, at) =
        let rising = searchable_from_sorted offer_cmp_total (λ (o : Offer). o) xs x sorted in
        search_tells (λ y. offer_cmp y x) xs r range found rising k x low at (tied_itself offer_cmp_total x)

pub says_class : (xs : List Offer) (c : ClassId) (r : Result ℕ ℕ) → IsSorted offer_cmp xs → IsSearchInRange r (length xs)
    → IsBinarySearchResult (λ (y : Offer). nat_cmp y.class.0 c.0) xs r → IsTrue (is_ok r) ↔ ((o : Offer) × Contains xs o × (o.class ≡ c))
says_class xs c r sorted range found = (there, tells)
  where
    there : IsTrue (is_ok r) → (o : Offer) × Contains xs o × (o.class ≡ c)
    there ok =
        let f = search_finds (λ (y : Offer). nat_cmp y.class.0 c.0) xs r range found ok in
        let d : Offer = record { class = c; to = None } in
        let o = get_or xs f.0 d in
        (o, Contains-get_or xs f.0 d f.1, same_class o.class c (exact_unsigned o.class.0 c.0 (f.2 d)))

    tells : (o : Offer) × Contains xs o × (o.class ≡ c) → IsTrue (is_ok r)
    tells (o, (k, low, at), same) =
        let rising = searchable_from_sorted nat_cmp_total (λ (y : Offer). y.class.0) xs c.0 (classes_in_order xs sorted) in
        let tie : nat_cmp o.class.0 c.0 ≡ Equal = rw same (tied_itself nat_cmp_total c.0) in
        search_tells (λ (y : Offer). nat_cmp y.class.0 c.0) xs r range found rising k o low at tie
