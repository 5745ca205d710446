-- Parts that were sorted by names are in the order of their classes' names.
use Rattle.std.proofs.Common.{◌≡◌, ◌+◌, ◌<◌, ◌⊎◌, inl, inr, List, [], ◌∷◌, ◌++◌, length, map, arith, Result, Ok, Err, get_or}
use Rattle.std.specs.Prelude.{Contains, IfOk}
use Rattle.std.specs.Ordering.{nat_cmp, is_lt}
use Rattle.std.specs.Cmp.{IsStrictWeakOrder}
use Rattle.std.specs.Cmp.Lexicographic.{slice_cmp}
use Rattle.std.specs.List.Sorted.{IsPermutation, IsSortedByKey}
use Rattle.std.proofs.lemmas.Cmp.{lists_total, nat_cmp_total}
use Rattle.std.proofs.lemmas.List.{get_or-map, length-map}
use Rattle.std.proofs.lemmas.List.Elements.{Contains-get_or, Contains-push_cases}
use Rattle.std.proofs.lemmas.List.Sorted.{ranks_by, Contains-permutation, IsPermutation-sym}
use Rattle.jk_model_classes.specs.declared.records.ClassRecord.{ClassRecord}
use Rattle.jk_model_domains.specs.declared.states.LiteralImage.{LiteralImage}
use Rattle.class_init.specs.declared.in_order.NamedPart.{NamedPart}
use Rattle.class_init.specs.InOrder.{AreByName, AreNamedParts, IsNamedPart, name_of, part_of_named}

pub names_rank : IsStrictWeakOrder (λ (a b : NamedPart). is_lt (slice_cmp nat_cmp a.name b.name))
names_rank = ranks_by (lists_total nat_cmp_total) (λ (n : NamedPart). n.name)

pub texts_rank : IsStrictWeakOrder (λ (a b : LiteralImage). is_lt (slice_cmp nat_cmp a.text b.text))
texts_rank = ranks_by (lists_total nat_cmp_total) (λ (l : LiteralImage). l.text)

pub named_one_more : (t : List ClassRecord) (xs : List NamedPart) (x : NamedPart) → AreNamedParts t xs → IsNamedPart t x → AreNamedParts t (xs ++ x ∷ [])
named_one_more t xs x h is n has = by_place (Contains-push_cases xs x n has)
  where
    by_place : Contains xs n ⊎ (x ≡ n) → IsNamedPart t n
    by_place (inl there) = h n there
    by_place (inr same) = rw (← same) is

pub named_permuted : (t : List ClassRecord) (xs ys : List NamedPart) → IsPermutation xs ys → AreNamedParts t xs → AreNamedParts t ys
named_permuted t xs ys p h n has = h n (Contains-permutation ys xs n (IsPermutation-sym xs ys p) has)

pub by_name_sorted : (t : List ClassRecord) (xs : List NamedPart) → AreNamedParts t xs → IsSortedByKey (λ (n : NamedPart). n.name) (slice_cmp nat_cmp) xs
    → AreByName t (map part_of_named xs)
by_name_sorted t xs h sorted = λ k d low high.
    let e : NamedPart = record { name = []; part = d } in
    let two : k + 1 < length xs = rw length-map at high in
    let one : k < length xs = omega (arith, two) in
    let a : get_or (map part_of_named xs) k d ≡ (get_or xs k e).part = get_or-map part_of_named xs k e d one in
    let b : get_or (map part_of_named xs) (k + 1) d ≡ (get_or xs (k + 1) e).part = get_or-map part_of_named xs (k + 1) e d two in
    let m : (get_or xs k e).name ≡ name_of t (get_or xs k e).part.class = h (get_or xs k e) (Contains-get_or xs k e one) in
    let n : (get_or xs (k + 1) e).name ≡ name_of t (get_or xs (k + 1) e).part.class = h (get_or xs (k + 1) e) (Contains-get_or xs (k + 1) e two) in
    rw (a, b, ← m, ← n) (sorted k e (omega arith) two)

pub ok_then : {A E : Type 0} (r : Result A E) (P Q : A → Type 0) → IfOk r P → ((x : A) → P x → Q x) → IfOk r Q
ok_then (Ok x) P Q h f = f x h
ok_then (Err e) P Q h f = tt
