-- The words of different objects of a heap fit 64 bits together, and each object has some.
use Rattle.std.proofs.Common.{◌≡◌, ℕ, zero, suc, ◌+◌, ◌*◌, ◌^◌, ◌<◌, ◌≤◌, List, [], ◌∷◌, length, Contains, Option, Some, None, nat_eq, sum_by, refl, sym, ap, subst, inl, inr, arith}
use Rattle.std.specs.Option.{option_map_or}
use Rattle.std.specs.List.{IsDistinct}
use Rattle.std.proofs.lemmas.List.Sums.{sum_by-cons}
use Rattle.jk_model.specs.declared.identifiers.DomainId.{DomainId}
use Rattle.jk_model_classes.specs.declared.records.BaseRef.{BaseRef}
use Rattle.jk_model_classes.specs.declared.records.BaseRef.TheVariants as Base
use Rattle.jk_model_classes.specs.declared.records.ClassRecord.{ClassRecord}
use Rattle.jk_model_classes.specs.Layouts.{type_words}
use Rattle.std.proofs.lemmas.List.{length-replicate}
use Rattle.jk_model_domains.specs.Objects.{Object, Array, Plain, Task, Text, object_named, object_words}
use Rattle.jk_model_domains.specs.OwnStates.{zero_of}
use Rattle.jk_model_graphs.specs.Reach.{words_named}
use Rattle.jk_model_heaps.specs.Heaps.{shape_of}
use Rattle.object_store.specs.HeapContents.{HeapContent, IsHeapContent, IsLive, IsName, shape_words, size_of}
use Rattle.heap_laws.proofs.DistinctNumbers.{no_longer}
use Rattle.list_lemmas.proofs.ItemsOfLists.{Contains-here, Contains-there}
use Rattle.list_lemmas.proofs.TestsAndOrders.{less_or_same}

-- ---- Few names.

below : ℕ → List ℕ
below zero = []
below (suc n) = n ∷ below n

is_below : (n a : ℕ) → a < n → Contains (below n) a
unfolding below
is_below zero a less = absurd (omega arith)
is_below (suc n) a less = elim (less_or_same a n (omega (arith, less))) [
  | inl earlier ↦ Contains-there a n (below n) (is_below n a earlier)
  | inr same ↦ subst (λ (k : ℕ). Contains (n ∷ below n) k) (sym same) (Contains-here n (below n))
]

so_many_below : (n : ℕ) → length (below n) ≡ n
unfolding below
so_many_below zero = refl
so_many_below (suc n) = ap suc (so_many_below n)

pub few_names : (n : ℕ) (xs : List ℕ) → IsDistinct nat_eq xs → ((a : ℕ) → Contains xs a → a < n) → length xs ≤ n
few_names n xs distinct small =
    omega (arith, no_longer xs (below n) distinct (λ a there. is_below n a (small a there)), so_many_below n)

-- ---- Few words of each.

few_element_words : (base : BaseRef) (dims : ℕ) → type_words (record { dims = dims; base = base }) ≤ 2
few_element_words base (suc dims) = omega arith
few_element_words Base.Long zero = omega arith
few_element_words base zero = omega arith

twice_at_most : (w n : ℕ) → w ≤ 2 → w * n ≤ n + n
twice_at_most zero n few = omega arith
twice_at_most (suc zero) n few = omega arith
twice_at_most (suc (suc zero)) n few = omega arith
twice_at_most (suc (suc (suc w))) n few = absurd (omega (arith, few))

few_words_by_size : (classes : List ClassRecord) (object : Object) → size_of object < 2 ^ 25 → object_words classes object < 2 ^ 33
few_words_by_size classes (Plain c values) small = omega arith
few_words_by_size classes (Array t items) small =
    omega (arith, small, twice_at_most (type_words t) (length items) (few_element_words t.base t.dims))
few_words_by_size classes (Text units) small = omega (arith, small)
few_words_by_size classes (Task s) small = omega arith

pub some_words : (classes : List ClassRecord) (object : Object) → 0 < object_words classes object
some_words classes (Plain c values) = omega arith
some_words classes (Array t items) = omega arith
some_words classes (Text units) = omega arith
some_words classes (Task s) = omega arith

-- what a new object of the shape costs
pub words_of_shape : (classes : List ClassRecord) (object : Object) → shape_words classes (shape_of object) ≡ object_words classes object
words_of_shape classes (Plain c values) = refl
words_of_shape classes (Array t items) = ap (λ (n : ℕ). 4 + type_words t * n) (length-replicate (length items) (zero_of t))
words_of_shape classes (Text units) = ap (λ (n : ℕ). 4 + n) (length-replicate (length units) 0)
words_of_shape classes (Task s) = refl

small_size : (c : HeapContent) (d : DomainId) (a : ℕ) (object : Object) → IsHeapContent c → IsLive c d a object → (q : Option ℕ) → c.quota d ≡ q
    → size_of object < 2 ^ 25
small_size c d a object holds live None is =
    let sized = holds.sized d a object live in let unused = (holds.unused d is).0.unused in absurd (omega (arith, sized, unused))
small_size c d a object holds live (Some q) is =
    let sized = holds.sized d a object live in
    let within = holds.within d q is in
    omega (arith, sized, within.0, within.2)

few_words_by : (c : HeapContent) (classes : List ClassRecord) (d : DomainId) (a : ℕ) (o : Option Object) → IsHeapContent c
    → object_named (c.heap d) a ≡ o → option_map_or (object_words classes) o 0 < 2 ^ 33
few_words_by c classes d a None holds is = omega arith
few_words_by c classes d a (Some object) holds is = few_words_by_size classes object (small_size c d a object holds is (c.quota d) refl)

sum_at_most : (weight : ℕ → ℕ) (k : ℕ) (xs : List ℕ) → ((a : ℕ) → weight a < k) → sum_by weight xs ≤ length xs * k
sum_at_most weight k [] few = omega arith
sum_at_most weight k (x ∷ xs) few = omega (arith, sum_by-cons weight x xs, few x, sum_at_most weight k xs few)

pub few_words : (c : HeapContent) (classes : List ClassRecord) (d : DomainId) (names : List ℕ) → IsHeapContent c → IsDistinct nat_eq names
    → ((a : ℕ) → Contains names a → IsName c d a) → sum_by (words_named classes (c.heap d)) names < 2 ^ 64
few_words c classes d names holds distinct named =
    let few = few_names (2 ^ 30) names distinct (λ a there. let name = named a there in holds.small d a name.0 name.1) in
    let sum = sum_at_most (words_named classes (c.heap d)) (2 ^ 33) names
    (λ a. few_words_by c classes d a (object_named (c.heap d) a) holds refl) in
    omega (arith, few, sum)
