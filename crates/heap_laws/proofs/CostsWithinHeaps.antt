-- What different names cost together is no more than the whole heap costs.
use Rattle.std.proofs.Common.{◌≡◌, ℕ, ◌+◌, ◌≤◌, ◌==◌, Bool, true, false, cond, List, [], ◌∷◌, Contains, sum_by, nat_eq, refl, sym, ◌∙◌, arith}
use Rattle.std.specs.List.{IsDistinct}
use Rattle.std.specs.Option.{option_map_or}
use Rattle.std.proofs.lemmas.Bool.{eqb-true}
use Rattle.std.proofs.lemmas.List.Sums.{sum_by-cons, sum_by-le-sum_by}
use Rattle.jk_model_classes.specs.declared.records.ClassRecord.{ClassRecord}
use Rattle.jk_model_domains.specs.Objects.{NamedObject, object_words}
use Rattle.jk_model_graphs.specs.Reach.{Graph, ReachCosts, words_named}
use Rattle.jk_model_heaps.specs.Heaps.{heap_words}
use Rattle.jk_model_heaps.proofs.NamesInHeaps.{by_first}
use Rattle.list_lemmas.proofs.ItemsOfLists.{Contains-here, Contains-there}
use Rattle.heap_laws.proofs.DistinctNumbers.{differs}

-- ---- Sums.

pub sum_of_both : (f g : ℕ → ℕ) (xs : List ℕ) → sum_by (λ (a : ℕ). f a + g a) xs ≡ sum_by f xs + sum_by g xs
sum_of_both f g [] = refl
sum_of_both f g (x ∷ xs) =
    omega (arith, sum_by-cons (λ (a : ℕ). f a + g a) x xs, sum_by-cons f x xs, sum_by-cons g x xs, sum_of_both f g xs)

pub sum_of_nothing : (xs : List ℕ) → sum_by (λ (a : ℕ). 0) xs ≡ 0
sum_of_nothing [] = refl
sum_of_nothing (x ∷ xs) = omega (arith, sum_by-cons (λ (a : ℕ). 0) x xs, sum_of_nothing xs)

-- so much for one number, and nothing for others
abbrev pub only : ℕ → ℕ → ℕ → ℕ
only k w a = cond (k == a) w 0

not_counted : (t : Bool) (k w a : ℕ) → k == a ≡ t → (k ≡ a → ⊥) → cond t w 0 ≡ 0
not_counted true k w a is ne = absurd (ne (eqb-true k a is))
not_counted false k w a is ne = refl

not_there : (k w : ℕ) (xs : List ℕ) → ((a : ℕ) → Contains xs a → k ≡ a → ⊥) → sum_by (only k w) xs ≡ 0
not_there k w [] h = refl
not_there k w (x ∷ xs) h =
    omega (
      arith,
      sum_by-cons (only k w) x xs,
      not_counted (k == x) k w x refl (h x (Contains-here x xs)),
      not_there k w xs (λ a later. h a (Contains-there a x xs later)),
    )

once_step : (t : Bool) (k w x : ℕ) (xs : List ℕ) → k == x ≡ t → (k ≡ x → sum_by (only k w) xs ≡ 0) → sum_by (only k w) xs ≤ w
    → cond t w 0 + sum_by (only k w) xs ≤ w
once_step true k w x xs is none some = omega (arith, none (eqb-true k x is))
once_step false k w x xs is none some = omega (arith, some)

pub at_most_once : (k w : ℕ) (xs : List ℕ) → IsDistinct nat_eq xs → sum_by (only k w) xs ≤ w
unfolding IsDistinct
at_most_once k w [] d = omega arith
at_most_once k w (x ∷ xs) d =
    let step : only k w x + sum_by (only k w) xs ≤ w =
    once_step (k == x) k w x xs refl (λ e. not_there k w xs (λ a later f. differs x a xs d.0 later (sym e ∙ f))) (at_most_once k w xs d.1) in
    omega (arith, sum_by-cons (only k w) x xs, step)

-- ---- Names and their objects.

words_step : (t : Bool) (classes : List ClassRecord) (e : NamedObject) (heap : List NamedObject) (a : ℕ)
    → option_map_or (object_words classes) (by_first t e heap a) 0 ≤ words_named classes heap a + cond t (object_words classes e.object) 0
words_step true classes e heap a = omega arith
words_step false classes e heap a = omega arith

pub names_cost_at_most : (classes : List ClassRecord) (heap : List NamedObject) (names : List ℕ) → IsDistinct nat_eq names
    → sum_by (words_named classes heap) names ≤ heap_words classes heap
names_cost_at_most classes [] names d = omega (arith, sum_of_nothing names)
names_cost_at_most classes (e ∷ heap) names d =
    let each : sum_by (words_named classes (e ∷ heap)) names
    ≤ sum_by (λ (a : ℕ). words_named classes heap a + only e.name (object_words classes e.object) a) names =
    sum_by-le-sum_by (words_named classes (e ∷ heap)) (λ (a : ℕ). words_named classes heap a + only e.name (object_words classes e.object) a) names
    (λ a. words_step (e.name == a) classes e heap a) in
    omega (
      arith,
      each,
      sum_of_both (words_named classes heap) (only e.name (object_words classes e.object)) names,
      at_most_once e.name (object_words classes e.object) names d,
      names_cost_at_most classes heap names d,
      sum_by-cons (λ (x : NamedObject). object_words classes x.object) e heap,
    )

pub reach_is_within_heap : (classes : List ClassRecord) (g : Graph) (n : ℕ) → ReachCosts classes g n → n ≤ heap_words classes g.heap
reach_is_within_heap classes g n (names, reach, is) = omega (arith, is, names_cost_at_most classes g.heap names reach.distinct)
