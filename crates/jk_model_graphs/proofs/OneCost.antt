-- What values reach has one cost: two lists of the same different names have one sum.
use Rattle.std.proofs.Common.{◌≡◌, ℕ, ◌≤◌, false, List, [], ◌∷◌, ◌++◌, Contains, inl, inr, sym, ap, subst, ◌∙◌, eq-eqb, true≢false, arith}
use Rattle.std.specs.Prelude.{nat_eq, sum_by}
use Rattle.std.specs.List.{IsDistinct}
use Rattle.std.proofs.lemmas.List.Elements.{Contains-append_cases, Contains-append_left, Contains-append_right}
use Rattle.std.proofs.lemmas.List.Sums.{sum_by-append, sum_by-cons}
use Rattle.std.proofs.lemmas.Map.Keys.{IsDistinct-head, IsDistinct-tail}
use Rattle.jk_model_classes.specs.declared.records.ClassRecord.{ClassRecord}
use Rattle.jk_model_graphs.specs.Reach.{Graph, ReachCosts, words_named}
use Rattle.list_lemmas.proofs.ItemsOfLists.{Contains-cases, Contains-here, Contains-none, Contains-there, each-of}

-- what stands before a number, and what after it
split_item : (x : ℕ) (ys : List ℕ) → Contains ys x → (front : List ℕ) × (back : List ℕ) × (ys ≡ front ++ x ∷ back)
split_item x [] h = absurd (Contains-none x h)
split_item x (y ∷ ys) h = elim (Contains-cases x y ys h) [
  | inl e ↦ ([], ys, ap (λ (z : ℕ). z ∷ ys) e)
  | inr later ↦ let rest = split_item x ys later in (y ∷ rest.0, rest.1, ap (λ (zs : List ℕ). y ∷ zs) rest.2)
]

-- different numbers, all of which another list has, have no greater sum
pub no_more : (f : ℕ → ℕ) (xs ys : List ℕ) → IsDistinct nat_eq xs → ((a : ℕ) → Contains xs a → Contains ys a) → sum_by f xs ≤ sum_by f ys
no_more f [] ys distinct within = omega arith
no_more f (x ∷ xs) ys distinct within =
    let split = split_item x ys (within x (Contains-here x xs)) in
    let front = split.0 in
    let back = split.1 in
    let fewer : sum_by f xs ≤ sum_by f (front ++ back) = no_more f xs (front ++ back) (IsDistinct-tail nat_eq x xs distinct) (still front back split.2) in
    omega (arith, fewer, sum_by-cons f x xs, sum_by-cons f x back, ap (sum_by f) split.2, sum_by-append f front (x ∷ back), sum_by-append f front back)
  where
    differs : (a : ℕ) → Contains xs a → x ≡ a → ⊥
    differs a h e =
        let other : nat_eq x a ≡ false = each-of (λ (y : ℕ). nat_eq x y ≡ false) xs a (IsDistinct-head nat_eq x xs distinct) h in
        true≢false (sym (eq-eqb x a e) ∙ other)

    still : (front back : List ℕ) → ys ≡ front ++ x ∷ back → (a : ℕ) → Contains xs a → Contains (front ++ back) a
    still front back is a h = elim (Contains-append_cases front (x ∷ back) a (subst (λ (zs : List ℕ). Contains zs a) is (within a (Contains-there a x xs h)))) [
      | inl before ↦ Contains-append_left front back a before
      | inr from ↦ elim (Contains-cases a x back from) [
        | inl e ↦ absurd (differs a h e)
        | inr after ↦ Contains-append_right front back a after
      ]
    ]

pub one_cost : (classes : List ClassRecord) (g : Graph) (n k : ℕ) → ReachCosts classes g n → ReachCosts classes g k → n ≡ k
one_cost classes g n k (xs, of_xs, is) (ys, of_ys, also) =
    let f = words_named classes g.heap in
    let up : sum_by f xs ≤ sum_by f ys = no_more f xs ys of_xs.distinct (λ a h. of_ys.all a (of_xs.each a h)) in
    let down : sum_by f ys ≤ sum_by f xs = no_more f ys xs of_ys.distinct (λ a h. of_xs.all a (of_ys.each a h)) in
    omega (arith, up, down, is, also)
