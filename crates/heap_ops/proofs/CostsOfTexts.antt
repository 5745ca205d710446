-- What the objects of texts cost, each of which stands once among them, whatever their order.
use Rattle.std.proofs.Common.{inl, inr, ◌≡◌, ℕ, ◌+◌, ◌≤◌, List, [], ◌∷◌, ◌++◌, Contains, sym, ap, subst, arith}
use Rattle.std.specs.Prelude.{sum_by}
use Rattle.std.proofs.lemmas.List.Sums.{sum_by-append, sum_by-cons}
use Rattle.list_lemmas.proofs.ItemsOfLists.{Contains-cases, Contains-here, Contains-none, Contains-there}
use Rattle.class_init.proofs.SameElements.{AllDiffer, without_middle}

module _ {X : Type 0} where
  record Parted (xs : List X) (x : X) : Type 0 where
    front : List X
    back : List X
    is : xs ≡ front ++ x ∷ back

  parted : (xs : List X) (x : X) → Contains xs x → Parted xs x
  parted [] x has = absurd (Contains-none x has)
  parted (y ∷ xs) x has = elim (Contains-cases x y xs has) [
    | inl same ↦ record { front = []; back = xs; is = ap (λ (z : X). z ∷ xs) same }
    | inr there ↦ let p = parted xs x there in record { front = y ∷ p.front; back = p.back; is = ap (λ (l : List X). y ∷ l) p.is }
  ]

  module _ (f : X → ℕ) where
    sum_parted : (front : List X) (x : X) (back : List X) → sum_by f (front ++ x ∷ back) ≡ f x + sum_by f (front ++ back)
    sum_parted front x back =
        let a = sum_by-append f front (x ∷ back) in
        let b = sum_by-append f front back in
        let c = sum_by-cons f x back in
        omega (arith, a, b, c)

    -- different items that all stand among others cost no more than those
    pub at_most : (xs ys : List X) → AllDiffer xs → ((x : X) → Contains xs x → Contains ys x) → sum_by f xs ≤ sum_by f ys
    at_most [] ys differ within = omega arith
    at_most (x ∷ xs) ys differ within =
        let p = parted ys x (within x (Contains-here x xs)) in
        let rest = at_most xs (p.front ++ p.back) differ.1 (λ y has.
        without_middle p.front x p.back y (subst (λ (l : List X). Contains l y) p.is (within y (Contains-there y x xs has)))
        (λ same. differ.0 (subst (Contains xs) (sym same) has))) in
        let a = sum_by-cons f x xs in
        let b = sum_parted p.front x p.back in
        let c = ap (sum_by f) p.is in
        omega (arith, rest, a, b, c)

    pub same_sum : (xs ys : List X) → AllDiffer xs → AllDiffer ys → ((x : X) → Contains xs x → Contains ys x)
        → ((x : X) → Contains ys x → Contains xs x) → sum_by f xs ≡ sum_by f ys
    same_sum xs ys one other there back =
        let a = at_most xs ys one there in
        let b = at_most ys xs other back in
        omega (arith, a, b)
