-- Lists that are made item by item from others: what they have, and at which place.
use Rattle.std.proofs.Common.{◌≡◌, ℕ, zero, suc, List, [], ◌∷◌, map, slice_get, Some, Contains, nat_eq, refl, ap, subst, inl, inr}
use Rattle.std.specs.List.{AllZip, IsDistinct}
use Rattle.std.proofs.lemmas.Option.{same_Some}
use Rattle.list_lemmas.proofs.ItemsOfLists.{Contains-at, Contains-cases, Contains-here, Contains-none, Contains-there}
use Rattle.heap_laws.proofs.DistinctNumbers.{differs}

module _ {X Y : Type 0} where
  pub mapped : (f : X → Y) (xs : List X) (x : X) → Contains xs x → Contains (map f xs) (f x)
  mapped f [] x h = absurd (Contains-none x h)
  mapped f (y ∷ xs) x h = elim (Contains-cases x y xs h) [
    | inl e ↦ subst (λ (z : X). Contains (f y ∷ map f xs) (f z)) e (Contains-here (f y) (map f xs))
    | inr later ↦ Contains-there (f x) (f y) (map f xs) (mapped f xs x later)
  ]

  -- from which item one comes
  pub mapped_from : (f : X → Y) (xs : List X) (y : Y) → Contains (map f xs) y → (x : X) × Contains xs x × (f x ≡ y)
  mapped_from f [] y h = absurd (Contains-none y h)
  mapped_from f (x ∷ xs) y h = elim (Contains-cases y (f x) (map f xs) h) [
    | inl e ↦ (x, Contains-here x xs, e)
    | inr later ↦
        let from = mapped_from f xs y later in
        (from.0, Contains-there from.0 x xs from.1, from.2)
  ]

  -- a relation of each item and what is made of it
  pub zip_mapped : (R : X → Y → Type 0) (f : X → Y) (xs : List X) → ((x : X) → Contains xs x → R x (f x)) → AllZip R xs (map f xs)
  zip_mapped R f [] h = tt
  zip_mapped R f (x ∷ xs) h = (h x (Contains-here x xs), zip_mapped R f xs (λ y later. h y (Contains-there y x xs later)))

-- a number stands at one place of different ones
pub one_place : (xs : List ℕ) (i j : ℕ) (x : ℕ) → IsDistinct nat_eq xs → slice_get xs i ≡ Some x → slice_get xs j ≡ Some x → i ≡ j
unfolding IsDistinct
one_place [] i j x d at_i at_j = absurd cc
one_place (y ∷ xs) zero zero x d at_i at_j = refl
one_place (y ∷ xs) zero (suc j) x d at_i at_j = absurd (differs y x xs d.0 (Contains-at xs j x at_j) (same_Some y x at_i))
one_place (y ∷ xs) (suc i) zero x d at_i at_j = absurd (differs y x xs d.0 (Contains-at xs i x at_i) (same_Some y x at_j))
one_place (y ∷ xs) (suc i) (suc j) x d at_i at_j = ap suc (one_place xs i j x d.1 at_i at_j)
