-- Different numbers that all are among others are no more than these, and one more may stand in front of those that lack it.
use Rattle.std.proofs.Common.{◌≡◌, ℕ, ◌≤◌, Bool, true, false, List, [], ◌∷◌, length, Contains, sum_by, nat_eq, refl, sym, subst, arith}
use Rattle.std.specs.List.{AllByRecursion, IsDistinct}
use Rattle.std.proofs.lemmas.Bool.{eqb-false, eqb-true}
use Rattle.std.proofs.lemmas.List.Sums.{sum_by-cons}
use Rattle.list_lemmas.proofs.ItemsOfLists.{Contains-here, Contains-there, each-of}
use Rattle.jk_model_graphs.proofs.OneCost.{no_more}

pub differs : (x a : ℕ) (xs : List ℕ) → AllByRecursion (λ (y : ℕ). nat_eq x y ≡ false) xs → Contains xs a → x ≡ a → ⊥
differs x a xs all h = eqb-false x a (each-of (λ (y : ℕ). nat_eq x y ≡ false) xs a all h)

-- each counted as one
pub sum_of_ones : (xs : List ℕ) → sum_by (λ (a : ℕ). 1) xs ≡ length xs
sum_of_ones [] = refl
sum_of_ones (x ∷ xs) = omega (arith, sum_by-cons (λ (a : ℕ). 1) x xs, sum_of_ones xs)

pub no_longer : (xs ys : List ℕ) → IsDistinct nat_eq xs → ((a : ℕ) → Contains xs a → Contains ys a) → length xs ≤ length ys
no_longer xs ys d among = omega (arith, no_more (λ (a : ℕ). 1) xs ys d among, sum_of_ones xs, sum_of_ones ys)

-- one more number that isn't there
pub one_more : (x : ℕ) (xs : List ℕ) → (Contains xs x → ⊥) → IsDistinct nat_eq xs → IsDistinct nat_eq (x ∷ xs)
unfolding IsDistinct
one_more x xs new d = (apart x xs new, d)
  where
    eqb_apart : (t : Bool) (a b : ℕ) → nat_eq a b ≡ t → (a ≡ b → ⊥) → t ≡ false
    eqb_apart true a b is ne = absurd (ne (eqb-true a b is))
    eqb_apart false a b is ne = refl

    apart : (x : ℕ) (xs : List ℕ) → (Contains xs x → ⊥) → AllByRecursion (λ (y : ℕ). nat_eq x y ≡ false) xs
    apart x [] new = tt
    apart x (y ∷ xs) new = (
      eqb_apart (nat_eq x y) x y refl (λ e. new (subst (λ (z : ℕ). Contains (y ∷ xs) z) (sym e) (Contains-here y xs))),
      apart x xs (λ h. new (Contains-there x y xs h)),
    )
