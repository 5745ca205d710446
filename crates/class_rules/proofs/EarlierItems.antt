-- The earlier of the least items of two kinds is the least of either.
use Rattle.std.proofs.Common.{◌≡◌, ℕ, ◌<◌, ◌≤◌, ◌⊎◌, inl, inr, Bool, true, false, List, Option, Some, None, refl, arith}
use Rattle.std.specs.Prelude.{nat_lt, if◌then◌else◌, IfSome}
use Rattle.std.proofs.lemmas.Bool.{ltb-true, ltb-false}
use Rattle.jk_model_classes.specs.Items.{HasItemBefore}
use Rattle.class_rules.specs.Walks.{IsLeastItem, earlier}

module _ {X : Type 0} (P Q : X → Type 0) (xs : List X) where
  by_first : (i : ℕ) (b : Option ℕ) → IsLeastItem P xs (Some i) → (HasItemBefore i Q xs → ⊥) → IsLeastItem (λ x. P x ⊎ Q x) xs (Some i)
  by_first i b ((x, at, p), none) never = (
    (x, at, inl p),
    λ (k, y, below, found, either).
        elim either [ inl q ↦ none (k, y, below, found, q) | inr q ↦ never (k, y, below, found, q) ],
  )

  by_second : (j : ℕ) → IsLeastItem Q xs (Some j) → (HasItemBefore j P xs → ⊥) → IsLeastItem (λ x. P x ⊎ Q x) xs (Some j)
  by_second j ((x, at, q), none) never = (
    (x, at, inr q),
    λ (k, y, below, found, either).
        elim either [ inl p ↦ never (k, y, below, found, p) | inr r ↦ none (k, y, below, found, r) ],
  )

  less_before : {R : X → Type 0} (i j : ℕ) → j ≤ i → (HasItemBefore i R xs → ⊥) → HasItemBefore j R xs → ⊥
  less_before i j le none (k, y, below, found, r) = none (k, y, omega arith, found, r)

  of_two : (i j : ℕ) (less : Bool) → nat_lt j i ≡ less → IsLeastItem P xs (Some i) → IsLeastItem Q xs (Some j)
      → IsLeastItem (λ x. P x ⊎ Q x) xs (if less then Some j else Some i)
  of_two i j true e p q =
      let lt : j < i = ltb-true j i e in
      by_second j q (less_before i j (omega arith) p.1)
  of_two i j false e p q =
      let le : i ≤ j = ltb-false j i e in
      by_first i (Some j) p (less_before j i le q.1)

  pub least_either : (a b : Option ℕ) → IsLeastItem P xs a → IsLeastItem Q xs b → IsLeastItem (λ x. P x ⊎ Q x) xs (earlier a b)
  least_either None None p q = λ (k, y, found, either). elim either [ inl h ↦ p (k, y, found, h) | inr h ↦ q (k, y, found, h) ]
  least_either None (Some j) p q = by_second j q (λ (k, y, below, found, h). p (k, y, found, h))
  least_either (Some i) None p q = by_first i None p (λ (k, y, below, found, h). q (k, y, found, h))
  least_either (Some i) (Some j) p q = of_two i j (nat_lt j i) refl p q

-- ---- The earlier of two places is within what both are within.

within_either : (i j n : ℕ) (b : Bool) → i < n → j < n → IfSome (if b then Some j else Some i) (λ k. k < n)
within_either i j n true h k = k
within_either i j n false h k = h

pub earlier_within : (a b : Option ℕ) (n : ℕ) → IfSome a (λ i. i < n) → IfSome b (λ i. i < n) → IfSome (earlier a b) (λ i. i < n)
earlier_within None b n h k = k
earlier_within (Some i) None n h k = h
earlier_within (Some i) (Some j) n h k = within_either i j n (nat_lt j i) h k

pub within_more : (a : Option ℕ) (m n : ℕ) → m ≤ n → IfSome a (λ i. i < m) → IfSome a (λ i. i < n)
within_more None m n few h = tt
within_more (Some i) m n few h = omega arith
