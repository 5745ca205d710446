-- The first place where one of two things is so is the earlier of the first places of each.
use Rattle.std.proofs.Common.{◌≡◌, ℕ, ◌<◌, ◌⊎◌, inl, inr, List, Option, Some, None, sym, subst, arith}
use Rattle.std.specs.Prelude.{min, slice_get}
use Rattle.std.proofs.lemmas.Bool.{cases_lt}
use Rattle.jk_model_classes.specs.Items.{HasItem, HasItemBefore}
use Rattle.link_rules.specs.FinalMethods.{IsFirstPlace, earlier_place}

module _ {X : Type 0} (xs : List X) where
  -- the same things
  pub first-same : (P Q : X → Type 0) (a : Option ℕ) → ((x : X) → P x → Q x) → ((x : X) → Q x → P x) → IsFirstPlace P xs a → IsFirstPlace Q xs a
  first-same P Q None to from none = λ (i, x, at, q). none (i, x, at, from x q)
  first-same P Q (Some i) to from ((x, at, p), none) = ((x, at, to x p), λ (j, y, less, there, q). none (j, y, less, there, from y q))

  module _ (P Q : X → Type 0) where
    abbrev Either : X → Type 0
    Either x = P x ⊎ Q x

    none_of : HasItem Either xs → (HasItem P xs → ⊥) → (HasItem Q xs → ⊥) → ⊥
    none_of (i, x, at, inl p) no_p no_q = no_p (i, x, at, p)
    none_of (i, x, at, inr q) no_p no_q = no_q (i, x, at, q)

    none_before : (k i j : ℕ) → k ≡ i → (i < j) ⊎ (i ≡ j) → (HasItemBefore i P xs → ⊥) → (HasItemBefore j Q xs → ⊥) → HasItemBefore k Either xs → ⊥
    none_before k i j same order no_p no_q (n, x, less, at, inl p) = no_p (n, x, omega arith, at, p)
    none_before k i j same order no_p no_q (n, x, less, at, inr q) = no_q (n, x, grind arith, at, q)

    none_before_later : (k i j : ℕ) → k ≡ j → j < i → (HasItemBefore i P xs → ⊥) → (HasItemBefore j Q xs → ⊥) → HasItemBefore k Either xs → ⊥
    none_before_later k i j same order no_p no_q (n, x, less, at, inl p) = no_p (n, x, omega arith, at, p)
    none_before_later k i j same order no_p no_q (n, x, less, at, inr q) = no_q (n, x, omega arith, at, q)

    none_p : (j : ℕ) → (HasItem P xs → ⊥) → (HasItemBefore j Q xs → ⊥) → HasItemBefore j Either xs → ⊥
    none_p j no_p no_q (n, x, less, at, inl p) = no_p (n, x, at, p)
    none_p j no_p no_q (n, x, less, at, inr q) = no_q (n, x, less, at, q)

    none_q : (i : ℕ) → (HasItemBefore i P xs → ⊥) → (HasItem Q xs → ⊥) → HasItemBefore i Either xs → ⊥
    none_q i no_p no_q (n, x, less, at, inl p) = no_p (n, x, less, at, p)
    none_q i no_p no_q (n, x, less, at, inr q) = no_q (n, x, at, q)

    pub first-both : (a b : Option ℕ) → IsFirstPlace P xs a → IsFirstPlace Q xs b → IsFirstPlace (λ x. P x ⊎ Q x) xs (earlier_place a b)
    first-both None None h k = λ has. none_of has h k
    first-both None (Some j) h ((x, at, q), none) = ((x, at, inr q), λ before. none_p j h none before)
    first-both (Some i) None ((x, at, p), none) k = ((x, at, inl p), λ before. none_q i none k before)
    first-both (Some i) (Some j) ((x, at, p), no_p) ((y, there, q), no_q) = elim (cases_lt j i) [
      | inl less ↦
          let least : j ≡ min i j = omega arith in (
            (y, subst (λ (n : ℕ). slice_get xs n ≡ Some y) least there, inr q),
            λ before. none_before_later (min i j) i j (sym least) less no_p no_q before,
          )
      | inr most ↦
          let least : i ≡ min i j = omega arith in (
            (x, subst (λ (n : ℕ). slice_get xs n ≡ Some x) least at, inl p),
            λ before. none_before (min i j) i j (sym least) (grind arith) no_p no_q before,
          )
    ]
