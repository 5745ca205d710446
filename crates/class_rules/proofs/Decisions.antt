-- What a test answers, put together from its parts.
use Rattle.std.proofs.Common.{◌≡◌, ℕ, ◌⊎◌, inl, inr, ◌↔◌, refl, ◌∙◌, sym, Bool, true, false, List, Option, Some, None}
use Rattle.std.specs.Prelude.{IsTrue, not, is_some}
use Rattle.jk_model_classes.specs.Items.{HasItem}
use Rattle.class_rules.specs.Walks.{IsLeastItem}

pub never_true : IsTrue false ↔ ⊥
never_true = (λ e. let same : false ≡ true = e in cc, λ h. absurd h)

pub denied : {P : Type 0} (b : Bool) → IsTrue b ↔ P → IsTrue (not b) ↔ (P → ⊥)
denied true h = (λ e. absurd cc, λ never. absurd (never (h.0 refl)))
denied false h = (λ e p. let same : false ≡ true = h.1 p in cc, λ never. refl)

-- the first is so, and the second decides
pub and_then : {P Q : Type 0} (a b : Bool) → a ≡ true → IsTrue a ↔ P → IsTrue b ↔ Q → IsTrue b ↔ (P × Q)
and_then a b passed h k = (λ e. (h.0 passed, k.0 e), λ (p, q). k.1 q)

-- the first isn't so, and the second decides
pub or_else : {P Q : Type 0} (a b : Bool) → a ≡ false → IsTrue a ↔ P → IsTrue b ↔ Q → IsTrue b ↔ (P ⊎ Q)
or_else a b failed h k = (
  λ e. inr (k.0 e),
  λ s. elim s [
    | inl p ↦ absurd (let same : a ≡ true = h.1 p in cc)
    | inr q ↦ k.1 q
  ],
)

-- there is an item that is so where there is a least one
pub some_item : {X : Type 0} (P : X → Type 0) (xs : List X) (r : Option ℕ) → IsLeastItem P xs r → IsTrue (is_some r) ↔ HasItem P xs
some_item P xs None least = (λ e. absurd cc, λ h. absurd (least h))
some_item P xs (Some n) least = (λ e. (n, least.0.0, least.0.1, least.0.2), λ h. refl)

-- the first isn't so, and so not both are
pub and_not : {P Q : Type 0} (a : Bool) → a ≡ false → IsTrue a ↔ P → IsTrue a ↔ (P × Q)
and_not a failed h = (λ e. let same : false ≡ true = sym failed ∙ e in absurd cc, λ (p, q). h.1 p)
