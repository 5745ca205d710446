-- The first item of which a test answers yes is the least that is so.
use Rattle.std.proofs.Common.{◌≡◌, ℕ, ◌<◌, inl, inr, ◌↔◌, refl, sym, subst, arith, Bool, true, false, List, length, get_or, Option, Some, None, MatchOption}
use Rattle.std.specs.Prelude.{slice_get, IsTrue}
use Rattle.std.specs.Fn.{Shared, FnReturnsAt}
use Rattle.std.specs.List.{AllWithin, HoldsAt}
use Rattle.std.proofs.lemmas.Option.{slice_get_cases, get_or_from_slice_get, slice_get_within as item_within}
use denote.Ref.{Bor}
use Rattle.class_rules.specs.Walks.{IsLeastItem, IsFirstPassed}

all_within : {X : Type 0} (P : X → Type 0) (xs : List X) (n : ℕ) → AllWithin P xs 0 n → (i : ℕ) (x : X) → i < n → slice_get xs i ≡ Some x → P x
all_within P xs n h i x lt e = let at : get_or xs i x ≡ x = get_or_from_slice_get xs i x x e in subst P at (h i x (omega arith) lt)

-- what `position` answers, read at the items
pub first_passed : {F X : Type 0} (g : Shared F (Bor X × Unit {0}) Bool) (test : F) (xs : List X) (r : Option ℕ)
    → MatchOption r (AllWithin (λ x. FnReturnsAt g test x false) xs 0 (length xs))
    (λ i. (i < length xs) × HoldsAt (λ x. FnReturnsAt g test x true) xs i × AllWithin (λ x. FnReturnsAt g test x false) xs 0 i)
    → IsFirstPassed g test xs r
first_passed g test xs None h = λ i x e. all_within (λ x. FnReturnsAt g test x false) xs (length xs) h i x (item_within xs i x e) e
first_passed g test xs (Some n) h =
    elim (slice_get_cases xs n).1 [
      | inl k ↦ (
        (k.0, k.2, subst (λ y. FnReturnsAt g test y true) k.3 (h.1 k.0)),
        λ i x lt e. all_within (λ x. FnReturnsAt g test x false) xs n h.2 i x lt e,
      )
      | inr k ↦ absurd (omega (arith, k.0, h.0))
    ]

module _ {F X : Type 0} (P : X → Type 0) (g : Shared F (Bor X × Unit {0}) Bool) (test : F)
    (says : (y : Bor X) (b : Bool) → g.post test (y, tt) b → IsTrue b ↔ P y.now) where
  passed : (x : X) → FnReturnsAt g test x true → P x
  passed x k = subst P k.shows ((says k.shown true k.says.met).0 refl)

  failed : (x : X) → FnReturnsAt g test x false → P x → ⊥
  failed x k p =
      let y : X = k.shown.now in
      let e : y ≡ x = k.shows in
      let same : false ≡ true = (says k.shown false k.says.met).1 (subst P (sym e) p) in
      cc

  least_of : (xs : List X) (r : Option ℕ) → IsFirstPassed g test xs r → IsLeastItem P xs r
  least_of xs None first = λ (i, x, e, p). failed x (first i x e) p
  least_of xs (Some n) first = ((first.0.0, first.0.1, passed first.0.0 first.0.2), λ (i, x, lt, e, p). failed x (first.1 i x lt e) p)

-- A test that answers yes just of the items that are so finds the least of them.
pub least_item : {F X : Type 0} (P : X → Type 0) (g : Shared F (Bor X × Unit {0}) Bool) (test : F) (xs items : List X) (r : Option ℕ) → xs ≡ items
    → IsFirstPassed g test xs r → ((y : Bor X) (b : Bool) → g.post test (y, tt) b → IsTrue b ↔ P y.now) → IsLeastItem P items r
least_item {X = X} P g test xs items r same first says =
    subst (λ (w : List X). IsLeastItem P w r) same (least_of P g test says xs r first)
