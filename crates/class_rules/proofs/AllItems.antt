-- A walk over a list finds that all items are so, or one that isn't.
use Rattle.std.proofs.Common.{◌≡◌, ℕ, zero, suc, ◌+◌, ◌<◌, ◌≤◌, inl, inr, ◌↔◌, true, false, IsTrue, List, [], ◌∷◌, length, Some, refl, sym, ◌∙◌, subst, arith}
use Rattle.std.specs.Prelude.{slice_get}
use Rattle.std.specs.List.{AllByRecursion}
use Rattle.std.proofs.Math.ListN.{get_or}
use Rattle.std.proofs.lemmas.Bool.{cases_lt}
use Rattle.std.proofs.lemmas.Option.{slice_get_within, slice_get-get_or, same_Some, none-some}

-- the items before this place are so
abbrev pub AllBefore : ℕ → (ℕ → Type 0) → List ℕ → Type 0
AllBefore k P xs = (i : ℕ) (x : ℕ) → i < k → slice_get xs i ≡ Some x → P x

all_from : (P : ℕ → Type 0) (xs : List ℕ) → ((i : ℕ) (x : ℕ) → slice_get xs i ≡ Some x → P x) → AllByRecursion P xs
all_from P [] h = tt
all_from P (x ∷ xs) h = (h 0 x refl, all_from P xs (λ i y e. h (suc i) y e))

all_at : (P : ℕ → Type 0) (xs : List ℕ) (i : ℕ) (x : ℕ) → AllByRecursion P xs → slice_get xs i ≡ Some x → P x
all_at P [] i x h e = absurd (none-some x e)
all_at P (y ∷ xs) zero x h e = subst P (same_Some y x e) h.0
all_at P (y ∷ xs) (suc i) x h e = all_at P xs i x h.1 e

pub all_yet : (P : ℕ → Type 0) (xs : List ℕ) → AllBefore 0 P xs
all_yet P xs i x below e = absurd (omega arith)

pub all_more : (P : ℕ → Type 0) (xs : List ℕ) (k d : ℕ) → k < length xs → P (get_or xs k d) → AllBefore k P xs → AllBefore (k + 1) P xs
all_more P xs k d within p all i x below e =
    elim (cases_lt i k) [
      | inl less ↦ all i x less e
      | inr least ↦
          let here : k ≡ i = omega arith in
          let same : get_or xs k d ≡ x =
          same_Some (get_or xs k d) x (sym (slice_get-get_or xs k d within) ∙ subst (λ (n : ℕ). slice_get xs n ≡ Some x) (sym here) e) in
          subst P same p
    ]

pub all_are : (P : ℕ → Type 0) (xs : List ℕ) (k : ℕ) → length xs ≤ k → AllBefore k P xs → IsTrue true ↔ AllByRecursion P xs
all_are P xs k end all = (λ t. all_from P xs (λ i x e. all i x (omega (arith, slice_get_within xs i x e)) e), λ h. refl)

pub one_is_not : (P : ℕ → Type 0) (xs : List ℕ) (k d : ℕ) → k < length xs → (P (get_or xs k d) → ⊥) → IsTrue false ↔ AllByRecursion P xs
one_is_not P xs k d within never = (λ t. absurd cc, λ h. absurd (never (all_at P xs k (get_or xs k d) h (slice_get-get_or xs k d within))))
