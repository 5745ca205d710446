-- What stands at a place of a list that got longer or was mapped, and the first that passes a test.
use Rattle.std.proofs.Common.{◌≡◌, ℕ, zero, suc, ◌⊎◌, inl, inr, List, [], ◌∷◌, refl, sym, ap, arith, Some, slice_get, slice_set}
use Rattle.std.proofs.lemmas.Option.{same_Some}

module _ {X : Type 0} where
  -- another place than the one that is set
  pub other_place : (xs : List X) (i : ℕ) (y : X) (k : ℕ) → (k ≡ i → ⊥) → slice_get (slice_set xs i y) k ≡ slice_get xs k
  other_place [] i y k other = refl
  other_place (x ∷ xs) zero y zero other = absurd (other refl)
  other_place (x ∷ xs) zero y (suc k) other = refl
  other_place (x ∷ xs) (suc i) y zero other = refl
  other_place (x ∷ xs) (suc i) y (suc k) other = other_place xs i y k (λ e. other (ap suc e))

  -- what stands at a place after one is set: what was set, or what stood there
  pub slice_get-set : (xs : List X) (i : ℕ) (y : X) (k : ℕ) (x : X) → slice_get (slice_set xs i y) k ≡ Some x
      → ((k ≡ i) × (x ≡ y)) ⊎ ((k ≡ i → ⊥) × (slice_get xs k ≡ Some x))
  slice_get-set [] i y k x e = cc
  slice_get-set (z ∷ xs) zero y zero x e = inl (refl, sym (same_Some y x e))
  slice_get-set (z ∷ xs) zero y (suc k) x e = inr (λ h. cc, e)
  slice_get-set (z ∷ xs) (suc i) y zero x e = inr (λ h. cc, e)
  slice_get-set (z ∷ xs) (suc i) y (suc k) x e = further (slice_get-set xs i y k x e)
    where
      further : ((k ≡ i) × (x ≡ y)) ⊎ ((k ≡ i → ⊥) × (slice_get xs k ≡ Some x))
          → ((suc k ≡ suc i) × (x ≡ y)) ⊎ ((suc k ≡ suc i → ⊥) × (slice_get xs k ≡ Some x))
      further (inl h) = inl (ap suc h.0, h.1)
      further (inr h) = inr (λ s. h.0 (omega (arith, s)), h.1)
