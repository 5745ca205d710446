-- A list of numbers that a comparison from the front finds less comes before the other in the order of paths.
use Rattle.std.proofs.Common.{◌≡◌, ℕ, ◌<◌, inl, inr, List, [], ◌∷◌, refl, sym, ◌∙◌, ap, subst, Ordering, Less, Equal, Greater, nat_cmp}
use Rattle.std.specs.Ordering.{ordering_then, MatchOrdering}
use Rattle.std.specs.Cmp.Lexicographic.{slice_cmp}
use Rattle.std.proofs.lemmas.Cmp.{ranked}
use Rattle.jk_model_classes.specs.SharedRules.{IsBeforeInOrder}

pub cons_before : (x : ℕ) (xs ys : List ℕ) → IsBeforeInOrder xs ys → IsBeforeInOrder (x ∷ xs) (x ∷ ys)
cons_before x xs ys (inl (y, more, e)) = inl (y, more, ap (λ (l : List ℕ). x ∷ l) e)
cons_before x xs ys (inr (front, a, b, after_a, after_b, e, f, less)) =
    inr (x ∷ front, a, b, after_a, after_b, ap (λ (l : List ℕ). x ∷ l) e, ap (λ (l : List ℕ). x ∷ l) f, less)

pub before_from_less : (xs ys : List ℕ) → slice_cmp nat_cmp xs ys ≡ Less → IsBeforeInOrder xs ys
before_from_less [] [] e = absurd cc
before_from_less [] (y ∷ ys) e = inl (y, ys, refl)
before_from_less (x ∷ xs) [] e = absurd cc
before_from_less (x ∷ xs) (y ∷ ys) e = by_first (nat_cmp x y) (ranked x y (nat_cmp x y) refl) refl e (before_from_less xs ys)
  where
    by_first : (r : Ordering) → MatchOrdering r (x < y) (x ≡ y) (y < x) → nat_cmp x y ≡ r → ordering_then (nat_cmp x y) (slice_cmp nat_cmp xs ys) ≡ Less
        → (slice_cmp nat_cmp xs ys ≡ Less → IsBeforeInOrder xs ys) → IsBeforeInOrder (x ∷ xs) (y ∷ ys)
    by_first Less less is h rest = inr ([], x, y, xs, ys, refl, refl, less)
    by_first Equal same is h rest =
        let tail : slice_cmp nat_cmp xs ys ≡ Less = sym (ap (λ (r : Ordering). ordering_then r (slice_cmp nat_cmp xs ys)) is) ∙ h in
        subst (λ (z : ℕ). IsBeforeInOrder (x ∷ xs) (z ∷ ys)) same (cons_before x xs ys (rest tail))
    by_first Greater more is h rest =
        let no : Greater ≡ Less = sym (ap (λ (r : Ordering). ordering_then r (slice_cmp nat_cmp xs ys)) is) ∙ h in
        absurd cc
