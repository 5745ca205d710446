-- Characters are written as lists of units. Where two characters always differ upwards at the first unit where they differ, texts
-- are in the order of their units exactly where they are in the order of their characters.
use Rattle.std.proofs.Common.{◌≡◌, ℕ, ◌<◌, ◌↔◌, true, List, [], ◌∷◌, ◌++◌, refl, sym, ◌∙◌, ap, ap₂, append_assoc, Ordering, Less, Equal, Greater, nat_cmp}
use Rattle.std.specs.Ordering.{ordering_then, ordering_reverse, MatchOrdering}
use Rattle.std.specs.Cmp.Lexicographic.{slice_cmp}
use Rattle.std.proofs.Math.Utf8.{scalar, scalars}
use Rattle.std.proofs.lemmas.Bool.{and_parts}
use Rattle.std.proofs.lemmas.Cmp.{nat_list_cmp_total, nat_cmp_total, tied_itself, ranked}
use Rattle.jk_model_classes.specs.SharedRules.{IsBeforeInOrder}
use Rattle.class_lemmas.proofs.PathsInOrder.{before_from_less}
use Rattle.shared_interfaces.proofs.PathsInOrder.{less_from_before, less_after}

-- the lists are the same up to a place where the first has the lesser number
abbrev pub DifferUpwards : List ℕ → List ℕ → Type 0
DifferUpwards xs ys =
    (front : List ℕ) × (x : ℕ) × (y : ℕ) × (after_x : List ℕ) × (after_y : List ℕ) × (xs ≡ front ++ x ∷ after_x) × (ys ≡ front ++ y ∷ after_y) × (x < y)

pub first_less : (x y : ℕ) (xs ys : List ℕ) → x < y → DifferUpwards (x ∷ xs) (y ∷ ys)
first_less x y xs ys h = ([], x, y, xs, ys, refl, refl, h)

common_front : (front xs ys : List ℕ) → slice_cmp nat_cmp (front ++ xs) (front ++ ys) ≡ slice_cmp nat_cmp xs ys
common_front [] xs ys = refl
common_front (z ∷ front) xs ys =
    ap (λ (r : Ordering). ordering_then r (slice_cmp nat_cmp (front ++ xs) (front ++ ys))) (tied_itself nat_cmp_total z) ∙ common_front front xs ys

less_on : (xs ys more_x more_y : List ℕ) → DifferUpwards xs ys → slice_cmp nat_cmp (xs ++ more_x) (ys ++ more_y) ≡ Less
less_on xs ys more_x more_y (front, x, y, after_x, after_y, e, f, h) =
    ap₂ (slice_cmp nat_cmp) (ap (λ (l : List ℕ). l ++ more_x) e ∙ append_assoc front (x ∷ after_x) more_x)
    (ap (λ (l : List ℕ). l ++ more_y) f ∙ append_assoc front (y ∷ after_y) more_y)
    ∙ less_after front x y (after_x ++ more_x) (after_y ++ more_y) h

-- the units of a character, and those of a text
pub record IsEncoding (encode : ℕ → List ℕ) (all : List ℕ → List ℕ) : Type 0 where
  pub nothing : all [] ≡ []
  pub next : (c : ℕ) (cs : List ℕ) → all (c ∷ cs) ≡ encode c ++ all cs
  pub something : (c : ℕ) → (u : ℕ) × (rest : List ℕ) × (encode c ≡ u ∷ rest)
  pub tells : (c d : ℕ) → scalar c ≡ true → scalar d ≡ true → c < d → DifferUpwards (encode c) (encode d)

module _ (encode : ℕ → List ℕ) (all : List ℕ → List ℕ) (e : IsEncoding encode all) where
  begins : (c : ℕ) (cs : List ℕ) → (u : ℕ) × (rest : List ℕ) × (all (c ∷ cs) ≡ u ∷ rest)
  begins c cs = let first = e.something c in (first.0, first.1 ++ all cs, e.next c cs ∙ ap (λ (l : List ℕ). l ++ all cs) first.2)

  below : (c d : ℕ) (cs ds : List ℕ) → scalar c ≡ true → scalar d ≡ true → c < d → slice_cmp nat_cmp (all (c ∷ cs)) (all (d ∷ ds)) ≡ Less
  below c d cs ds is_c is_d h = ap₂ (slice_cmp nat_cmp) (e.next c cs) (e.next d ds) ∙ less_on (encode c) (encode d) (all cs) (all ds) (e.tells c d is_c is_d h)

  pub same_order : (cs ds : List ℕ) → scalars cs ≡ true → scalars ds ≡ true → slice_cmp nat_cmp (all cs) (all ds) ≡ slice_cmp nat_cmp cs ds
  same_order [] [] p q = ap₂ (slice_cmp nat_cmp) e.nothing e.nothing
  same_order [] (d ∷ ds) p q = ap₂ (slice_cmp nat_cmp) e.nothing (begins d ds).2
  same_order (c ∷ cs) [] p q = ap₂ (slice_cmp nat_cmp) (begins c cs).2 e.nothing
  same_order (c ∷ cs) (d ∷ ds) p q =
      by_first (nat_cmp c d) (ranked c d (nat_cmp c d) refl) refl (and_parts (scalar c) (scalars cs) p) (and_parts (scalar d) (scalars ds) q) (same_order cs ds)
    where
      by_first : (r : Ordering) → MatchOrdering r (c < d) (c ≡ d) (d < c) → nat_cmp c d ≡ r → (scalar c ≡ true) × (scalars cs ≡ true)
          → (scalar d ≡ true) × (scalars ds ≡ true)
          → (scalars cs ≡ true → scalars ds ≡ true → slice_cmp nat_cmp (all cs) (all ds) ≡ slice_cmp nat_cmp cs ds)
          → slice_cmp nat_cmp (all (c ∷ cs)) (all (d ∷ ds)) ≡ ordering_then (nat_cmp c d) (slice_cmp nat_cmp cs ds)
      by_first Less h is is_c is_d rest = below c d cs ds is_c.0 is_d.0 h ∙ sym (ap (λ (r : Ordering). ordering_then r (slice_cmp nat_cmp cs ds)) is)
      by_first Equal same is is_c is_d rest =
          ap₂ (slice_cmp nat_cmp) (e.next c cs ∙ ap (λ (x : ℕ). encode x ++ all cs) same) (e.next d ds)
          ∙ common_front (encode d) (all cs) (all ds)
          ∙ rest is_c.1 is_d.1
          ∙ sym (ap (λ (r : Ordering). ordering_then r (slice_cmp nat_cmp cs ds)) is)
      by_first Greater h is is_c is_d rest =
          nat_list_cmp_total.antisymm (all (c ∷ cs)) (all (d ∷ ds))
          ∙ ap ordering_reverse (below d c ds cs is_d.0 is_c.0 h)
          ∙ sym (ap (λ (r : Ordering). ordering_then r (slice_cmp nat_cmp cs ds)) is)

  pub encoded_order : (cs ds : List ℕ) → scalars cs ≡ true → scalars ds ≡ true → IsBeforeInOrder (all cs) (all ds) ↔ IsBeforeInOrder cs ds
  encoded_order cs ds p q = (
    λ h. before_from_less cs ds (sym (same_order cs ds p q) ∙ less_from_before (all cs) (all ds) h),
    λ h. before_from_less (all cs) (all ds) (same_order cs ds p q ∙ less_from_before cs ds h),
  )
