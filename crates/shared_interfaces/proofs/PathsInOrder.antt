-- The order of lists is that of a comparison from the front, and no list comes before itself.
use Rattle.std.proofs.Common.{◌≡◌, ℕ, ◌<◌, ◌↔◌, inl, inr, Bool, true, IsTrue, List, [], ◌∷◌, ◌++◌, refl, sym, ◌∙◌, ap, subst, arith, Ordering, Less, Equal, Greater, nat_cmp, is_lt}
use Rattle.std.specs.Ordering.{ordering_then, MatchOrdering}
use Rattle.std.specs.Cmp.Lexicographic.{slice_cmp}
use Rattle.std.proofs.lemmas.Cmp.{nat_list_cmp_total, nat_cmp_total, tied_itself, ranked}
use Rattle.jk_model_classes.specs.SharedRules.{IsBeforeInOrder}
use Rattle.class_lemmas.proofs.PathsInOrder.{before_from_less}

-- ---- What comes before is less.

less_of : (x y : ℕ) → x < y → nat_cmp x y ≡ Less
less_of x y h = by_order (nat_cmp x y) (ranked x y (nat_cmp x y) refl)
  where
    by_order : (r : Ordering) → MatchOrdering r (x < y) (x ≡ y) (y < x) → r ≡ Less
    by_order Less less = refl
    by_order Equal same = absurd (omega arith)
    by_order Greater more = absurd (omega arith)

same_front : (x : ℕ) (xs ys : List ℕ) → slice_cmp nat_cmp xs ys ≡ Less → slice_cmp nat_cmp (x ∷ xs) (x ∷ ys) ≡ Less
same_front x xs ys h = ap (λ (r : Ordering). ordering_then r (slice_cmp nat_cmp xs ys)) (tied_itself nat_cmp_total x) ∙ h

less_than_longer : (xs : List ℕ) (y : ℕ) (more : List ℕ) → slice_cmp nat_cmp xs (xs ++ y ∷ more) ≡ Less
less_than_longer [] y more = refl
less_than_longer (x ∷ xs) y more = same_front x xs (xs ++ y ∷ more) (less_than_longer xs y more)

pub less_after : (front : List ℕ) (x y : ℕ) (xs ys : List ℕ) → x < y → slice_cmp nat_cmp (front ++ x ∷ xs) (front ++ y ∷ ys) ≡ Less
less_after [] x y xs ys h = ap (λ (r : Ordering). ordering_then r (slice_cmp nat_cmp xs ys)) (less_of x y h)
less_after (z ∷ front) x y xs ys h = same_front z (front ++ x ∷ xs) (front ++ y ∷ ys) (less_after front x y xs ys h)

pub less_from_before : (xs ys : List ℕ) → IsBeforeInOrder xs ys → slice_cmp nat_cmp xs ys ≡ Less
less_from_before xs ys (inl (y, more, e)) = subst (λ (l : List ℕ). slice_cmp nat_cmp xs l ≡ Less) (sym e) (less_than_longer xs y more)
less_from_before xs ys (inr (front, x, y, after_x, after_y, e, f, less)) =
    ap (λ (l : List ℕ). slice_cmp nat_cmp l ys) e ∙ ap (slice_cmp nat_cmp (front ++ x ∷ after_x)) f ∙ less_after front x y after_x after_y less

-- a comparison tells
pub tells_before : (xs ys : List ℕ) (o : Ordering) (b : Bool) → o ≡ slice_cmp nat_cmp xs ys → b ≡ is_lt o → IsTrue b ↔ IsBeforeInOrder xs ys
tells_before xs ys o b e f = (λ t. before_from_less xs ys (sym e ∙ lower o (sym f ∙ t)), λ h. f ∙ ap is_lt (e ∙ less_from_before xs ys h))
  where
    lower : (r : Ordering) → is_lt r ≡ true → r ≡ Less
    lower Less h = refl
    lower Equal h = absurd cc
    lower Greater h = absurd cc

-- ---- The laws of the order.

pub before_trans : (xs ys zs : List ℕ) → IsBeforeInOrder xs ys → IsBeforeInOrder ys zs → IsBeforeInOrder xs zs
before_trans xs ys zs h g =
    before_from_less xs zs (nat_list_cmp_total.trans xs ys zs (less_from_before xs ys h) (less_from_before ys zs g))

pub before_itself : (xs : List ℕ) → IsBeforeInOrder xs xs → ⊥
before_itself xs h = let no : Equal ≡ Less = sym (tied_itself nat_list_cmp_total xs) ∙ less_from_before xs xs h in absurd cc
