-- Lists that are equal: those whose items are equal, and those that rise and have the same items.
use Rattle.std.proofs.Common.{◌≡◌, ℕ, zero, suc, ◌<◌, ◌⊎◌, inl, inr, List, [], ◌∷◌, length, Contains, Some, slice_get, refl, sym, ap, subst, ◌∙◌, arith}
use Rattle.std.proofs.lemmas.Option.{same_Some, none-some, slice_get-get_or}

-- ---- By their items.

pub list_is : {X : Type 0} (xs ys : List X) → length xs ≡ length ys
    → ((i : ℕ) (x y : X) → slice_get xs i ≡ Some x → slice_get ys i ≡ Some y → x ≡ y) → xs ≡ ys
list_is [] [] long same = refl
list_is [] (y ∷ ys) long same = absurd (omega (arith, long))
list_is (x ∷ xs) [] long same = absurd (omega (arith, long))
list_is (x ∷ xs) (y ∷ ys) long same =
    let first : x ≡ y = same zero x y refl refl in
    let more : xs ≡ ys = list_is xs ys (omega (arith, long)) (λ i a b at there. same (suc i) a b at there) in
    cc

-- ---- By their order.

abbrev pub IsRising : {X : Type 0} → (X → X → Type 0) → List X → Type 0
IsRising {X} Less xs = (j k : ℕ) (a b : X) → j < k → slice_get xs j ≡ Some a → slice_get xs k ≡ Some b → Less a b

abbrev pub IsIn : {X : Type 0} → X → List X → Type 0
IsIn {X} x xs = (k : ℕ) × (slice_get xs k ≡ Some x)

pub in_list : {X : Type 0} (xs : List X) (x : X) → Contains xs x → IsIn x xs
in_list xs x (i, within, e) = (i, slice_get-get_or xs i x within ∙ ap Some e)

abbrev pub NeverBoth : {X : Type 0} → (X → X → Type 0) → Type 0
NeverBoth {X} Less = (a b : X) → Less a b → Less b a → ⊥

in_cases : {X : Type 0} (z x : X) (xs : List X) → IsIn z (x ∷ xs) → (x ≡ z) ⊎ IsIn z xs
in_cases z x xs (zero, at) = inl (same_Some x z at)
in_cases z x xs (suc k, at) = inr (k, at)

module _ {X : Type 0} (Less : X → X → Type 0) (never : NeverBoth Less) where
  after_first : (x z : X) (xs : List X) → IsRising Less (x ∷ xs) → IsIn z xs → Less x z
  after_first x z xs up (k, at) = up zero (suc k) x z (omega arith) refl at

  tail_rises : (x : X) (xs : List X) → IsRising Less (x ∷ xs) → IsRising Less xs
  tail_rises x xs up j k a b less at there = up (suc j) (suc k) a b (omega (arith, less)) at there

  first_is : (x y : X) (xs ys : List X) → IsRising Less (x ∷ xs) → IsRising Less (y ∷ ys) → IsIn x (y ∷ ys) → IsIn y (x ∷ xs) → x ≡ y
  first_is x y xs ys up rise here there = elim (in_cases x y ys here) [
    | inl same ↦ sym same
    | inr later ↦ elim (in_cases y x xs there) [
      | inl same ↦ same
      | inr after ↦ absurd (never x y (after_first x y xs up after) (after_first y x ys rise later))
    ]
  ]

  -- what isn't first is behind
  behind : (x y z : X) (xs ys : List X) → x ≡ y → IsRising Less (x ∷ xs) → IsIn z xs → IsIn z (y ∷ ys) → IsIn z ys
  behind x y z xs ys same up here there = elim (in_cases z y ys there) [
    | inl first ↦
        let less : Less x z = after_first x z xs up here in
        let both : x ≡ z = same ∙ first in
        let own : Less z z = subst (λ (w : X). Less w z) both less in
        absurd (never z z own own)
    | inr later ↦ later
  ]

  pub rising_same : (xs ys : List X) → IsRising Less xs → IsRising Less ys → ((z : X) → IsIn z xs → IsIn z ys) → ((z : X) → IsIn z ys → IsIn z xs) → xs ≡ ys
  rising_same [] [] up rise into back = refl
  rising_same [] (y ∷ ys) up rise into back = absurd (none-some y (back y (zero, refl)).1)
  rising_same (x ∷ xs) [] up rise into back = absurd (none-some x (into x (zero, refl)).1)
  rising_same (x ∷ xs) (y ∷ ys) up rise into back =
      let first : x ≡ y = first_is x y xs ys up rise (into x (zero, refl)) (back y (zero, refl)) in
      let more : xs ≡ ys = rising_same xs ys (tail_rises x xs up) (tail_rises y ys rise)
      (λ z (k, at). behind x y z xs ys first up (k, at) (into z (suc k, at)))
      (λ z (k, at). behind y x z ys xs (sym first) rise (k, at) (back z (suc k, at))) in
      cc
