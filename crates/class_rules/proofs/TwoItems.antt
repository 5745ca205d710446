-- A walk over a list that remembers whether an item was so finds a second one, or has seen that there is none.
use Rattle.std.proofs.Common.{◌≡◌, ℕ, ◌+◌, ◌<◌, ◌≤◌, ◌⊎◌, inl, inr, ◌↔◌, Bool, true, false, IsTrue, List, length, Some, refl, sym, ◌∙◌, subst, arith}
use Rattle.std.specs.Prelude.{slice_get}
use Rattle.std.proofs.Math.ListN.{get_or}
use Rattle.std.proofs.lemmas.Bool.{cases_lt}
use Rattle.std.proofs.lemmas.Option.{slice_get_within, slice_get_read, same_Some}
use Rattle.jk_model_classes.specs.Items.{HasItemBefore, HasTwoItems}

-- two items before this place are so
abbrev pub HasTwoBefore : {X : Type 0} → ℕ → (X → Type 0) → List X → Type 0
HasTwoBefore {X} k P xs =
    (i : ℕ) × (j : ℕ) × (x : X) × (y : X) × (i < j) × (j < k) × (slice_get xs i ≡ Some x) × (slice_get xs j ≡ Some y) × P x × P y

-- whether an item before this place is so, where no two are
pub record IsSeen {X : Type 0} (seen : Bool) (P : X → Type 0) (xs : List X) (k : ℕ) : Type 0 where
  pub one : IsTrue seen ↔ HasItemBefore k P xs
  pub two : HasTwoBefore k P xs → ⊥

pub seen_none : {X : Type 0} (P : X → Type 0) (xs : List X) → IsSeen false P xs 0
seen_none P xs = record { one = (λ t. absurd cc, λ (i, x, below, at, p). absurd (omega arith)); two = λ (i, j, x, y, less, below, at, bt, p, q). omega arith }

-- an item before the next place is one before this place, or the one here
before_or_here : {X : Type 0} (P : X → Type 0) (xs : List X) (k : ℕ) (x : X) → slice_get xs k ≡ Some x → (j : ℕ) (y : X) → j < k + 1
    → slice_get xs j ≡ Some y → P y → (j < k) ⊎ P x
before_or_here P xs k x at j y below found p =
    elim (cases_lt j k) [
      | inl less ↦ inl less
      | inr least ↦
          let here : j ≡ k = omega arith in
          let same : y ≡ x = same_Some y x (sym found ∙ subst (λ (n : ℕ). slice_get xs n ≡ Some x) (sym here) at) in
          inr (subst P same p)
    ]

one_before : {X : Type 0} (P : X → Type 0) (xs : List X) (k : ℕ) (x : X) → slice_get xs k ≡ Some x → (P x → ⊥) → HasItemBefore (k + 1) P xs
    → HasItemBefore k P xs
one_before P xs k x at never (j, y, below, found, p) =
    elim (before_or_here P xs k x at j y below found p) [ inl less ↦ (j, y, less, found, p) | inr here ↦ absurd (never here) ]

-- the item here isn't so
seen_same : {X : Type 0} (seen : Bool) (P : X → Type 0) (xs : List X) (k : ℕ) (x : X) → k < length xs → x ≡ get_or xs k x → (P x → ⊥)
    → IsSeen seen P xs k → IsSeen seen P xs (k + 1)
seen_same seen P xs k x within is never h =
    let at = slice_get_read xs (length xs) k x refl within is in
    record {
      one = (
        λ t. let (i, y, below, found, p) = h.one.0 t in (i, y, omega arith, found, p),
        λ found. h.one.1 (one_before P xs k x at never found),
      );
      two = λ (i, j, y, z, less, below, found, next, p, q).
          elim (before_or_here P xs k x at j z below next q) [ inl more ↦ h.two (i, j, y, z, less, more, found, next, p, q) | inr here ↦ never here ];
    }

none_seen : {X : Type 0} (P : X → Type 0) (xs : List X) (k : ℕ) → IsSeen false P xs k → HasItemBefore k P xs → ⊥
none_seen P xs k h found = let never : IsTrue false = h.one.1 found in absurd cc

-- the item here is the first that is so
seen_first : {X : Type 0} (P : X → Type 0) (xs : List X) (k : ℕ) (x : X) → k < length xs → x ≡ get_or xs k x → P x → IsSeen false P xs k
    → IsSeen true P xs (k + 1)
seen_first P xs k x within is p h = record {
  one = (λ t. (k, x, omega arith, slice_get_read xs (length xs) k x refl within is, p), λ found. refl);
  two = λ (i, j, y, z, less, below, found, next, q, r). none_seen P xs k h (i, y, omega arith, found, q);
}

-- the item here is the second that is so
seen_second : {X : Type 0} (P : X → Type 0) (xs : List X) (k : ℕ) (x : X) → k < length xs → x ≡ get_or xs k x → P x → IsSeen true P xs k
    → IsTrue true ↔ HasTwoItems P xs
seen_second P xs k x within is p h =
    let (i, y, below, found, q) = h.one.0 refl in
    (λ t. (i, k, y, x, below, found, slice_get_read xs (length xs) k x refl within is, q, p), λ two. refl)

pub seen_at_end : {X : Type 0} (seen : Bool) (P : X → Type 0) (xs : List X) (k : ℕ) → length xs ≤ k → IsSeen seen P xs k → IsTrue false ↔ HasTwoItems P xs
seen_at_end seen P xs k all h = (
  λ t. absurd cc,
  λ (i, j, x, y, less, found, next, p, q). absurd (h.two (i, j, x, y, less, omega (arith, slice_get_within xs j y next), found, next, p, q)),
)

-- ---- What the walk remembers.

pub still_seen : {X : Type 0} (was now : Bool) (P : X → Type 0) (xs : List X) (k : ℕ) (x : X) → now ≡ was → k < length xs → x ≡ get_or xs k x
    → (P x → ⊥) → IsSeen was P xs k → IsSeen now P xs (k + 1)
still_seen was now P xs k x same within is never h =
    subst (λ (b : Bool). IsSeen b P xs (k + 1)) (sym same) (seen_same was P xs k x within is never h)

pub first_seen : {X : Type 0} (was now : Bool) (P : X → Type 0) (xs : List X) (k : ℕ) (x : X) → was ≡ false → now ≡ true → k < length xs
    → x ≡ get_or xs k x → P x → IsSeen was P xs k → IsSeen now P xs (k + 1)
first_seen was now P xs k x before after within is p h =
    subst (λ (b : Bool). IsSeen b P xs (k + 1)) (sym after)
    (seen_first P xs k x within is p (subst (λ (b : Bool). IsSeen b P xs k) before h))

pub second_seen : {X : Type 0} (was : Bool) (P : X → Type 0) (xs : List X) (k : ℕ) (x : X) → was ≡ true → k < length xs → x ≡ get_or xs k x → P x
    → IsSeen was P xs k → IsTrue true ↔ HasTwoItems P xs
second_seen was P xs k x before within is p h = seen_second P xs k x within is p (subst (λ (b : Bool). IsSeen b P xs k) before h)
