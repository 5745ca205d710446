-- A walk over a list finds an item that is so, or has seen that none is.
use Rattle.std.proofs.Common.{◌≡◌, ℕ, ◌+◌, ◌<◌, ◌≤◌, ◌↔◌, Bool, true, false, IsTrue, List, length, Some, None, refl, sym, ◌∙◌}
use Rattle.std.specs.Prelude.{not}
use Rattle.std.proofs.Math.ListN.{get_or}
use Rattle.std.proofs.lemmas.Bool.{iff_false}
use Rattle.std.proofs.lemmas.Option.{slice_get_read, slice_get-get_or, same_Some}
use Rattle.jk_model_classes.specs.Items.{HasItem, HasItemBefore}
use Rattle.class_lemmas.proofs.SomeItem.{none_more, none_at_all}
use Rattle.class_rules.specs.Walks.{IsLeastItem}

found_at : {X : Type 0} (P : X → Type 0) (xs : List X) (k : ℕ) (x : X) → k < length xs → x ≡ get_or xs k x → P x → HasItem P xs
found_at P xs k x within is p = (k, x, slice_get_read xs (length xs) k x refl within is, p)

-- ---- What the walk answers.

pub is_found : {X : Type 0} (P : X → Type 0) (xs : List X) (k : ℕ) (x : X) → k < length xs → x ≡ get_or xs k x → P x
    → IsTrue true ↔ HasItem P xs
is_found P xs k x within is p = (λ t. found_at P xs k x within is p, λ h. refl)

pub is_missed : {X : Type 0} (P : X → Type 0) (xs : List X) (k : ℕ) → length xs ≤ k → (HasItemBefore k P xs → ⊥) → IsTrue false ↔ HasItem P xs
is_missed P xs k all none = (λ t. absurd cc, λ h. absurd (none_at_all P xs k all none h))

-- the same of the opposite test
pub is_so_if_not : (b : Bool) (P : Type 0) → (IsTrue b ↔ P) → not b ≡ true → P → ⊥
is_so_if_not true P h e = absurd cc
is_so_if_not false P h e = iff_false h refl

pub is_not_if_not : (b : Bool) (P : Type 0) → (IsTrue b ↔ P) → not b ≡ false → (P → ⊥) → ⊥
is_not_if_not true P h e = λ none. none (h.0 refl)
is_not_if_not false P h e = absurd cc

-- ---- The same where the item is a copy.

pub none_more_copied : {X : Type 0} (P : X → Type 0) (xs : List X) (k : ℕ) (d : X) → k < length xs → (P (get_or xs k d) → ⊥)
    → (HasItemBefore k P xs → ⊥) → HasItemBefore (k + 1) P xs → ⊥
none_more_copied P xs k d within never none =
    let same : get_or xs k d ≡ get_or xs k (get_or xs k d) =
    same_Some (get_or xs k d) (get_or xs k (get_or xs k d)) (sym (slice_get-get_or xs k d within) ∙ slice_get-get_or xs k (get_or xs k d) within) in
    none_more P xs k (get_or xs k d) within same never none

pub is_found_copied : {X : Type 0} (P : X → Type 0) (xs : List X) (k : ℕ) (d : X) → k < length xs → P (get_or xs k d) → IsTrue true ↔ HasItem P xs
is_found_copied P xs k d within p = (λ t. (k, get_or xs k d, slice_get-get_or xs k d within, p), λ h. refl)

-- ---- The same with the place of the item.

pub is_first : {X : Type 0} (P : X → Type 0) (xs : List X) (k : ℕ) (x : X) → k < length xs → x ≡ get_or xs k x → P x → (HasItemBefore k P xs → ⊥)
    → IsLeastItem P xs (Some k)
is_first P xs k x within is p none = ((x, slice_get_read xs (length xs) k x refl within is, p), none)

pub is_nowhere : {X : Type 0} (P : X → Type 0) (xs : List X) (k : ℕ) → length xs ≤ k → (HasItemBefore k P xs → ⊥) → IsLeastItem P xs None
is_nowhere P xs k all none = none_at_all P xs k all none

pub is_first_copied : {X : Type 0} (P : X → Type 0) (xs : List X) (k : ℕ) (d : X) → k < length xs → P (get_or xs k d) → (HasItemBefore k P xs → ⊥)
    → IsLeastItem P xs (Some k)
is_first_copied P xs k d within p none = ((get_or xs k d, slice_get-get_or xs k d within, p), none)
