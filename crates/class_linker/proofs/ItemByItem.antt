-- Two lists that are made item by item: what holds of the items at each place.
use Rattle.std.proofs.Common.{◌≡◌, ℕ, ◌+◌, ◌<◌, ◌≤◌, inl, inr, List, length, take, get_or, refl, sym, ◌∙◌, subst, arith, Some, slice_get}
use Rattle.std.specs.Prelude.{Contains}
use Rattle.std.proofs.lemmas.Bool.{cases_lt}
use Rattle.std.specs.List.{AllZip}
use Rattle.std.proofs.lemmas.List.{take_all}
use Rattle.std.proofs.lemmas.Option.{same_Some, slice_get_read, slice_get-get_or}
use Rattle.std.proofs.lemmas.Slice.Zip.{AllZip-long}
use Rattle.list_lemmas.proofs.ItemByItem.{zip_at}
use Rattle.jk_model_folders.specs.LinkedClasses.{GoAlong}

pub along : {X Y : Type 0} (R : X → Y → Type 0) (xs : List X) (ys : List Y) → AllZip R xs ys → GoAlong R xs ys
along R xs ys h = record { as_many = AllZip-long R xs ys h; each = zip_at R xs ys h }

-- and where all items were gone through
pub along_all : {X Y : Type 0} (R : X → Y → Type 0) (xs : List X) (ys : List Y) (i : ℕ) → length xs ≤ i → AllZip R (take i xs) ys → GoAlong R xs ys
along_all R xs ys i all h = along R xs ys (subst (λ zs. AllZip R zs ys) (take_all i xs all) h)

-- ---- All items of one list.

pub item_contained : {X : Type 0} (xs : List X) (x : X) → (h : Contains xs x) → slice_get xs h.0 ≡ Some x
item_contained xs x h = slice_get_read xs (length xs) h.0 x refl h.1 (sym h.2)

-- what holds of each item of a list holds of what is read of a copy of it
pub read_at : {X : Type 0} (P : X → Type 0) (xs ys : List X) → xs ≡ ys → ((i : ℕ) (x : X) → slice_get ys i ≡ Some x → P x) → (i : ℕ) (d : X)
    → i < length xs → P (get_or xs i d)
read_at P xs ys same h i d below = h i (get_or xs i d) (subst (λ zs. slice_get zs i ≡ Some (get_or xs i d)) same (slice_get-get_or xs i d below))

-- the item that was read stands in the list
pub item_at : {X : Type 0} (xs ys : List X) (i : ℕ) (x : X) → xs ≡ ys → i < length xs → x ≡ get_or xs i x → slice_get ys i ≡ Some x
item_at xs ys i x same below is = subst (λ zs. slice_get zs i ≡ Some x) same (slice_get_read xs (length xs) i x refl below is)

-- none of the items before a place is so, nor is the one there
pub none_more : {X : Type 0} (P : X → Type 0) (xs : List X) (k : ℕ) (x : X) → slice_get xs k ≡ Some x → (P x → ⊥)
    → ((j : ℕ) (a : X) → j < k → slice_get xs j ≡ Some a → P a → ⊥) → (j : ℕ) (a : X) → j < k + 1 → slice_get xs j ≡ Some a → P a → ⊥
none_more P xs k x at here before j a below found p =
    elim (cases_lt j k) [
      | inl less ↦ before j a less found p
      | inr least ↦
          let place : j ≡ k = omega arith in
          let one : a ≡ x = same_Some a x (sym found ∙ subst (λ n. slice_get xs n ≡ Some x) (sym place) at) in
          here (subst P one p)
    ]
