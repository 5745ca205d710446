-- Sorted paths, each once, come in the order of their bytes.
use Rattle.std.proofs.Common.{◌≡◌, ℕ, zero, suc, ◌<◌, ◌⊎◌, inl, inr, List, [], ◌∷◌, ◌++◌, Some, slice_get, refl, sym, ap, ◌∙◌, subst, arith, true, false, cond, Bool}
use Rattle.std.specs.Prelude.{map, string_bytes, Contains, String}
use Rattle.std.specs.List.{AllByRecursion, IsDistinct, dedup}
use Rattle.std.specs.List.Sorted.{IsPermutation, IsSorted, IsStrictlySortedBy}
use Rattle.std.specs.Ordering.{ordering_then, is_eq}
use Rattle.std.specs.declared.cmp.Ordering.{Ordering}
use Rattle.std.specs.declared.cmp.Ordering.TheVariants.{Less, Equal, Greater}
use Rattle.std.specs.Str.{bytes_eq}
use Rattle.std.specs.String.{string_cmp, string_cmp_total, string_eq, string_eq_equiv}
use Rattle.std.proofs.lemmas.List.Kept.{Any-dedup, Contains-from_dedup, IsStrictlySortedBy-dedup}
use Rattle.std.proofs.lemmas.List.Sorted.{Contains-permutation, IsPermutation-sym}
use Rattle.std.proofs.lemmas.Map.Text.{is_eq-slice_cmp}
use Rattle.std.proofs.lemmas.Slice.Eq.{bytes_eq-Decides}
use Rattle.jk_model.proofs.EachItem.{all_at}
use Rattle.jk_model_classes.specs.SharedRules.{IsBeforeInOrder}
use Rattle.jk_model_folders.specs.declared.files.FolderFile.{FolderFile}
use Rattle.class_lemmas.proofs.PathsInOrder.{before_from_less as before_by_cmp}
use Rattle.folder_reader.specs.Paths.{IsRising}
use Rattle.folder_reader.proofs.ItemsOfLists.{all_unmapped, in_map, of_map}

then_less : (o r : Ordering) → ordering_then o r ≡ Less → (o ≡ Less) ⊎ ((o ≡ Equal) × (r ≡ Less))
then_less Less r e = inl refl
then_less Equal r e = inr (refl, e)
then_less Greater r e = absurd cc

less_number : (b s : Bool) → cond b Less (cond s Equal Greater) ≡ Less → b ≡ true
less_number true s e = refl
less_number false true e = absurd cc
less_number false false e = absurd cc

same_number : (b s : Bool) → cond b Less (cond s Equal Greater) ≡ Equal → s ≡ true
same_number true s e = absurd cc
same_number false true e = refl
same_number false false e = absurd cc

after_first : (x y : ℕ) (xs ys : List ℕ) → x ≡ y → IsBeforeInOrder xs ys → IsBeforeInOrder (x ∷ xs) (y ∷ ys)
after_first x y xs ys same h =
    elim h [
      | inl a ↦ inl (a.0, a.1, let rest : ys ≡ xs ++ a.0 ∷ a.1 = a.2 in cc)
      | inr b ↦ inr (x ∷ b.0, b.1, b.2, b.3, b.4, (let rest : xs ≡ b.0 ++ b.1 ∷ b.3 = b.5 in cc), (let rest : ys ≡ b.0 ++ b.2 ∷ b.4 = b.6 in cc), b.7)
    ]

all_rise : {Z : Type 0} (x : String Z) (xs : List (String Z)) → AllByRecursion (λ (y : String Z). string_cmp x y ≡ Less) xs
    → AllByRecursion (IsBeforeInOrder (string_bytes x)) (map string_bytes xs)
all_rise x [] h = tt
all_rise x (y ∷ xs) h = (before_by_cmp (string_bytes x) (string_bytes y) h.0, all_rise x xs h.1)

pub rising_from_sorted : {Z : Type 0} (xs : List (String Z)) → IsStrictlySortedBy string_cmp xs → IsRising (map string_bytes xs)
unfolding IsStrictlySortedBy
rising_from_sorted [] h = tt
rising_from_sorted (x ∷ xs) h = (all_rise x xs h.0, rising_from_sorted xs h.1)

all_differ : {Z : Type 0} (x : String Z) (xs : List (String Z)) → AllByRecursion (λ (y : String Z). string_cmp x y ≡ Less) xs
    → AllByRecursion (λ (y : List ℕ). bytes_eq (string_bytes x) y ≡ false) (map string_bytes xs)
all_differ x [] h = tt
all_differ x (y ∷ xs) h = (sym (is_eq-slice_cmp (string_bytes x) (string_bytes y)) ∙ ap is_eq h.0, all_differ x xs h.1)

pub distinct_from_sorted : {Z : Type 0} (xs : List (String Z)) → IsStrictlySortedBy string_cmp xs → IsDistinct bytes_eq (map string_bytes xs)
unfolding IsStrictlySortedBy IsDistinct
distinct_from_sorted [] h = tt
distinct_from_sorted (x ∷ xs) h = (all_differ x xs h.0, distinct_from_sorted xs h.1)

-- by places
pub rising_at : (files : List FolderFile) → IsRising (map (λ (f : FolderFile). f.path) files) → (i j : ℕ) (a b : FolderFile) → i < j
    → slice_get files i ≡ Some a → slice_get files j ≡ Some b → IsBeforeInOrder a.path b.path
rising_at [] h i j a b lt ea eb = absurd cc
rising_at (f ∷ files) h i zero a b lt ea eb = absurd (omega arith)
rising_at (f ∷ files) h zero (suc j) a b lt ea eb =
    let same : f ≡ a = cc in
    let from = all_at (λ (g : FolderFile). IsBeforeInOrder f.path g.path) files j b
    (all_unmapped (λ (g : FolderFile). g.path) (IsBeforeInOrder f.path) files h.0) eb in
    rw (← same) from
rising_at (f ∷ files) h (suc i) (suc j) a b lt ea eb = rising_at files h.1 i j a b (omega arith) ea eb

-- ---- after a sort and a `dedup`

sorted_once : {Z : Type 0} (sorted : List (String Z)) → IsSorted string_cmp sorted → IsStrictlySortedBy string_cmp (dedup string_eq sorted)
sorted_once sorted h =
    IsStrictlySortedBy-dedup string_cmp_total (λ x y. sym (is_eq-slice_cmp (string_bytes x) (string_bytes y))) sorted h

pub sorted_rise : {Z : Type 0} (sorted once : List (String Z)) → IsSorted string_cmp sorted → once ≡ dedup string_eq sorted
    → IsRising (map string_bytes once)
sorted_rise sorted once h is = rw is (rising_from_sorted (dedup string_eq sorted) (sorted_once sorted h))

pub sorted_differ : {Z : Type 0} (sorted once : List (String Z)) → IsSorted string_cmp sorted → once ≡ dedup string_eq sorted
    → IsDistinct bytes_eq (map string_bytes once)
sorted_differ sorted once h is = rw is (distinct_from_sorted (dedup string_eq sorted) (sorted_once sorted h))

pub sorted_keep : {Z : Type 0} (paths sorted once : List (String Z)) (path : List ℕ) → IsPermutation paths sorted → once ≡ dedup string_eq sorted
    → Contains (map string_bytes paths) path → Contains (map string_bytes once) path
sorted_keep paths sorted once path moved is h =
    let s = of_map string_bytes paths path h in
    let a = Any-dedup string_eq_equiv sorted s.0 (Contains-permutation paths sorted s.0 moved s.1) in
    let same : string_bytes s.0 ≡ string_bytes a.1 = (bytes_eq-Decides (string_bytes s.0) (string_bytes a.1)).0 a.4 in
    rw is (subst (Contains (map string_bytes (dedup string_eq sorted))) (sym same ∙ s.2) (in_map string_bytes (dedup string_eq sorted) a.1 (a.0, a.2, a.3)))

pub sorted_only : {Z : Type 0} (paths sorted once : List (String Z)) (path : List ℕ) → IsPermutation paths sorted → once ≡ dedup string_eq sorted
    → Contains (map string_bytes once) path → Contains (map string_bytes paths) path
sorted_only {Z = Z} paths sorted once path moved is h =
    let s = of_map string_bytes once path h in
    let from = Contains-from_dedup string_eq sorted s.0 (subst (λ (xs : List (String Z)). Contains xs s.0) is s.1) in
    subst (Contains (map string_bytes paths)) s.2
    (in_map string_bytes paths s.0 (Contains-permutation sorted paths s.0 (IsPermutation-sym paths sorted moved) from))
