-- Keys that are ordered by their bytes: what a map or a set has at given bytes after a key was put to it.
use Rattle.std.proofs.Common.{◌≡◌, ℕ, Bool, true, false, cond, List, sym, ap, ◌∙◌, inl, inr, Option, Ordering, bytes_eq}
use Rattle.std.specs.BTreeMap as map
use Rattle.std.specs.BTreeMap.{BTreeMap, is_at, get_by}
use Rattle.std.specs.BTreeSet as set
use Rattle.std.specs.BTreeSet.{BTreeSet, contains_by}
use Rattle.std.specs.Cmp.Lexicographic.{slice_cmp}
use Rattle.std.specs.Map.{KeepsOthers, lookup}
use Rattle.std.specs.Set.{KeepsOthers as KeepsOtherKeys}
use Rattle.std.specs.List.{list_any}
use Rattle.std.specs.Ordering.{is_eq, nat_cmp, eq_by_cmp}
use Rattle.std.proofs.lemmas.Bool.{cases_Bool, false_from_ne_true, both_ways}
use Rattle.std.proofs.lemmas.Map.Text.{is_eq-slice_cmp}
use Rattle.std.proofs.lemmas.Slice.Eq.{bytes_eq-Decides}

-- the bytes themselves are found, and others are not
same_bytes : (xs ys : List ℕ) → is_eq (slice_cmp nat_cmp xs ys) ≡ true → xs ≡ ys
same_bytes xs ys h = (bytes_eq-Decides xs ys).0 (sym (is_eq-slice_cmp xs ys) ∙ h)

other_bytes : (xs ys : List ℕ) → bytes_eq xs ys ≡ false → is_eq (slice_cmp nat_cmp ys xs) ≡ false
other_bytes xs ys h =
    false_from_ne_true (is_eq (slice_cmp nat_cmp ys xs)) (λ found.
    both_ways (bytes_eq xs ys) h ((bytes_eq-Decides xs ys).1 (sym (same_bytes ys xs found))))

module _ {K : Type 0} (view : K → List ℕ) where
  -- the order of keys by their bytes, and a query by some bytes
  abbrev pub cmp : K → K → Ordering
  cmp x y = slice_cmp nat_cmp (view x) (view y)

  abbrev pub query : List ℕ → K → Ordering
  query bytes k = slice_cmp nat_cmp bytes (view k)

  is_key_test : (bytes : List ℕ) (x y : K) → is_at (query bytes) x ≡ true → is_at (query bytes) y ≡ eq_by_cmp cmp x y
  is_key_test bytes x y h = ap (λ bs. is_eq (slice_cmp nat_cmp bs (view y))) (same_bytes bytes (view x) h)

  are_apart : (own other : List ℕ) → bytes_eq own other ≡ false → (k : K) → is_at (query own) k ≡ true → is_at (query other) k ≡ false
  are_apart own other h k found =
      ap (λ bs. is_eq (slice_cmp nat_cmp other bs)) (sym (same_bytes own (view k) found)) ∙ other_bytes own other h

  other_entries : {X : Type 0} (old new : List (K × X)) (own other : List ℕ) → KeepsOthers (eq_by_cmp cmp) (is_at (query own)) old new
      → bytes_eq own other ≡ false → lookup (is_at (query other)) new ≡ lookup (is_at (query other)) old
  unfolding KeepsOthers
  other_entries old new own other keeps h = keeps (is_at (query other)) (is_key_test other) (are_apart own other h)

  other_keys : (old new : List K) (own other : List ℕ) → KeepsOtherKeys (eq_by_cmp cmp) (is_at (query own)) old new
      → bytes_eq own other ≡ false → list_any (is_at (query other)) new ≡ list_any (is_at (query other)) old
  unfolding KeepsOtherKeys
  other_keys old new own other keeps h = keeps (is_at (query other)) (is_key_test other) (are_apart own other h)

  -- a map after a change at a key of these bytes
  pub get_by-updates : {X : Type 0} (old new : BTreeMap K X) (own : List ℕ) (w : Option X) → map.UpdatesBy cmp (query own) old new w
      → (bytes : List ℕ) → get_by (query bytes) new ≡ cond (bytes_eq own bytes) w (get_by (query bytes) old)
  get_by-updates old new own w h bytes = elim (cases_Bool (bytes_eq own bytes)) [
    | inl same ↦ rw (same, ← (bytes_eq-Decides own bytes).0 same) (h.1)
    | inr other ↦ rw other (other_entries old.entries new.entries own bytes h.3 other)
  ]

  -- a set after a change at a key of these bytes
  pub contains_by-updates : (old new : BTreeSet K) (own : List ℕ) (b : Bool) → set.UpdatesBy cmp (query own) old new b
      → (bytes : List ℕ) → contains_by (query bytes) new ≡ cond (bytes_eq own bytes) b (contains_by (query bytes) old)
  contains_by-updates old new own b h bytes = elim (cases_Bool (bytes_eq own bytes)) [
    | inl same ↦ rw (same, ← (bytes_eq-Decides own bytes).0 same) (h.1)
    | inr other ↦ rw other (other_keys old.keys new.keys own bytes h.3 other)
  ]
