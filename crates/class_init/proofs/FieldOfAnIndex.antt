-- A static field is found by its place among all fields, and changed alone; and how the static fields of a class begin.
use Rattle.std.proofs.Common.{◌≡◌, ℕ, zero, suc, ◌+◌, ◌<◌, ◌≤◌, ◌⊎◌, inl, inr, true, false, List, [], ◌∷◌, ◌++◌, length, map, filter, set, find, take, refl, subst, sym, ◌∙◌, ap, arith, append-nil, Some, None, Result, Ok, Err, slice_get, get_or, nat_lt, eqb}
use Rattle.std.specs.Prelude.{◌==◌, MatchOption}
use Rattle.std.specs.Option.{option_map}
use Rattle.std.specs.Result.{result_ok}
use Rattle.std.specs.Ordering.{nat_cmp, ordering_index, is_lt}
use Rattle.std.specs.declared.cmp.Ordering.TheVariants.{Less, Equal, Greater}
use Rattle.std.specs.List.{enumerate_from}
use Rattle.std.specs.List.Sorted.{IsSortedByKey, IsNonDecreasingBy, IsBinarySearchResult, IsSearchInRange}
use Rattle.std.proofs.lemmas.Bool.{cases_lt}
use Rattle.std.proofs.lemmas.Bool.Decides.{nat_tests}
use Rattle.std.proofs.lemmas.Cmp.{nat_cmp_total, tied_itself}
use Rattle.std.proofs.lemmas.List.{map-append, map-set, take_more, length-take-le}
use Rattle.std.proofs.lemmas.List.Elements.{filter-append}
use Rattle.std.proofs.lemmas.List.Sorted.{searchable_from_sorted}
use Rattle.std.proofs.lemmas.Map.Lookups.{exact_unsigned}
use Rattle.std.proofs.lemmas.Option.{slice_get_within, slice_get-get_or, get_or_from_slice_get, same_Some}
use Rattle.jk_model.specs.Flags.{has}
use Rattle.list_lemmas.proofs.ItemsByPlace.{comes_from, mapped_at, old_or_last, slice_get-set_cases}
use Rattle.list_lemmas.proofs.LastItems.{enumerate_from-push}
use Rattle.jk_model.specs.declared.values.Value.{Value}
use Rattle.jk_model.specs.declared.values.Value.TheVariants as Held
use Rattle.jk_model_classes.specs.declared.records.FieldRecord.{FieldRecord}
use Rattle.jk_model_domains.specs.OwnStates.{StaticField, with_field, is_static_field}
use Rattle.class_init.specs.declared.statics.FieldSlot.{FieldSlot}
use Rattle.class_init.specs.Statics.{static_field, IsRising, IsIndexAt, LacksIndex, with_values, first_static, statics_from}
use Rattle.class_init.proofs.ByKey.{Differ, found_none, found_at, unchanged, changed_at}

-- ---- The search.

not_below : (m n : ℕ) → n < m → is_lt (nat_cmp m n) ≡ false
not_below m n h =
    let no : nat_lt m n ≡ false = grind (arith, nat_tests) in
    let other : eqb m n ≡ false = grind (arith, nat_tests) in
    rw (no, other) refl

in_order : (xs : List FieldSlot) → IsRising xs → IsSortedByKey (λ (s : FieldSlot). s.index) nat_cmp xs
in_order xs h = λ k d low high.
    let one : slice_get xs k ≡ Some (get_or xs k d) = slice_get-get_or xs k d (omega (arith, high)) in
    let two : slice_get xs (k + 1) ≡ Some (get_or xs (k + 1) d) = slice_get-get_or xs (k + 1) d high in
    not_below (get_or xs (k + 1) d).index (get_or xs k d).index (h k (k + 1) (get_or xs k d) (get_or xs (k + 1) d) one two (omega arith))

pub says_place : (xs : List FieldSlot) (index : ℕ) (r : Result ℕ ℕ) → IsRising xs → IsSearchInRange r (length xs)
    → IsBinarySearchResult (λ (s : FieldSlot). nat_cmp s.index index) xs r
    → MatchOption (result_ok r) (LacksIndex xs index) (λ place. IsIndexAt xs index place)
says_place xs index (Ok i) rising range found =
    let d : FieldSlot = record { index = index; value = Held.Null } in
    record { slot = get_or xs i d; there = slice_get-get_or xs i d range; is = exact_unsigned (get_or xs i d).index index (found d) }
says_place xs index (Err i) rising range found = λ k s at same. by_order k s at same (cases_lt k i)
  where
    by_order : (k : ℕ) (s : FieldSlot) → slice_get xs k ≡ Some s → s.index ≡ index → (k < i) ⊎ (i ≤ k) → ⊥
    by_order k s at same c =
        let up = searchable_from_sorted nat_cmp_total (λ (y : FieldSlot). y.index) xs index (in_order xs rising) in
        let here : get_or xs k s ≡ s = get_or_from_slice_get xs k s s at in
        let tie : nat_cmp s.index index ≡ Equal = rw same (tied_itself nat_cmp_total index) in
        by_side up here tie c
      where
        by_side : IsNonDecreasingBy (λ (y : FieldSlot). ordering_index (nat_cmp y.index index)) xs → get_or xs k s ≡ s → nat_cmp s.index index ≡ Equal
            → (k < i) ⊎ (i ≤ k) → ⊥
        by_side up here tie (inl early) =
            let less : nat_cmp (get_or xs k s).index index ≡ Less = (found up).0 k s (omega arith) early in
            let both : Less ≡ Equal = sym less ∙ ap (λ (y : FieldSlot). nat_cmp y.index index) here ∙ tie in cc
        by_side up here tie (inr late) =
            let more : nat_cmp (get_or xs k s).index index ≡ Greater = (found up).1 k s late (slice_get_within xs k s at) in
            let both : Greater ≡ Equal = sym more ∙ ap (λ (y : FieldSlot). nat_cmp y.index index) here ∙ tie in cc

-- ---- The fields as contracts see them.

abbrev pub index_of : StaticField → ℕ
index_of f = f.index

abbrev value_of : StaticField → Value
value_of f = f.value

slots_differ : (xs : List FieldSlot) → IsRising xs → Differ index_of (map static_field xs)
slots_differ xs h i j a b p q e =
    let x = comes_from static_field xs i a p in
    let y = comes_from static_field xs j b q in
    let same : x.from.index ≡ y.from.index = ap index_of x.gives ∙ e ∙ sym (ap index_of y.gives) in
    by_order x.from y.from x.there y.there same (cases_lt i j) (cases_lt j i)
  where
    by_order : (x y : FieldSlot) → slice_get xs i ≡ Some x → slice_get xs j ≡ Some y → x.index ≡ y.index → (i < j) ⊎ (j ≤ i) → (j < i) ⊎ (i ≤ j) → i ≡ j
    by_order x y p q e (inl low) r = absurd (omega (arith, h i j x y p q low, e))
    by_order x y p q e (inr low) (inl high) = absurd (omega (arith, h j i y x q p high, e))
    by_order x y p q e (inr low) (inr high) = omega (arith, low, high)

lacks : (xs : List FieldSlot) (index : ℕ) → LacksIndex xs index → (j : ℕ) (y : StaticField) → slice_get (map static_field xs) j ≡ Some y → y.index ≡ index → ⊥
lacks xs index h j y at same =
    let x = comes_from static_field xs j y at in h j x.from x.there (ap index_of x.gives ∙ same)

pub value_none : (xs : List FieldSlot) (index : ℕ) → LacksIndex xs index
    → option_map value_of (find (λ (f : StaticField). f.index == index) (map static_field xs)) ≡ None
value_none xs index h = ap (option_map value_of) (found_none index_of (map static_field xs) index (lacks xs index h))

read_slot : (xs : List FieldSlot) (index place : ℕ) (s : FieldSlot) (at : IsIndexAt xs index place) → s ≡ get_or xs place s → s ≡ at.slot
read_slot xs index place s at e = e ∙ get_or_from_slice_get xs place at.slot s at.there

pub value_some : (xs : List FieldSlot) (index place : ℕ) (s : FieldSlot) → IsRising xs → IsIndexAt xs index place → s ≡ get_or xs place s
    → Some s.value ≡ option_map value_of (find (λ (f : StaticField). f.index == index) (map static_field xs))
value_some xs index place s rising at e =
    let found = found_at index_of (map static_field xs) place index (static_field at.slot) (slots_differ xs rising)
    (mapped_at static_field xs place at.slot at.there) at.is in
    ap (λ (x : FieldSlot). Some x.value) (read_slot xs index place s at e) ∙ sym (ap (option_map value_of) found)

pub set_none : (xs : List FieldSlot) (index : ℕ) (v : Value) → LacksIndex xs index → map static_field xs ≡ with_field index v (map static_field xs)
set_none xs index v h = sym (unchanged index_of (λ (f : StaticField). record f { value = v }) (map static_field xs) index (lacks xs index h))

pub set_some : (xs : List FieldSlot) (index place : ℕ) (v : Value) (s : FieldSlot) → IsRising xs → IsIndexAt xs index place → s ≡ get_or xs place s
    → map static_field (set xs place (record { index = s.index; value = v })) ≡ with_field index v (map static_field xs)
set_some xs index place v s rising at e =
    let change : StaticField → StaticField = λ f. record f { value = v } in
    let new : FieldSlot → FieldSlot = λ x. record { index = x.index; value = v } in
    let done = changed_at index_of change (map static_field xs) place index (static_field at.slot) (slots_differ xs rising)
    (mapped_at static_field xs place at.slot at.there) at.is in
    map-set static_field xs place (new s)
    ∙ ap (λ (x : FieldSlot). set (map static_field xs) place (static_field (new x))) (read_slot xs index place s at e)
    ∙ sym done

pub rising_set : (xs : List FieldSlot) (i : ℕ) (s : FieldSlot) (v : Value) → IsRising xs → slice_get xs i ≡ Some s
    → IsRising (set xs i (record { index = s.index; value = v }))
rising_set xs i s v h at j k a b p q low = by_places (slice_get-set_cases xs i j new a p) (slice_get-set_cases xs i k new b q)
  where
    new : FieldSlot
    new = record { index = s.index; value = v }

    by_places : ((i ≡ j) × (new ≡ a)) ⊎ (slice_get xs j ≡ Some a) → ((i ≡ k) × (new ≡ b)) ⊎ (slice_get xs k ≡ Some b) → a.index < b.index
    by_places (inl x) (inl y) = absurd (omega (arith, x.0, y.0, low))
    by_places (inl x) (inr y) = subst (λ (z : FieldSlot). z.index < b.index) x.1 (h i k s b at y (omega (arith, x.0, low)))
    by_places (inr x) (inl y) = subst (λ (z : FieldSlot). a.index < z.index) y.1 (h j i a s x at (omega (arith, y.0, low)))
    by_places (inr x) (inr y) = h j k a b x y low

-- ---- All values in turn.

pub with_no_values : (fs : List StaticField) → with_values fs [] ≡ fs
with_no_values [] = refl
with_no_values (f ∷ fs) = refl

pub length-with_values : (fs : List StaticField) (vs : List Value) → length (with_values fs vs) ≡ length fs
length-with_values [] vs = refl
length-with_values (f ∷ fs) [] = refl
length-with_values (f ∷ fs) (v ∷ vs) = ap suc (length-with_values fs vs)

pub one_value_more : (fs : List StaticField) (vs : List Value) (i : ℕ) (f : StaticField) (d : Value) → i < length vs
    → slice_get (with_values fs (take i vs)) i ≡ Some f
    → set (with_values fs (take i vs)) i (record { index = f.index; value = get_or vs i d }) ≡ with_values fs (take (suc i) vs)
one_value_more [] vs i f d low at = cc
one_value_more (g ∷ fs) [] i f d low at = absurd (omega arith)
one_value_more (g ∷ fs) (v ∷ vs) zero f d low at =
    let same : g ≡ f = same_Some g f at in
    let rest : fs ≡ with_values fs [] = sym (with_no_values fs) in
    let of : StaticField → List StaticField → List StaticField = λ x ys. record { index = x.index; value = v } ∷ ys in
    ap (λ x. of x fs) (sym same) ∙ ap (of g) rest
one_value_more (g ∷ fs) (v ∷ vs) (suc i) f d low at =
    ap (λ (ys : List StaticField). record g { value = v } ∷ ys) (one_value_more fs vs i f d (omega arith) at)

-- ---- How the fields begin.

statics-push : (fs : List FieldRecord) (f : FieldRecord)
    → statics_from 0 (fs ++ f ∷ []) ≡ statics_from 0 fs ++ map first_static (filter is_static_field ((length fs, f) ∷ []))
statics-push fs f =
    let e : 0 + length fs ≡ length fs = omega arith in
    ap (λ xs. map first_static (filter is_static_field xs)) (enumerate_from-push 0 fs f ∙ ap (λ k. enumerate_from 0 fs ++ (k, f) ∷ []) e)
    ∙ ap (map first_static) (filter-append is_static_field (enumerate_from 0 fs) ((length fs, f) ∷ []))
    ∙ map-append first_static (filter is_static_field (enumerate_from 0 fs)) (filter is_static_field ((length fs, f) ∷ []))

-- the slots are those of the first fields, as they begin
pub record AreFirst (fields : List FieldRecord) (end : ℕ) (slots : List FieldSlot) : Type 0 where
  pub are : map static_field slots ≡ statics_from 0 (take end fields)
  pub rising : IsRising slots
  pub low : (k : ℕ) (s : FieldSlot) → slice_get slots k ≡ Some s → s.index < end

pub first_none : (fields : List FieldRecord) → AreFirst fields 0 []
first_none fields = record { are = refl; rising = λ i j a b p q low. cc; low = λ k s at. cc }

pub first_static_more : (fields : List FieldRecord) (i : ℕ) (slots : List FieldSlot) (f : FieldRecord) (s : FieldSlot) → AreFirst fields i slots
    → i < length fields
    → f ≡ get_or fields i f → has f.flags 8 ≡ true → static_field s ≡ first_static (i, f) → AreFirst fields (i + 1) (slots ++ s ∷ [])
first_static_more fields i slots f s h low at passes begins = record {
  are =
      let size : length (take i fields) ≡ i = length-take-le i fields (omega arith) in
      let kept : map first_static (filter is_static_field ((i, f) ∷ [])) ≡ first_static (i, f) ∷ [] = rw passes refl in
      rw (take_more fields i f low, ← at, statics-push (take i fields) f, size, kept, map-append static_field slots (s ∷ []), h.are, begins) refl;
  rising = λ j k a b p q less. by_places j k a b less (old_or_last slots s j a p) (old_or_last slots s k b q);
  low = λ k x there. by_place k x (old_or_last slots s k x there);
}
  where
    index_is : s.index ≡ i
    index_is = ap index_of begins

    by_places : (j k : ℕ) (a b : FieldSlot) → j < k → ((j < length slots) × (slice_get slots j ≡ Some a)) ⊎ ((j ≡ length slots) × (a ≡ s))
        → ((k < length slots) × (slice_get slots k ≡ Some b)) ⊎ ((k ≡ length slots) × (b ≡ s)) → a.index < b.index
    by_places j k a b less (inl x) (inl y) = h.rising j k a b x.1 y.1 less
    by_places j k a b less (inl x) (inr y) =
        let before = h.low j a x.1 in rw (y.1, index_is) before
    by_places j k a b less (inr x) (inl y) = absurd (omega (arith, x.0, y.0, less))
    by_places j k a b less (inr x) (inr y) = absurd (omega (arith, x.0, y.0, less))

    by_place : (k : ℕ) (x : FieldSlot) → ((k < length slots) × (slice_get slots k ≡ Some x)) ⊎ ((k ≡ length slots) × (x ≡ s)) → x.index < i + 1
    by_place k x (inl y) = omega (arith, h.low k x y.1)
    by_place k x (inr y) = rw (y.1, index_is) (omega arith)

pub first_other_more : (fields : List FieldRecord) (i : ℕ) (slots : List FieldSlot) (f : FieldRecord) → AreFirst fields i slots → i < length fields
    → f ≡ get_or fields i f → has f.flags 8 ≡ false → AreFirst fields (i + 1) slots
first_other_more fields i slots f h low at unset = record {
  are =
      let size : length (take i fields) ≡ i = length-take-le i fields (omega arith) in
      let fails : map first_static (filter is_static_field ((i, f) ∷ [])) ≡ [] = rw unset refl in
      rw (take_more fields i f low, ← at, statics-push (take i fields) f, size, fails, h.are, append-nil (statics_from 0 (take i fields))) refl;
  rising = h.rising;
  low = λ k x there. omega (arith, h.low k x there);
}

pub same_field : (s : FieldSlot) (p : ℕ × FieldRecord) → s.index ≡ (first_static p).index → s.value ≡ (first_static p).value → static_field s ≡ first_static p
same_field s p e f =
    let of : (m n : ℕ) (v w : Value) → m ≡ n → v ≡ w → (let x : StaticField = record { index = m; value = v } in x) ≡ record { index = n; value = w } =
    λ m n v w a b. cc in
    of s.index (first_static p).index s.value (first_static p).value e f

pub values_of_slots : (xs : List FieldSlot) → map (λ (s : FieldSlot). s.value) xs ≡ map (λ (f : StaticField). f.value) (map static_field xs)
values_of_slots [] = refl
values_of_slots (x ∷ xs) = ap (λ (vs : List Value). x.value ∷ vs) (values_of_slots xs)
