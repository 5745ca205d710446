-- The units that are read of a text in a store, one by one and in a row.
use Rattle.std.proofs.Common.{◌≡◌, ℕ, ◌+◌, ◌<◌, ◌≤◌, Bool, true, false, ℤ, pos, to_z, of_z, w32, refl, List, [], ◌∷◌, ◌++◌, length, take, drop, set, get_or, Some, slice_get, bytes_eq, sym, ap, ◌∙◌, subst, arith}
use Rattle.std.specs.Option.{option_map}
use Rattle.std.proofs.lemmas.List.{get_or-drop, get_or-take, length-drop, take_more, take_more_set}
use Rattle.std.proofs.lemmas.Int.{to_z_pos}
use Rattle.std.proofs.lemmas.Option.{same_Some, slice_get-get_or, slice_get_within}
use Rattle.std.proofs.lemmas.Slice.Eq.{bytes_eq-Decides}
use Rattle.list_lemmas.proofs.ItemsRead.{all_read}
use Rattle.jk_model.specs.declared.identifiers.DomainId.{DomainId}
use Rattle.jk_model.specs.declared.values.Value.{Value}
use Rattle.jk_model.specs.declared.values.Value.TheVariants as Held
use Rattle.jk_model_classes.specs.declared.records.ClassRecord.{ClassRecord}
use Rattle.jk_model_domains.specs.Objects.{Object, Text}
use Rattle.object_store.specs.HeapContents.{HasItem, HeapContent, IsHeapContent, IsLive, item_of}
use Rattle.heap_loops.specs.TextChanges.{HasUnits}
use Rattle.heap_loops.proofs.UnitsSoFar.{same_text}

module _ (c : HeapContent) (d : DomainId) (a i : ℕ) (has : HasUnits c d a (i + 1)) where
  abbrev here : ℕ
  here = get_or has.text i 0

  stands : item_of (Text has.text) i ≡ Some (Held.Int (pos here))
  stands = let many = has.many in ap (option_map (λ (u : ℕ). Held.Int (pos u))) (slice_get-get_or has.text i 0 (omega arith))

  pub has_unit : (classes : List ClassRecord) → HasItem c classes d a i
  has_unit classes = record {
    object = Text has.text;
    live = has.live;
    laid_out = tt;
    value = Held.Int (pos here);
    stands = stands;
  }

  pub read_is : (v : Value) → ((object : Object) → IsLive c d a object → item_of object i ≡ Some v) → v ≡ Held.Int (pos (get_or has.text i 0))
  read_is v read = same_Some v (Held.Int (pos here)) (sym (read (Text has.text) has.live) ∙ stands)

  pub unit_is_small : IsHeapContent c → get_or has.text i 0 < 65536
  unit_is_small holds =
      let many = has.many in
      all_read (λ (u : ℕ). u < 65536) has.text i 0 (holds.stored d a (Text has.text) has.live) (omega arith)

  pub unit_of : (units : List ℕ) → IsLive c d a (Text units) → slice_get units i ≡ Some (get_or has.text i 0)
  unit_of units live =
      let same : has.text ≡ units = same_text c d a has.text units has.live live in
      let many = has.many in
      subst (λ (us : List ℕ). slice_get us i ≡ Some here) same (slice_get-get_or has.text i 0 (omega arith))

-- a unit as the int that is read
pub unit_as_read : (z : ℤ) (u : ℕ) → z ≡ pos u → u < 65536 → to_z w32 (of_z w32 z) ≡ pos u
unit_as_read z u is small = ap (λ (x : ℤ). to_z w32 (of_z w32 x)) is ∙ to_z_pos w32 u (omega arith)

-- fewer units are there too
pub has_fewer : (c : HeapContent) (d : DomainId) (a m n : ℕ) → HasUnits c d a n → m ≤ n → HasUnits c d a m
has_fewer c d a m n has few = let many = has.many in record { text = has.text; live = has.live; many = omega arith }

-- ---- Units in a row.

taken_with : (xs : List ℕ) (i x : ℕ) → slice_get xs i ≡ Some x → take (i + 1) xs ≡ take i xs ++ x ∷ []
taken_with xs i x is =
    let within : i < length xs = slice_get_within xs i x is in
    let same : get_or xs i 0 ≡ x = same_Some (get_or xs i 0) x (sym (slice_get-get_or xs i 0 within) ∙ is) in
    take_more xs i 0 within ∙ ap (λ (y : ℕ). take i xs ++ y ∷ []) same

pub one_more_same : (xs ys : List ℕ) (i x y : ℕ) → slice_get xs i ≡ Some x → slice_get ys i ≡ Some y → x ≡ y → take i xs ≡ take i ys
    → take (i + 1) xs ≡ take (i + 1) ys
one_more_same xs ys i x y first second same before =
    taken_with xs i x first ∙ ap (λ (l : List ℕ). l ++ x ∷ []) before ∙ ap (λ (u : ℕ). take i ys ++ u ∷ []) same ∙ sym (taken_with ys i y second)

pub one_more_put : (buffer xs : List ℕ) (i x : ℕ) → i < length buffer → slice_get xs i ≡ Some x → take i buffer ≡ take i xs
    → take (i + 1) (set buffer i x) ≡ take (i + 1) xs
one_more_put buffer xs i x within is before =
    take_more_set buffer i x within ∙ ap (λ (l : List ℕ). l ++ x ∷ []) before ∙ sym (taken_with xs i x is)

-- a unit behind others
pub unit_behind : (units : List ℕ) (from i x : ℕ) → slice_get units (from + i) ≡ Some x → slice_get (drop from units) i ≡ Some x
unit_behind units from i x is =
    let within : from + i < length units = slice_get_within units (from + i) x is in
    let same : get_or units (from + i) 0 ≡ x = same_Some (get_or units (from + i) 0) x (sym (slice_get-get_or units (from + i) 0 within) ∙ is) in
    slice_get-get_or (drop from units) i 0 (omega (arith, length-drop from units)) ∙ ap Some (get_or-drop from units i 0 ∙ same)

unequal_by : (b : Bool) (xs ys : List ℕ) → bytes_eq xs ys ≡ b → (xs ≡ ys → ⊥) → false ≡ b
unequal_by true xs ys is differ = absurd (differ ((bytes_eq-Decides xs ys).0 is))
unequal_by false xs ys is differ = refl

pub unlike : (xs ys : List ℕ) (n i x y : ℕ) → i < n → slice_get xs i ≡ Some x → slice_get ys i ≡ Some y → (x ≡ y → ⊥)
    → false ≡ bytes_eq (take n xs) (take n ys)
unlike xs ys n i x y low first second differ =
    unequal_by (bytes_eq (take n xs) (take n ys)) (take n xs) (take n ys) refl (λ same. differ (here same))
  where
    value : (zs : List ℕ) (z : ℕ) → slice_get zs i ≡ Some z → get_or (take n zs) i 0 ≡ z
    value zs z is =
        let within : i < length zs = slice_get_within zs i z is in
        get_or-take n zs i 0 low ∙ same_Some (get_or zs i 0) z (sym (slice_get-get_or zs i 0 within) ∙ is)

    here : take n xs ≡ take n ys → x ≡ y
    here same = sym (value xs x first) ∙ ap (λ (l : List ℕ). get_or l i 0) same ∙ value ys y second

pub unequal : (xs ys : List ℕ) → (xs ≡ ys → ⊥) → false ≡ bytes_eq xs ys
unequal xs ys differ = unequal_by (bytes_eq xs ys) xs ys refl differ
