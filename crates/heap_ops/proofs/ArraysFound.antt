-- Arrays that instructions find on the stack, as the store has them.
use Rattle.std.proofs.Common.{◌≡◌, inl, inr, ℕ, ℤ, pos, negsuc, ◌<◌, List, length, Some, None, refl, sym, ap, subst, ◌∙◌, arith}
use Rattle.std.specs.Prelude.{nat_lt, if◌then◌else◌, true, false, Bool}
use Rattle.std.proofs.lemmas.Bool.{lt-ltb, ltb-true}
use Rattle.std.proofs.lemmas.Option.{same_Some}
use Rattle.jk_model.specs.declared.identifiers.DomainId.{DomainId}
use Rattle.jk_model.specs.declared.values.Value.{Value}
use Rattle.jk_model.specs.declared.values.Value.TheVariants as Held
use Rattle.jk_model_classes.specs.declared.records.TypeRef.{TypeRef}
use Rattle.jk_model_domains.specs.Objects.{NamedObject, Array}
use Rattle.jk_model_heaps.specs.declared.shapes.Shape.TheVariants as Of
use Rattle.jk_model_heaps.specs.References.{IsHeapArray}
use Rattle.jk_model_heap_rows.specs.ElementRows.{place_at}
use Rattle.frame_store.specs.FrameContents.{FrameContent}
use Rattle.object_store.specs.HeapContents.{HeapContent, IsLive}
use Rattle.row_laws.specs.HeapOperands.{IsArrayOrNull, IsObjectOrNull}
use Rattle.heap_ops.specs.declared.here.Here.{Here}
use Rattle.heap_ops.specs.HeapValues.{HasNoPlace, IsArrayAt}
use Rattle.heap_ops.specs.TopEntries.{IsNullOrName}
use Rattle.heap_ops.proofs.DoingHere.{Doing, live, w}

pub same_name : (v : Value) (a b : ℕ) → v ≡ Held.Obj a → v ≡ Held.Obj b → a ≡ b
same_name v a b e f = let g : Held.Obj a ≡ Held.Obj b = sym e ∙ f in cc

pub never_both : {P : Type 0} (v : Value) (a : ℕ) → v ≡ Held.Null → v ≡ Held.Obj a → P
never_both v a e f = let g : Held.Null ≡ Held.Obj a = sym e ∙ f in absurd cc

pub null_or_name : (v : Value) (a : ℕ) → v ≡ Held.Obj a → IsNullOrName v
null_or_name v a e = subst IsNullOrName (sym e) tt

pub null_too : (v : Value) → v ≡ Held.Null → IsNullOrName v
null_too v e = subst IsNullOrName (sym e) tt

pub array_or_null : (heap : List NamedObject) (v : Value) → IsArrayOrNull heap v → IsNullOrName v
array_or_null heap v (inl null) = null_too v null
array_or_null heap v (inr array) = null_or_name v array.name array.refers

pub object_or_null : (heap : List NamedObject) (v : Value) → IsObjectOrNull heap v → IsNullOrName v
object_or_null heap v (inl null) = null_too v null
object_or_null heap v (inr (a, o, refers, is)) = null_or_name v a refers

-- what isn't null is an array
pub is_heap_array : (heap : List NamedObject) (v : Value) (a : ℕ) → IsArrayOrNull heap v → v ≡ Held.Obj a → IsHeapArray heap v
is_heap_array heap v a (inl null) is = never_both v a null is
is_heap_array heap v a (inr array) is = array

-- ---- The place that an index means.

no_place_by : (n count : ℕ) (b : Bool) → nat_lt n count ≡ b → (n < count → ⊥) → (if b then Some n else None) ≡ None
no_place_by n count true low none = absurd (none (ltb-true n count low))
no_place_by n count false low none = refl

pub no_place : (items : List Value) (index : ℤ) (count : ℕ) → length items ≡ count → HasNoPlace index count → place_at items index ≡ None
no_place items (pos n) count many none =
    no_place_by n (length items) (nat_lt n (length items)) refl (λ low. none n refl (subst (λ (m : ℕ). n < m) many low))
no_place items (negsuc n) count many none = refl

pub place_meant : (items : List Value) (index : ℤ) (count place : ℕ) → length items ≡ count → index ≡ pos place → place < count
    → place_at items index ≡ Some place
place_meant items index count place many is low =
    ap (place_at items) is
    ∙ ap (λ (b : Bool). if b then Some place else None) (lt-ltb place (length items) (omega (arith, low, many)))

module _ (heaps : HeapContent) (frames : FrameContent) (h : Here) (k : Doing heaps frames h) where
  abbrev heap : List NamedObject
  heap = (w heaps frames h k).inside.heap

  -- the array is one of the store
  pub array_live : (v : Value) (a : ℕ) → (array : IsHeapArray heap v) → v ≡ Held.Obj a → IsLive heaps h.domain a (Array array.element array.items)
  array_live v a array is =
      subst (λ (n : ℕ). IsLive heaps h.domain n (Array array.element array.items)) (same_name v array.name a array.refers is)
      (live heaps frames h k array.name (Array array.element array.items) array.object)

  pub array_there : (v : Value) (a : ℕ) → IsArrayOrNull heap v → v ≡ Held.Obj a
      → (element : TypeRef) × (count : ℕ) × IsArrayAt heaps h.domain a element count
  array_there v a found is =
      let array = is_heap_array heap v a found is in
      (array.element, length array.items, record { items = array.items; live = array_live v a array is; as_many = refl })

  -- as long as the store says
  pub as_long : (v : Value) (a : ℕ) (element : TypeRef) (count : ℕ) → (array : IsHeapArray heap v) → v ≡ Held.Obj a
      → IsArrayAt heaps h.domain a element count → (array.element ≡ element) × (length array.items ≡ count)
  as_long v a element count array is at =
      let same : Array array.element array.items ≡ Array element at.items =
      same_Some (Array array.element array.items) (Array element at.items) (sym (array_live v a array is) ∙ at.live) in
      (parts same, subst (λ (xs : List Value). length xs ≡ count) (sym (items same)) at.as_many)
    where
      parts : {e f : TypeRef} {xs ys : List Value} → Array e xs ≡ Array f ys → e ≡ f
      parts p = cc

      items : {e f : TypeRef} {xs ys : List Value} → Array e xs ≡ Array f ys → xs ≡ ys
      items p = cc

-- what the shape of an array says
pub shape_told : (c : HeapContent) (d : DomainId) (a : ℕ) (t u : TypeRef) (m n : ℕ) → (at : IsArrayAt c d a t m)
    → Of.Array u n ≡ Of.Array t (length at.items) → IsArrayAt c d a u n
shape_told c d a t u m n at same = record {
  items = at.items;
  live = subst (λ (e : TypeRef). IsLive c d a (Array e at.items)) (sym (element same)) at.live;
  as_many = sym (count same);
}
  where
    element : {e f : TypeRef} {j k : ℕ} → Of.Array e j ≡ Of.Array f k → e ≡ f
    element p = cc

    count : {e f : TypeRef} {j k : ℕ} → Of.Array e j ≡ Of.Array f k → j ≡ k
    count p = cc
