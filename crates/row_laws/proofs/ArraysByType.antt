-- What typing says of an array tells what its elements are; and the opcodes of loads and stores of elements, one by one.
use Rattle.std.proofs.Common.{inl, inr, ◌≡◌, ◌⊎◌, ℕ, ◌+◌, ◌==◌, ◌||◌, Bool, IsTrue, List, Some, slice_get, sym, ap, subst, ◌∙◌, arith}
use Rattle.std.proofs.lemmas.Bool.{eqb-true, or_cases}
use Rattle.std.proofs.lemmas.Option.{same_Some}
use Rattle.jk_model.specs.declared.values.Value.{Value}
use Rattle.jk_model.proofs.EachItem.{all_at}
use Rattle.jk_model_classes.specs.declared.records.BaseRef.{BaseRef}
use Rattle.jk_model_classes.specs.declared.records.BaseRef.TheVariants as Base
use Rattle.jk_model_classes.specs.declared.records.ClassRecord.{ClassRecord}
use Rattle.jk_model_classes.specs.declared.records.TypeRef.{TypeRef}
use Rattle.jk_model_classes.specs.Classes.{AreOrdered}
use Rattle.jk_model_typing.specs.declared.frames.Demand.TheVariants.{Fitting, FittingEither}
use Rattle.jk_model_typing.specs.declared.frames.VType.TheVariants.{Ref}
use Rattle.jk_model_typing.specs.FrameTypes.{IsClassBelow, RefFits, array_type}
use Rattle.jk_model_typing.specs.Rows.{IsClass}
use Rattle.jk_model_typing.specs.Scopes.{CodeScope}
use Rattle.jk_model_domains.specs.Objects.{NamedObject, Object, Array, type_of}
use Rattle.jk_model_domains.specs.ValueTypes.{ValueFits}
use Rattle.jk_model_heaps.specs.Heaps.{named}
use Rattle.jk_model_heaps.specs.References.{IsHeapArray}
use Rattle.jk_model_heaps.specs.Workings.{Inside}
use Rattle.jk_model_heap_rows.specs.ElementRows.{is_element_load, is_element_store}
use Rattle.jk_model_sealing.specs.SealedInsides.{IsSealedInside, IsSealedObject, Surroundings}
use Rattle.heap_laws.proofs.ObjectsAfterChanges.{found_stands}
use Rattle.number_laws.proofs.ValuesAbove.{value-above}
use Rattle.heap_laws.specs.FittingOutcomes.{IsOfType}
use Rattle.row_laws.specs.Operands.{ValueMeets}

-- ---- Opcodes.

either : (P : Type 0) (op k : ℕ) (rest : Bool) → IsTrue (rest || op == k) → (IsTrue rest → P) → (op ≡ k → P) → P
either P op k rest h before here = elim (or_cases rest (op == k) h) [ inl others ↦ before others | inr last ↦ here (eqb-true op k last) ]

pub load_by : (P : Type 0) (op : ℕ) → IsTrue (is_element_load op) → (op ≡ 0x2e → P) → (op ≡ 0x2f → P) → (op ≡ 0x32 → P) → (op ≡ 0x33 → P)
    → (op ≡ 0x34 → P) → (op ≡ 0x35 → P) → P
load_by P op h ints longs references bytes chars shorts =
    either P op 0x35 _ h (λ h1. either P op 0x34 _ h1 (λ h2. either P op 0x33 _ h2 (λ h3. either P op 0x32 _ h3 (λ h4.
    either P op 0x2f _ h4 (λ h5. ints (eqb-true op 0x2e h5)) longs) references) bytes) chars) shorts

pub store_by : (P : Type 0) (op : ℕ) → IsTrue (is_element_store op) → (op ≡ 0x4f → P) → (op ≡ 0x50 → P) → (op ≡ 0x53 → P) → (op ≡ 0x54 → P)
    → (op ≡ 0x55 → P) → (op ≡ 0x56 → P) → P
store_by P op h ints longs references bytes chars shorts =
    either P op 0x56 _ h (λ h1. either P op 0x55 _ h1 (λ h2. either P op 0x54 _ h2 (λ h3. either P op 0x53 _ h3 (λ h4.
    either P op 0x50 _ h4 (λ h5. ints (eqb-true op 0x4f h5)) longs) references) bytes) chars) shorts

-- ---- Arrays of numbers.

module _ (classes : List ClassRecord) where
  class_above : (a b : BaseRef) → IsClassBelow classes a b → IsClass b
  class_above (Base.Class c) (Base.Class d) h = tt
  class_above a b h = absurd h

  -- an array that fits where an array of such numbers may stand is one
  numbers_by : (e : TypeRef) (base : BaseRef) → (IsClass base → ⊥) → RefFits classes (array_type (e.dims + 1) e.base) (array_type 1 base)
      → e ≡ array_type 0 base
  numbers_by e base none (inl same) =
      let dims : e.dims + 1 ≡ 1 = ap (λ (t : TypeRef). t.dims) same in
      let zero : e.dims ≡ 0 = omega (arith, dims) in
      let of_base : e.base ≡ base = ap (λ (t : TypeRef). t.base) same in
      ap (λ (n : ℕ). array_type n e.base) zero ∙ ap (array_type 0) of_base
  numbers_by e base none (inr (inl (dims, below))) = absurd (none (class_above e.base base below))
  numbers_by e base none (inr (inr (lower, object))) = absurd (none (subst IsClass (sym object) tt))

module _ (s : CodeScope) (heap : List NamedObject) (ordered : AreOrdered s.classes) where
  pub numbers_fit : (v : Value) (a : IsHeapArray heap v) (base : BaseRef) → (IsClass base → ⊥)
      → ValueMeets s heap (Fitting (Ref (array_type 1 base))) v → a.element ≡ array_type 0 base
  numbers_fit v a base none (t, meets, fits) =
      let above = value-above s heap ordered v t (Ref (array_type 1 base)) fits meets in
      let here = subst (λ (y : Value). ValueFits s heap y (Ref (array_type 1 base))) a.refers above in
      let same : here.0 ≡ Array a.element a.items = same_Some here.0 (Array a.element a.items) (sym here.1 ∙ a.object) in
      numbers_by s.classes a.element base none (subst (λ (o : Object). RefFits s.classes (type_of o) (array_type 1 base)) same here.2)

  -- of bytes, or of booleans
  pub bytes_fit : (v : Value) (a : IsHeapArray heap v)
      → ValueMeets s heap (FittingEither (Ref (array_type 1 Base.Byte)) (Ref (array_type 1 Base.Bool))) v
      → (a.element ≡ array_type 0 Base.Byte) ⊎ (a.element ≡ array_type 0 Base.Bool)
  bytes_fit v a (t, inl meets, fits) = inl (numbers_fit v a Base.Byte (λ h. h) (t, meets, fits))
  bytes_fit v a (t, inr meets, fits) = inr (numbers_fit v a Base.Bool (λ h. h) (t, meets, fits))

-- ---- Items.

module _ (around : Surroundings) (quota : ℕ) (inside : Inside) (sealed : IsSealedInside around quota inside) (v : Value)
    (a : IsHeapArray inside.heap v) where
  pub array_there : IsSealedObject around inside.heap (Array a.element a.items)
  array_there = sealed.objects (named a.name (Array a.element a.items)) (found_stands a.name (Array a.element a.items) inside.heap a.object)

  pub item_held : (place : ℕ) (item : Value) → slice_get a.items place ≡ Some item → IsOfType around inside.heap a.element item
  item_held place item at = all_at (λ (y : Value). IsOfType around inside.heap a.element y) a.items place item array_there.2 at
