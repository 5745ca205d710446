-- An array and an index are on top of the stack where typing says so, and each item of the array fits where it is put in their place.
use Rattle.std.proofs.Common.{inl, inr, ◌≡◌, ◌⊎◌, ℕ, zero, suc, ◌+◌, ◌-◌, ◌<◌, ◌≤◌, ℤ, Bool, true, false, List, [], ◌∷◌, ◌++◌, Option, Some, None, refl, sym, ap, subst, ◌∙◌, arith}
use Rattle.std.specs.Prelude.{if◌then◌else◌, IsTrue}
use Rattle.std.specs.List.{AllByRecursion}
use Rattle.std.specs.Option.{option_map_or}
use Rattle.std.proofs.lemmas.Option.{same_Some}
use Rattle.jk_model.specs.Flags.{has, INTERFACE}
use Rattle.jk_model.specs.declared.identifiers.ClassId.{ClassId}
use Rattle.jk_model.specs.declared.instructions.Instr.{Instr}
use Rattle.jk_model.specs.declared.values.Value.{Value}
use Rattle.jk_model.specs.declared.values.Value.TheVariants as Held
use Rattle.jk_model_classes.specs.declared.records.BaseRef.{BaseRef}
use Rattle.jk_model_classes.specs.declared.records.BaseRef.TheVariants as Base
use Rattle.jk_model_classes.specs.declared.records.ClassRecord.{ClassRecord}
use Rattle.jk_model_classes.specs.declared.records.TypeRef.{TypeRef}
use Rattle.jk_model_classes.specs.Classes.{IsInterface, IsSubclass, OBJECT, is_interface_record, parents_of, record_of}
use Rattle.jk_model_typing.specs.declared.frames.FrameType.{FrameType}
use Rattle.jk_model_typing.specs.declared.frames.VType.{VType}
use Rattle.jk_model_typing.specs.declared.frames.VType.TheVariants.{Unusable, Int, Long, Null, Ref, Fresh, FreshThis}
use Rattle.jk_model_typing.specs.FrameTypes.{IsClassBelow, RefFits, array_type, erased, erased_base, erased_class}
use Rattle.jk_model_typing.specs.Groups.{LoadsElement}
use Rattle.jk_model_typing.specs.Rows.{IsClass, IsReferenceArray, element}
use Rattle.jk_model_typing.specs.Scopes.{CodeScope}
use Rattle.jk_model_frames.specs.Frames.{FrameState}
use Rattle.jk_model_domains.specs.NumberRows.{IsOnTop, Replaces}
use Rattle.jk_model_domains.specs.Objects.{NamedObject, Object, Array, Plain, Task, Text, CAPABILITY, class_type, object_named, type_of}
use Rattle.jk_model_domains.specs.ValueTypes.{EachValueFits, FrameHolds, HoldsDeclared, ValueFits}
use Rattle.jk_model_heaps.specs.References.{IsHeapArray}
use Rattle.class_table.proofs.StandingAbove.{superclasses-cases}
use Rattle.number_laws.proofs.ValuesAbove.{ref-above}
use Rattle.erased_typings.specs.ErasedFrames.{IsErasedBase, IsErasedFrame, IsErasedType}
use Rattle.number_laws.specs.FrameLaws.{IsTyped}
use Rattle.number_laws.proofs.EntriesExchanged.{exchange_kept}
use Rattle.number_laws.proofs.ValuesFit.{end_fits, int_fits}
use Rattle.heap_laws.specs.SoundCodes.{AreSoundCodes}
use Rattle.row_laws.proofs.OperandsOnTop.{does_shape}

-- ---- Arrays by their types.

-- what fits a type has no fewer dimensions
pub dims_fit : (classes : List ClassRecord) (a b : TypeRef) → RefFits classes a b → b.dims ≤ a.dims
dims_fit classes a b (inl same) = let dims : a.dims ≡ b.dims = ap (λ (t : TypeRef). t.dims) same in omega (arith, dims)
dims_fit classes a b (inr (inl (dims, below))) = omega (arith, dims)
dims_fit classes a b (inr (inr (lower, above))) = omega (arith, lower)

pub some_dims : (t : TypeRef) → (1 < t.dims) ⊎ ((t.dims ≡ 1) × IsClass t.base) → 1 ≤ t.dims
some_dims t (inl more) = omega (arith, more)
some_dims t (inr (one, class)) = omega (arith, one)

module _ (s : CodeScope) (heap : List NamedObject) where
  two : (vs : List Value) (t u : VType) → EachValueFits s heap vs (t ∷ u ∷ [])
      → (v : Value) × (w : Value) × (vs ≡ v ∷ w ∷ []) × ValueFits s heap v t × ValueFits s heap w u
  two [] t u h = absurd h
  two (v ∷ []) t u h = absurd h.1
  two (v ∷ w ∷ []) t u h = (v, w, refl, h.0, h.1.0)
  two (v ∷ w ∷ x ∷ vs) t u h = absurd h.1.1

  object_array : (a : ℕ) (o : Object) (t : TypeRef) → 1 ≤ t.dims → object_named heap a ≡ Some o → RefFits s.classes (type_of o) t
      → IsHeapArray heap (Held.Obj a)
  object_array a (Array e items) t some is fits = record { name = a; refers = refl; element = e; items = items; object = is }
  object_array a (Plain c fields) t some is fits = absurd (omega (arith, some, dims_fit s.classes (type_of (Plain c fields)) t fits))
  object_array a (Text units) t some is fits = absurd (omega (arith, some, dims_fit s.classes (type_of (Text units)) t fits))
  object_array a (Task n) t some is fits = absurd (omega (arith, some, dims_fit s.classes (type_of (Task n)) t fits))

  pub ref_array : (v : Value) (t : TypeRef) → 1 ≤ t.dims → ValueFits s heap v (Ref t) → (v ≡ Held.Null) ⊎ IsHeapArray heap v
  ref_array (Held.Int n) t some h = absurd h
  ref_array (Held.Long n) t some h = absurd h
  ref_array Held.Null t some h = inl refl
  ref_array (Held.Obj a) t some (o, is, fits) = inr (object_array a o t some is fits)
  ref_array (Held.Cap k) t some h = absurd (omega (arith, some, dims_fit s.classes (class_type CAPABILITY) t h))
  ref_array Held.Unset t some h = absurd h

  pub null_only : (v : Value) → ValueFits s heap v Null → v ≡ Held.Null
  null_only (Held.Int n) h = absurd h
  null_only (Held.Long n) h = absurd h
  null_only Held.Null h = refl
  null_only (Held.Obj a) h = absurd h.2
  null_only (Held.Cap k) h = absurd h
  null_only Held.Unset h = absurd h

  pub array_or_null : (v : Value) (t : VType) → IsReferenceArray t → ValueFits s heap v t → (v ≡ Held.Null) ⊎ IsHeapArray heap v
  array_or_null v Null k h = inl (null_only v h)
  array_or_null v (Ref t) k h = ref_array v t (some_dims t k) h
  array_or_null v Unusable k h = absurd k
  array_or_null v Int k h = absurd k
  array_or_null v Long k h = absurd k
  array_or_null v (Fresh p) k h = absurd k
  array_or_null v FreshThis k h = absurd k

pub elements_found : (s : CodeScope) (heap : List NamedObject) (place : ℕ) (i : Instr) (f : FrameState) (before after : FrameType)
    → (typed : IsTyped s heap place i f before after) → typed.row.shape ≡ LoadsElement
    → (array : Value) × (index : ℤ) × IsOnTop f (array ∷ Held.Int index ∷ []) × ((array ≡ Held.Null) ⊎ IsHeapArray heap array)
elements_found s heap place i f before after typed shape =
    let does = does_shape s heap place i f before after LoadsElement typed shape in
    let split = end_fits s heap f.stack does.0 (does.1 ∷ Int ∷ []) (subst (EachValueFits s heap f.stack) does.2 typed.holds.stack) in
    let both = two s heap split.back does.1 Int split.back_fits in
    let index = int_fits s heap both.1 both.4 in
    let top : split.back ≡ both.0 ∷ Held.Int index.0 ∷ [] = both.2 ∙ ap (λ (w : Value). both.0 ∷ w ∷ []) index.1 in (
      both.0,
      index.0,
      (split.front, split.whole ∙ ap (λ (vs : List Value). split.front ++ vs) top),
      array_or_null s heap both.0 does.1 does.3 both.3,
    )

-- ---- Elements by the type of their array.

module _ (classes : List ClassRecord) (sound : AreSoundCodes classes) where
  -- a class below another one is below it as it is read, too, unless that is an interface
  above_interface : (c d : ClassId) (r : ClassRecord) → record_of classes c ≡ Some r → IsTrue (has r.flags INTERFACE)
      → (IsInterface classes d → ⊥) → IsSubclass classes c d → IsSubclass classes OBJECT d
  above_interface c d r is flagged none below = elim (superclasses-cases classes sound.ordered c d below) [
    | inl same ↦ absurd (none (subst (IsInterface classes) same (r, is, flagged)))
    | inr (p, only, above) ↦
        let parents : parents_of classes c ≡ OBJECT ∷ [] =
        ap (λ (o : Option ClassRecord). option_map_or (λ (x : ClassRecord). option_map_or (λ q. q ∷ []) x.parent []) o []) is
        ∙ ap (λ (o : Option ClassId). option_map_or (λ q. q ∷ []) o []) (sound.interface_parents c r is flagged) in
        let one : p ∷ [] ≡ OBJECT ∷ [] = sym only ∙ parents in
        let object : p ≡ OBJECT = cc in
        subst (λ (x : ClassId). IsSubclass classes x d) object above
  ]

  found_flag : (o : Option ClassRecord) → is_interface_record o ≡ true → (r : ClassRecord) × (o ≡ Some r) × IsTrue (has r.flags INTERFACE)
  found_flag None e = absurd cc
  found_flag (Some r) e = (r, refl, e)

  pub read_below : (c d : ClassId) (b : Bool) → is_interface_record (record_of classes c) ≡ b → (IsInterface classes d → ⊥)
      → IsSubclass classes c d → IsSubclass classes (if b then OBJECT else c) d
  read_below c d true e none below = let r = found_flag (record_of classes c) e in above_interface c d r.0 r.1 r.2 none below
  read_below c d false e none below = below

  base_below : (a b : BaseRef) → IsErasedBase classes b → IsClassBelow classes a b → IsClassBelow classes (erased_base classes a) b
  base_below (Base.Class c) (Base.Class d) none below = read_below c d (is_interface_record (record_of classes c)) refl none below
  base_below a b none below = absurd below

  -- a type that is read already is read as itself
  read_again : (base : BaseRef) → IsErasedBase classes base → erased_base classes base ≡ base
  read_again (Base.Class c) none = by_flag (is_interface_record (record_of classes c)) refl
    where
      by_flag : (b : Bool) → is_interface_record (record_of classes c) ≡ b → Base.Class (erased_class classes c) ≡ Base.Class c
      by_flag true e = let r = found_flag (record_of classes c) e in absurd (none (r.0, r.1, r.2))
      by_flag false e = ap (λ (b : Bool). Base.Class (if b then OBJECT else c)) e
  read_again base none = refl

  -- what an array has inside fits the element type where the array fits
  inside_fits : (dims : ℕ) (base : BaseRef) (t : TypeRef) → 1 ≤ t.dims → IsErasedBase classes t.base
      → RefFits classes (array_type (dims + 1) base) t → RefFits classes (array_type dims (erased_base classes base)) (array_type (t.dims - 1) t.base)
  inside_fits dims base t some none (inl same) =
      let of_base : base ≡ t.base = ap (λ (u : TypeRef). u.base) same in
      let of_dims : dims + 1 ≡ t.dims = ap (λ (u : TypeRef). u.dims) same in
      let count : dims ≡ t.dims - 1 = omega (arith, of_dims) in
      let read : erased_base classes base ≡ t.base = ap (erased_base classes) of_base ∙ read_again t.base none in
      inl (ap (λ (n : ℕ). array_type n (erased_base classes base)) count ∙ ap (array_type (t.dims - 1)) read)
  inside_fits dims base t some none (inr (inl (count, below))) = inr (inl (omega (arith, count), base_below base t.base none below))
  inside_fits dims base t some none (inr (inr (lower, object))) = inr (inr (omega (arith, lower, some), object))

module _ (s : CodeScope) (heap : List NamedObject) (sound : AreSoundCodes s.classes) where
  -- a value that is held where a reference is declared
  held_reference : (v : Value) (dims : ℕ) (base : BaseRef) → (1 ≤ dims) ⊎ IsClass base → HoldsDeclared s.classes heap v (array_type dims base)
      → ValueFits s heap v (Ref (erased s.classes (array_type dims base)))
  held_reference (Held.Int n) zero (Base.Class c) r h = absurd h
  held_reference (Held.Int n) (suc dims) base r h = absurd h
  held_reference (Held.Long n) zero (Base.Class c) r h = absurd h
  held_reference (Held.Long n) (suc dims) base r h = absurd h
  held_reference Held.Null dims base r h = tt
  held_reference (Held.Obj a) zero (Base.Class c) r h = h
  held_reference (Held.Obj a) (suc dims) base r h = h
  held_reference (Held.Cap k) zero (Base.Class c) r h = h
  held_reference (Held.Cap k) (suc dims) base r h = h
  held_reference Held.Unset zero (Base.Class c) r h = absurd h
  held_reference Held.Unset (suc dims) base r h = absurd h
  held_reference v zero base (inl some) h = absurd (omega (arith, some))
  held_reference v zero base (inr class) h = absurd class

  -- an array of references is of references
  of_references : (dims : ℕ) (base : BaseRef) (t : TypeRef) → (1 < t.dims) ⊎ ((t.dims ≡ 1) × IsClass t.base)
      → RefFits s.classes (array_type (dims + 1) base) t → (1 ≤ dims) ⊎ IsClass base
  of_references (suc dims) base t k fits = inl (omega arith)
  of_references zero base t (inl more) fits = absurd (omega (arith, more, dims_fit s.classes (array_type 1 base) t fits))
  of_references zero base t (inr (one, class)) (inl same) = inr (subst IsClass (sym (ap (λ (u : TypeRef). u.base) same)) class)
  of_references zero base t (inr (one, class)) (inr (inl (dims, below))) = inr (class_below base t.base below)
    where
      class_below : (a b : BaseRef) → IsClassBelow s.classes a b → IsClass a
      class_below (Base.Class c) (Base.Class d) h = tt
      class_below a b h = absurd h
  of_references zero base t (inr (one, class)) (inr (inr (lower, object))) = absurd (omega (arith, one, lower))

  item_fits : (v item : Value) (t : TypeRef) → IsErasedBase s.classes t.base → (1 < t.dims) ⊎ ((t.dims ≡ 1) × IsClass t.base)
      → (a : IsHeapArray heap v) → ValueFits s heap v (Ref t) → HoldsDeclared s.classes heap item a.element
      → ValueFits s heap item (Ref (array_type (t.dims - 1) t.base))
  item_fits v item t none k a fits held =
      let here = subst (λ (x : Value). ValueFits s heap x (Ref t)) a.refers fits in
      let same : here.0 ≡ Array a.element a.items = same_Some here.0 (Array a.element a.items) (sym here.1 ∙ a.object) in
      let of_array : RefFits s.classes (array_type (a.element.dims + 1) a.element.base) t =
      subst (λ (o : Object). RefFits s.classes (type_of o) t) same here.2 in
      ref-above s heap sound.ordered item (erased s.classes a.element) (array_type (t.dims - 1) t.base)
      (held_reference item a.element.dims a.element.base (of_references a.element.dims a.element.base t k of_array) held)
      (inside_fits s.classes sound a.element.dims a.element.base t (some_dims t k) none of_array)

  element_fits : (v item : Value) (t : VType) → IsErasedType s.classes t → IsReferenceArray t → (a : IsHeapArray heap v) → ValueFits s heap v t
      → HoldsDeclared s.classes heap item a.element → ValueFits s heap item (element t)
  element_fits v item Null none k a fits held = (let null : Held.Null ≡ Held.Obj a.name = sym (null_only s heap v fits) ∙ a.refers in absurd cc)
  element_fits v item (Ref t) none k a fits held = item_fits v item t none k a fits held
  element_fits v item Unusable none k a fits held = absurd k
  element_fits v item Int none k a fits held = absurd k
  element_fits v item Long none k a fits held = absurd k
  element_fits v item (Fresh p) none k a fits held = absurd k
  element_fits v item FreshThis none k a fits held = absurd k

-- the type of an entry
erased_in : (classes : List ClassRecord) (low high : List VType) (t : VType) → AllByRecursion (IsErasedType classes) (low ++ t ∷ high)
    → IsErasedType classes t
erased_in classes [] high t h = h.0
erased_in classes (u ∷ low) high t h = erased_in classes low high t h.1

pub elements_fit : (s : CodeScope) (heap : List NamedObject) (place : ℕ) (i : Instr) (f g : FrameState) (before after : FrameType)
    (array item : Value) (index : ℤ) → AreSoundCodes s.classes → IsErasedFrame s.classes before
    → (typed : IsTyped s heap place i f before after) → typed.row.shape ≡ LoadsElement → (a : IsHeapArray heap array)
    → HoldsDeclared s.classes heap item a.element → Replaces f g (array ∷ Held.Int index ∷ []) (item ∷ []) → FrameHolds s heap g after
elements_fit s heap place i f g before after array item index sound read typed shape a held replaces =
    let does = does_shape s heap place i f before after LoadsElement typed shape in
    let none = erased_in s.classes does.0 (Int ∷ []) does.1 (subst (AllByRecursion (IsErasedType s.classes)) does.2 read.stack) in
    exchange_kept s heap place f g before after typed.holds does.0 (does.1 ∷ Int ∷ []) (element does.1 ∷ []) (array ∷ Held.Int index ∷ [])
    (item ∷ []) does.2 (ap (λ (t : FrameType). t.stack) does.4) (ap (λ (t : FrameType). t.locals) does.4) replaces refl
    (λ fits. (element_fits s heap sound array item does.1 none does.3 a fits.0 held, tt))
