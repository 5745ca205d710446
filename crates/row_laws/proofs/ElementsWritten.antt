-- Stores of elements keep what is kept: the value that is stored is of the array's element type.
use Rattle.std.proofs.Common.{inl, inr, ◌≡◌, ◌⊎◌, ℕ, zero, suc, ◌+◌, ◌<◌, ◌≤◌, IsTrue, not, ℤ, set, List, [], ◌∷◌, refl, sym, ap, subst, ◌∙◌, arith}
use Rattle.std.specs.List.{AllByRecursion}
use Rattle.std.proofs.lemmas.List.{length-set}
use Rattle.std.proofs.lemmas.Option.{same_Some}
use Rattle.list_lemmas.proofs.ItemsOfLists.{each-weaker}
use Rattle.jk_model.specs.declared.opcodes.TheConstants.{AASTORE}
use Rattle.jk_model.specs.declared.values.Value.{Value}
use Rattle.jk_model.specs.declared.values.Value.TheVariants as Held
use Rattle.jk_model_classes.specs.declared.records.BaseRef.{BaseRef}
use Rattle.jk_model_classes.specs.declared.records.BaseRef.TheVariants as Base
use Rattle.jk_model_classes.specs.declared.records.ClassRecord.{ClassRecord}
use Rattle.jk_model_classes.specs.declared.records.TypeRef.{TypeRef}
use Rattle.jk_model_classes.specs.Classes.{AreOrdered}
use Rattle.jk_model_typing.specs.declared.frames.Demand.{Demand}
use Rattle.jk_model_typing.specs.declared.frames.Demand.TheVariants.{Fitting, FittingEither, Reference, ReferenceArray}
use Rattle.jk_model_typing.specs.declared.frames.VType.{VType}
use Rattle.jk_model_typing.specs.declared.frames.VType.TheVariants.{Unusable, Int, Long, Null, Ref, Fresh, FreshThis}
use Rattle.jk_model_typing.specs.FrameTypes.{IsClassBelow, RefFits, array_type, value_of}
use Rattle.jk_model_typing.specs.Groups.{Takes}
use Rattle.jk_model_typing.specs.Rows.{IsClass, IsReferenceArray}
use Rattle.jk_model_typing.specs.Scopes.{CodeScope}
use Rattle.jk_model_typing.specs.Typing.{leaves_line}
use Rattle.jk_model_domains.specs.Objects.{NamedObject, Object, Array, type_of}
use Rattle.jk_model_domains.specs.ValueTypes.{HoldsDeclared, ValueFits}
use Rattle.jk_model_heaps.specs.Heaps.{IsAlike, IsGrown, with_object}
use Rattle.jk_model_heaps.specs.Instances.{IsInstance}
use Rattle.jk_model_heaps.specs.References.{IsHeapArray, IsNullOrInstance}
use Rattle.jk_model_heaps.specs.RunningCode.{RunsCode}
use Rattle.jk_model_heaps.specs.StoredValues.{stored}
use Rattle.jk_model_heaps.specs.Workings.{GoesOnWith, Inside, Outcome, Setting, Working, with_heap}
use Rattle.jk_model_heap_rows.specs.ElementRows.{StoresElement, with_item}
use Rattle.jk_model_sealing.specs.SealedInsides.{IsSealedInside, Surroundings}
use Rattle.heap_laws.proofs.GrownHeaps.{writing_grows}
use Rattle.heap_laws.proofs.StillFits.{declared_held, value_known}
use Rattle.heap_laws.specs.FittingOutcomes.{IsOfType}
use Rattle.heap_laws.specs.KeptInsides.{KeepsInside}
use Rattle.heap_laws.specs.RunningFrames.{RunsWell}
use Rattle.row_laws.specs.Operands.{ValueMeets}
use Rattle.row_laws.proofs.ElementsOfArrays.{dims_fit, null_only}
use Rattle.row_laws.proofs.InstancesFitTypes.{instance_held}
use Rattle.row_laws.proofs.NamesStayKnown.{taken-known}
use Rattle.row_laws.proofs.ArraysByType.{array_there, bytes_fit, numbers_fit, store_by}
use Rattle.row_laws.proofs.HeapFramesLeft.{Keeps, fresh_raised, in_line, met, met_declared, shape_at, took, typed}
use Rattle.row_laws.proofs.InsidesWritten.{stored_fits, written_keeps}

-- ---- An array with another item at a place.

each_set : {X : Type 0} (P : X → Type 0) (ys : List X) (n : ℕ) (y : X) → AllByRecursion P ys → P y → AllByRecursion P (set ys n y)
each_set P [] n y h k = tt
each_set P (z ∷ ys) zero y h k = (k, h.1)
each_set P (z ∷ ys) (suc n) y h k = (h.0, each_set P ys n y h.1 k)

module _ (around : Surroundings) (x : Setting) (inside : Inside) (sealed : IsSealedInside around x.quota inside) (v : Value)
    (a : IsHeapArray inside.heap v) (place : ℕ) (u : Value) (fits : IsOfType around inside.heap a.element u) where
  abbrev items : List Value
  items = set a.items place u

  abbrev heap_then : List NamedObject
  heap_then = with_object a.name (Array a.element items) inside.heap

  alike : IsAlike (Array a.element a.items) (Array a.element items)
  alike = (refl, sym (length-set a.items place u))

  grows : IsGrown inside.heap heap_then
  grows = writing_grows inside.heap a.name (Array a.element a.items) (Array a.element items) a.object alike

  still : (y : Value) → IsOfType around inside.heap a.element y → IsOfType around heap_then a.element y
  still y h =
      (declared_held inside.heap heap_then grows around.classes y a.element h.0, value_known inside.heap heap_then grows around.caps y h.1)

  pub item_put_keeps : KeepsInside around x inside (with_heap inside heap_then)
  item_put_keeps =
      let was = array_there around x.quota inside sealed v a in
      let each = each-weaker (λ (y : Value). IsOfType around inside.heap a.element y) (λ (y : Value). IsOfType around heap_then a.element y) still
      a.items was.2 in
      written_keeps around x inside a.name (Array a.element a.items) (Array a.element items) sealed a.object alike
      (was.0, was.1, each_set (λ (y : Value). IsOfType around heap_then a.element y) a.items place u each (still u fits)) (λ n e. absurd cc)

-- ---- Null is held in arrays of references.

module _ (classes : List ClassRecord) where
  null_held : (heap : List NamedObject) (dims : ℕ) (base : BaseRef) → (1 ≤ dims) ⊎ IsClass base
      → HoldsDeclared classes heap Held.Null (array_type dims base)
  null_held heap zero (Base.Class c) r = tt
  null_held heap (suc dims) base r = tt
  null_held heap zero base (inl some) = absurd (omega (arith, some))
  null_held heap zero base (inr class) = absurd class

  class_under : (a b : BaseRef) → IsClassBelow classes a b → IsClass a
  class_under (Base.Class c) (Base.Class d) h = tt
  class_under a b h = absurd h

  -- an array that fits where an array of references may stand is one
  items_are_references : (e t : TypeRef) → (1 < t.dims) ⊎ ((t.dims ≡ 1) × IsClass t.base) → RefFits classes (array_type (e.dims + 1) e.base) t
      → (1 ≤ e.dims) ⊎ IsClass e.base
  items_are_references e t (inl more) fits = inl (omega (arith, more, dims_fit classes (array_type (e.dims + 1) e.base) t fits))
  items_are_references e t (inr (one, class)) (inl same) = inr (subst IsClass (sym (ap (λ (y : TypeRef). y.base) same)) class)
  items_are_references e t (inr (one, class)) (inr (inl (dims, below))) = inr (class_under e.base t.base below)
  items_are_references e t (inr (one, class)) (inr (inr (lower, object))) = inl (omega (arith, one, lower))

module _ (s : CodeScope) (heap : List NamedObject) where
  -- what an array holds where the type says that its items are references
  null_here : (v : Value) (t : VType) → IsReferenceArray t → ValueFits s heap v t → (a : IsHeapArray heap v)
      → HoldsDeclared s.classes heap Held.Null a.element
  null_here v Null k fits a = (let null : Held.Null ≡ Held.Obj a.name = sym (null_only s heap v fits) ∙ a.refers in absurd cc)
  null_here v (Ref t) k fits a =
      let here = subst (λ (y : Value). ValueFits s heap y (Ref t)) a.refers fits in
      let same : here.0 ≡ Array a.element a.items = same_Some here.0 (Array a.element a.items) (sym here.1 ∙ a.object) in
      let below = subst (λ (o : Object). RefFits s.classes (type_of o) t) same here.2 in
      null_held s.classes heap a.element.dims a.element.base (items_are_references s.classes a.element t k below)
  null_here v Unusable k fits a = absurd k
  null_here v Int k fits a = absurd k
  null_here v Long k fits a = absurd k
  null_here v (Fresh p) k fits a = absurd k
  null_here v FreshThis k fits a = absurd k

-- ---- The rows.

module _ (around : Surroundings) (x : Setting) (w new : Working) (outcome : Outcome) (runs : RunsWell around x w)
    (code : RunsCode around.classes w.frame) where
  ordered_here : AreOrdered code.scope.classes
  ordered_here = subst AreOrdered (sym code.is_scope.all) runs.setting.codes.ordered

  module _ (v u : Value) (index : ℤ) (a : IsHeapArray w.inside.heap v) (place : ℕ)
      (goes : GoesOnWith w (v ∷ Held.Int index ∷ u ∷ []) [] (with_heap w.inside (with_item a place (stored a.element u))) new outcome) where
    -- of a value that the array may hold, as the demands tell
    told_stored : (op : ℕ) → code.instr.op ≡ op → IsTrue (not (leaves_line op)) → (d e : Demand)
        → (typed around x w runs code).typed.row.shape ≡ Takes (d ∷ Fitting Int ∷ e ∷ []) []
        → (ValueMeets code.scope w.inside.heap d v → ValueMeets code.scope w.inside.heap e u → HoldsDeclared around.classes w.inside.heap u a.element)
        → Keeps around x w runs code new outcome
    told_stored op is stays d e takes tells =
        let meet = met around x w runs code (d ∷ Fitting Int ∷ e ∷ []) [] takes (v ∷ Held.Int index ∷ u ∷ [])
        (goes.replaced.below, goes.replaced.before) refl in
        let known = taken-known around.caps w.inside.heap w.frame new.frame (v ∷ Held.Int index ∷ u ∷ []) [] runs.known goes.replaced in
        let held : IsOfType around w.inside.heap a.element u = (tells meet.0 meet.1.1.0, known.1.1.0) in
        let kept = item_put_keeps around x w.inside runs.inside v a place (stored a.element u) (stored_fits around w.inside.heap a.element u held) in
        took around x w runs code (d ∷ Fitting Int ∷ e ∷ []) [] takes (v ∷ Held.Int index ∷ u ∷ []) []
        (with_heap w.inside (with_item a place (stored a.element u))) new outcome goes (in_line code.instr op is stays) refl kept
        (λ c. refl) tt tt

    -- a value of such numbers
    number_held : (base : BaseRef) → a.element ≡ array_type 0 base
        → ValueMeets code.scope w.inside.heap (Fitting (value_of code.scope.classes (array_type 0 base))) u
        → HoldsDeclared around.classes w.inside.heap u a.element
    number_held base is meet =
        subst (HoldsDeclared around.classes w.inside.heap u) (sym is) (met_declared around x w runs code u (array_type 0 base) meet)

    numbers_stored : (op : ℕ) → code.instr.op ≡ op → IsTrue (not (leaves_line op)) → (base : BaseRef) → (IsClass base → ⊥)
        → (typed around x w runs code).typed.row.shape
        ≡ Takes (Fitting (Ref (array_type 1 base)) ∷ Fitting Int ∷ Fitting (value_of code.scope.classes (array_type 0 base)) ∷ []) []
        → Keeps around x w runs code new outcome
    numbers_stored op is stays base none takes =
        told_stored op is stays (Fitting (Ref (array_type 1 base))) (Fitting (value_of code.scope.classes (array_type 0 base))) takes
        (λ array value. number_held base (numbers_fit code.scope w.inside.heap ordered_here v a base none array) value)

    bytes_stored : code.instr.op ≡ 0x54 → Keeps around x w runs code new outcome
    bytes_stored is =
        told_stored 0x54 is refl (FittingEither (Ref (array_type 1 Base.Byte)) (Ref (array_type 1 Base.Bool))) (Fitting Int)
        (shape_at around x w runs code 0x54 is)
        (λ array value. elim (bytes_fit code.scope w.inside.heap ordered_here v a array) [
          | inl byte ↦ number_held Base.Byte byte value
          | inr bool ↦ number_held Base.Bool bool value
        ])

    instance_here : ValueMeets code.scope w.inside.heap ReferenceArray v → IsNullOrInstance x w.inside.heap u a.element
        → HoldsDeclared around.classes w.inside.heap u a.element
    instance_here (t, meets, fits) (inl null) =
        let held = null_here code.scope w.inside.heap v t meets fits a in
        subst (λ (y : Value). HoldsDeclared around.classes w.inside.heap y a.element) (sym null)
        (subst (λ (classes : List ClassRecord). HoldsDeclared classes w.inside.heap Held.Null a.element) code.is_scope.all held)
    instance_here meet (inr is) =
        instance_held around.classes runs.setting.codes x.caps w.inside.heap u a.element runs.setting.stand_ins
        (subst (λ (classes : List ClassRecord). IsInstance classes x.caps w.inside.heap u a.element) runs.setting.classes is)

    references_stored : code.instr.op ≡ 0x53 → (code.instr.op ≡ AASTORE → IsNullOrInstance x w.inside.heap u a.element)
        → Keeps around x w runs code new outcome
    references_stored is fits =
        told_stored 0x53 is refl ReferenceArray Reference (shape_at around x w runs code 0x53 is) (λ array value. instance_here array (fits is))

  pub store_keeps : StoresElement x code.instr w new outcome → Keeps around x w runs code new outcome
  store_keeps h = elim h.does [
    | inl (null, raises) ↦ fresh_raised around x w runs code 26 9 new outcome (omega arith) refl raises
    | inr (inl (a, (none, raises))) ↦ fresh_raised around x w runs code 30 9 new outcome (omega arith) refl raises
    | inr (inr (inl (a, place, is, op, fails, raises))) ↦ fresh_raised around x w runs code 20 9 new outcome (omega arith) refl raises
    | inr (inr (inr (a, place, is, fits, goes))) ↦
        store_by (Keeps around x w runs code new outcome) code.instr.op h.op
        (λ op. numbers_stored h.array h.value h.index a place goes 0x4f op refl Base.Int (λ c. c) (shape_at around x w runs code 0x4f op))
        (λ op. numbers_stored h.array h.value h.index a place goes 0x50 op refl Base.Long (λ c. c) (shape_at around x w runs code 0x50 op))
        (λ op. references_stored h.array h.value h.index a place goes op fits)
        (bytes_stored h.array h.value h.index a place goes)
        (λ op. numbers_stored h.array h.value h.index a place goes 0x55 op refl Base.Char (λ c. c) (shape_at around x w runs code 0x55 op))
        (λ op. numbers_stored h.array h.value h.index a place goes 0x56 op refl Base.Short (λ c. c) (shape_at around x w runs code 0x56 op))
  ]
