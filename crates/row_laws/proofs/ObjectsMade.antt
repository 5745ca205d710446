-- New objects and arrays keep what is kept: what is made is sealed, and fits where it is pushed.
use Rattle.std.proofs.Common.{inl, inr, ◌≡◌, ℕ, ◌+◌, ◌==◌, ◌≤◌, ℤ, List, [], ◌∷◌, Some, refl, sym, ap, subst, ◌∙◌, arith}
use Rattle.std.specs.Prelude.{if◌then◌else◌, replicate}
use Rattle.list_lemmas.proofs.TestsAndOrders.{same_pos}
use Rattle.jk_model.specs.declared.values.Value.{Value}
use Rattle.jk_model.specs.declared.values.Value.TheVariants as Held
use Rattle.jk_model_classes.specs.declared.records.BaseRef.{BaseRef}
use Rattle.jk_model_classes.specs.declared.records.BaseRef.TheVariants as Base
use Rattle.jk_model_classes.specs.declared.records.Link.TheVariants as To
use Rattle.jk_model_classes.specs.declared.records.TypeRef.{TypeRef}
use Rattle.jk_model_classes.specs.Worlds.{NamedClass}
use Rattle.jk_model_typing.specs.declared.frames.Demand.TheVariants.{Fitting}
use Rattle.jk_model_typing.specs.declared.frames.VType.{VType}
use Rattle.jk_model_typing.specs.declared.frames.VType.TheVariants.{Int, Ref}
use Rattle.jk_model_typing.specs.FrameTypes.{array_type, of_type}
use Rattle.jk_model_typing.specs.Groups.{Takes}
use Rattle.jk_model_typing.specs.Rows.{IsCodeOf}
use Rattle.jk_model_domains.specs.Objects.{NamedObject, Array, object_named}
use Rattle.jk_model_domains.specs.OwnStates.{zero_of}
use Rattle.jk_model_domains.specs.ValueTypes.{ValueFits}
use Rattle.jk_model_heaps.specs.declared.shapes.Shape.TheVariants as Of
use Rattle.jk_model_heaps.specs.Heaps.{zero_fields}
use Rattle.jk_model_heaps.specs.RunningCode.{RunsCode}
use Rattle.jk_model_heaps.specs.Workings.{Outcome, Setting, Working, with_heap}
use Rattle.jk_model_heap_rows.specs.NewObjectRows.{MakesArray, MakesArrayOf, MakesObject, PushesNew}
use Rattle.jk_model_sealing.specs.SealedInsides.{IsNamedBase, Surroundings}
use Rattle.heap_laws.specs.RunningFrames.{RunsWell}
use Rattle.heap_laws.specs.SoundCodes.{AreSoundCodes}
use Rattle.row_laws.proofs.FreshObjects.{made_fit}
use Rattle.row_laws.proofs.InstancesFitTypes.{instance_fits}
use Rattle.typing_lemmas.proofs.OneScope.{one_link}
use Rattle.row_laws.proofs.ClassesToMake.{class_known, made_no_capability, made_no_remote, made_no_task, made_no_text, new_made, type_known}
use Rattle.row_laws.proofs.HeapFramesLeft.{Keeps, StaysInLine, fresh_raised, in_line, shape_at, took, typed, went_on}
use Rattle.row_laws.proofs.InsidesMade.{pushed_keeps}

-- ---- The codes of newarray.

abbrev base_coded : ℕ → BaseRef
base_coded n =
    if n == 4 then Base.Bool else
    if n == 5 then Base.Char else
    if n == 8 then Base.Byte else
    if n == 9 then Base.Short else
    if n == 10 then Base.Int else Base.Long

coded : (base : BaseRef) (n : ℕ) → IsCodeOf base n → base_coded n ≡ base
coded Base.Bool n is = ap base_coded is
coded Base.Char n is = ap base_coded is
coded Base.Byte n is = ap base_coded is
coded Base.Short n is = ap base_coded is
coded Base.Int n is = ap base_coded is
coded Base.Long n is = ap base_coded is
coded (Base.Class c) n is = absurd is

number_named : (table : List NamedClass) (base : BaseRef) (n : ℕ) → IsCodeOf base n → IsNamedBase table base
number_named table (Base.Class c) n is = absurd is
number_named table base n is = tt

module _ (around : Surroundings) (x : Setting) (w new : Working) (outcome : Outcome) (runs : RunsWell around x w)
    (code : RunsCode around.classes w.frame) where
  -- ---- new.

  pub object_keeps : MakesObject x code.scope code.instr w new outcome → Keeps around x w runs code new outcome
  object_keeps h =
      let is = shape_at around x w runs code 0xbb h.op in
      let made = new_made around x w runs code h.class h.op h.names in
      let sound = runs.setting.codes in
      pushed_keeps around x w new outcome runs code [] (Of.Plain h.class) (
        class_known around x w runs code h.class h.names,
        made_no_text around.classes sound h.class made,
        made_no_task around.classes sound h.class made,
        made_no_capability around.classes sound h.class made,
        made_no_remote around.classes sound h.class made,
      ) (λ n e. absurd cc)
      (λ a heap there kept goes.
      let t = typed around x w runs code in
      went_on around x w runs code [] (Held.Obj a ∷ []) (with_heap w.inside heap) new outcome goes (in_line code.instr 0xbb h.op refl) kept
      (λ c. refl) ((_, there), tt)
      (made_fit code.scope w.inside.heap heap w.frame.head.at code.instr w.frame new.frame t.before t.after h.class a t.typed is.2
      (code.instr, code.stands, h.op, h.names) kept.grown (zero_fields around.classes h.class, there) goes.replaced))
      h.does

  -- ---- Arrays.

  array_pushed : (element : TypeRef) (n : ℕ) (count : ℤ) (u : VType) → IsNamedBase around.table element.base → element.dims ≤ 254
      → StaysInLine code.instr → (typed around x w runs code).typed.row.shape ≡ Takes (Fitting Int ∷ []) (u ∷ [])
      → ((a : ℕ) (heap : List NamedObject) (items : List Value) → object_named heap a ≡ Some (Array element items)
      → ValueFits code.scope heap (Held.Obj a) u)
      → PushesNew x w (Held.Int count ∷ []) (Of.Array element n) new outcome → Keeps around x w runs code new outcome
  array_pushed element n count u named few stays takes fits pushes =
      pushed_keeps around x w new outcome runs code (Held.Int count ∷ []) (Of.Array element n) (named, few) (λ k e. absurd cc)
      (λ a heap there kept goes.
      took around x w runs code (Fitting Int ∷ []) (u ∷ []) takes (Held.Int count ∷ []) (Held.Obj a ∷ []) (with_heap w.inside heap) new outcome
      goes stays refl kept (λ c. refl) ((_, there), tt) (fits a heap (replicate n (zero_of element)) there, tt))
      pushes

  -- by the code of newarray, or by the type that anewarray names
  array_made : (element : TypeRef) (n : ℕ) (count : ℤ) → MakesArrayOf code.scope code.instr element
      → PushesNew x w (Held.Int count ∷ []) (Of.Array element n) new outcome → Keeps around x w runs code new outcome
  array_made element n count (inl (op, (number, base, a_is, is_code, is))) pushes =
      let shape = shape_at around x w runs code 0xbc op in
      let same : shape.0 ≡ number = same_pos shape.0 number (sym shape.2 ∙ a_is) in
      let one : shape.1 ≡ base = sym (coded shape.1 shape.0 shape.3) ∙ ap base_coded same ∙ coded base number is_code in
      let of : element ≡ array_type 0 shape.1 = is ∙ ap (array_type 0) (sym one) in
      array_pushed element n count (Ref (array_type 1 shape.1))
      (subst (λ (t : TypeRef). IsNamedBase around.table t.base) (sym of) (number_named around.table shape.1 shape.0 shape.3))
      (subst (λ (t : TypeRef). t.dims ≤ 254) (sym of) (omega arith)) (in_line code.instr 0xbc op refl) shape.4
      (λ a heap items there. (Array element items, there, inl (ap (λ (t : TypeRef). array_type (t.dims + 1) t.base) of)))
      pushes
  array_made element n count (inr (op, leads)) pushes =
      let shape = shape_at around x w runs code 0xbd op in
      let link : To.Class shape.0 ≡ To.Class element = one_link code.scope code.instr (To.Class shape.0) (To.Class element) shape.1 leads in
      let same : shape.0 ≡ element = cc in
      let dims : shape.0.dims ≡ element.dims = ap (λ (t : TypeRef). t.dims) same in
      let sound : AreSoundCodes code.scope.classes = subst AreSoundCodes (sym code.is_scope.all) runs.setting.codes in
      array_pushed element n count (of_type code.scope.classes (array_type (shape.0.dims + 1) shape.0.base))
      (type_known around x w runs code element leads) (omega (arith, shape.2, dims)) (in_line code.instr 0xbd op refl) shape.3
      (λ a heap items there. (
        Array element items,
        there,
        instance_fits code.scope.classes sound (array_type (element.dims + 1) element.base) (array_type (shape.0.dims + 1) shape.0.base)
            (inl (ap (λ (t : TypeRef). array_type (t.dims + 1) t.base) (sym same))),
      ))
      pushes

  pub array_keeps : MakesArray x code.scope code.instr w new outcome → Keeps around x w runs code new outcome
  array_keeps h = elim h.does [
    | inl (none, raises) ↦ fresh_raised around x w runs code 25 9 new outcome (omega arith) refl raises
    | inr (n, some, pushes) ↦ array_made h.element n h.count h.of_elements pushes
  ]
