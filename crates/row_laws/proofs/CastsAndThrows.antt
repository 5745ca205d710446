-- Casts, tests of instances and athrow keep what is kept: what is cast fits its new type, and what is thrown is a throwable.
use Rattle.std.proofs.Common.{inl, inr, ◌≡◌, ℕ, pos, List, [], ◌∷◌, Contains, None, Some, refl, sym, ap, subst, ◌∙◌, arith}
use Rattle.jk_model.specs.declared.identifiers.ClassId.{ClassId}
use Rattle.jk_model.specs.declared.steps.Raise.TheVariants as Raised
use Rattle.jk_model.specs.declared.values.Value.{Value}
use Rattle.jk_model.specs.declared.values.Value.TheVariants as Held
use Rattle.jk_model_classes.specs.declared.records.ClassRecord.{ClassRecord}
use Rattle.jk_model_classes.specs.declared.records.Link.TheVariants as To
use Rattle.jk_model_classes.specs.declared.records.TypeRef.{TypeRef}
use Rattle.jk_model_classes.specs.declared.sharing.Stub.{Stub}
use Rattle.jk_model_classes.specs.Classes.{AreOrdered, IsInterface, OBJECT, record_of}
use Rattle.jk_model_typing.specs.declared.frames.Demand.TheVariants.{Fitting, Reference}
use Rattle.jk_model_typing.specs.declared.frames.VType.TheVariants.{Int}
use Rattle.jk_model_typing.specs.FrameTypes.{RefFits, STRING, THROWABLE, of_type, throwable}
use Rattle.jk_model_domains.specs.Objects.{NamedObject, Object, Array, Plain, Task, Text, TASK, class_type, object_named, type_of}
use Rattle.jk_model_domains.specs.ValueTypes.{ValueFits}
use Rattle.jk_model_heaps.specs.Instances.{IsInstance}
use Rattle.jk_model_heaps.specs.References.{IsNullOrInstance}
use Rattle.jk_model_heaps.specs.RunningCode.{RunsCode}
use Rattle.jk_model_heaps.specs.Workings.{GoesOnWith, Outcome, Setting, Working}
use Rattle.jk_model_heap_rows.specs.InstanceRows.{Casts, RaisesObject, Tests}
use Rattle.jk_model_sealing.specs.SealedInsides.{Surroundings}
use Rattle.number_laws.proofs.ValuesAbove.{value-above}
use Rattle.heap_laws.specs.RaisableObjects.{IsThrowable}
use Rattle.heap_laws.specs.RunningFrames.{RunsWell}
use Rattle.heap_laws.specs.SoundCodes.{AreSoundCodes}
use Rattle.row_laws.specs.Operands.{ValueMeets}
use Rattle.row_laws.proofs.InstancesFitTypes.{capability_fits, instance_fits}
use Rattle.row_laws.proofs.NamesStayKnown.{taken-known}
use Rattle.row_laws.proofs.SystemParents.{no_task, no_text}
use Rattle.typing_lemmas.proofs.OneScope.{one_link}
use Rattle.row_laws.proofs.FieldsNamed.{array_above, class_below}
use Rattle.row_laws.proofs.HeapFramesLeft.{Keeps, fresh_raised, in_line, met, raised, shape_at, took_only}

-- ---- An object that fits where typing has java/lang/Throwable is a throwable.

module _ (classes : List ClassRecord) (sound : AreSoundCodes classes) (heap : List NamedObject) where
  throwable_object : (a : ℕ) (o : Object) → object_named heap a ≡ Some o → RefFits classes (type_of o) (class_type THROWABLE)
      → IsThrowable classes heap a
  throwable_object a (Plain c fields) is fits = (c, fields, is, class_below classes sound c THROWABLE fits)
  throwable_object a (Array element items) is fits =
      let same : THROWABLE ≡ OBJECT = array_above classes sound element.dims element.base THROWABLE fits in
      let number : 9 ≡ 0 = ap (λ (c : ClassId). c.0) same in
      absurd (omega (arith, number))
  throwable_object a (Text units) is fits = absurd (no_text classes sound STRING (class_below classes sound STRING THROWABLE fits) refl)
  throwable_object a (Task n) is fits = absurd (no_task classes sound TASK (class_below classes sound TASK THROWABLE fits) refl)

module _ (around : Surroundings) (x : Setting) (w new : Working) (outcome : Outcome) (runs : RunsWell around x w)
    (code : RunsCode around.classes w.frame) where
  sound_here : AreSoundCodes code.scope.classes
  sound_here = subst AreSoundCodes (sym code.is_scope.all) runs.setting.codes

  ordered_here : AreOrdered code.scope.classes
  ordered_here = sound_here.ordered

  -- the setting's classes are those of the code
  same_classes : x.classes ≡ code.scope.classes
  same_classes = runs.setting.classes ∙ sym code.is_scope.all

  -- ---- athrow.

  thrown : (a : ℕ) (v : Value) → v ≡ Held.Obj a → ValueMeets code.scope w.inside.heap (Fitting throwable) v
      → IsThrowable around.classes w.inside.heap a
  thrown a v is (t, meets, fits) =
      let here = subst (λ (y : Value). ValueFits code.scope w.inside.heap y throwable) is
      (value-above code.scope w.inside.heap ordered_here v t throwable fits meets) in
      subst (λ (classes : List ClassRecord). IsThrowable classes w.inside.heap a) code.is_scope.all
      (throwable_object code.scope.classes sound_here w.inside.heap a here.0 here.1 here.2)

  pub throw_keeps : RaisesObject code.instr w new outcome → Keeps around x w runs code new outcome
  throw_keeps h = elim h.does [
    | inl (null, raises) ↦ fresh_raised around x w runs code 26 9 new outcome (omega arith) refl raises
    | inr (a, is, raises) ↦
        let meet = met around x w runs code (Fitting throwable ∷ []) [] (shape_at around x w runs code 0xbf h.op) (h.value ∷ []) h.on_top refl in
        raised around x w runs code (Raised.Object a) new outcome raises (thrown a h.value is meet.0)
  ]

  -- ---- instanceof.

  tested : (n : ℕ) → (h : Tests x code.scope code.instr w new outcome)
      → GoesOnWith w (h.value ∷ []) (Held.Int (pos n) ∷ []) w.inside new outcome → Keeps around x w runs code new outcome
  tested n h goes =
      let is = shape_at around x w runs code 0xc1 h.op in
      took_only around x w runs code (Reference ∷ []) (Int ∷ []) is.2 (h.value ∷ []) (Held.Int (pos n) ∷ []) new outcome goes
      (in_line code.instr 0xc1 h.op refl) refl (tt, tt) (tt, tt)

  pub test_keeps : Tests x code.scope code.instr w new outcome → Keeps around x w runs code new outcome
  test_keeps h = elim h.does [
    | inl (fits, goes) ↦ tested 1 h goes
    | inr (fails, goes) ↦ tested 0 h goes
  ]

  -- ---- checkcast.

  abbrev ShowInterfaces : List ClassRecord → Type 0
  ShowInterfaces classes =
      (s : Stub) (i : ClassId) → Contains x.caps.stand_ins s → record_of classes s.class ≡ None → Contains s.interfaces i → IsInterface classes i

  instance_typed : (v : Value) (t : TypeRef) → IsInstance code.scope.classes x.caps w.inside.heap v t
      → ValueFits code.scope w.inside.heap v (of_type code.scope.classes t)
  instance_typed (Held.Obj a) t (o, is, isa) = (o, is, instance_fits code.scope.classes sound_here (type_of o) t isa)
  instance_typed (Held.Cap k) t h =
      capability_fits code.scope.classes sound_here x.caps k t (subst ShowInterfaces (sym code.is_scope.all) runs.setting.stand_ins) h
  instance_typed v t h = absurd h

  cast_typed : (v : Value) (t : TypeRef) → IsNullOrInstance x w.inside.heap v t → ValueFits code.scope w.inside.heap v (of_type code.scope.classes t)
  cast_typed v t (inl null) = subst (λ (y : Value). ValueFits code.scope w.inside.heap y (of_type code.scope.classes t)) (sym null) tt
  cast_typed v t (inr is) =
      instance_typed v t (subst (λ (classes : List ClassRecord). IsInstance classes x.caps w.inside.heap v t) same_classes is)

  pub cast_keeps : Casts x code.scope code.instr w new outcome → Keeps around x w runs code new outcome
  cast_keeps h = elim h.does [
    | inl (fits, goes) ↦
        let is = shape_at around x w runs code 0xc0 h.op in
        let link : To.Class is.0 ≡ To.Class h.kind = one_link code.scope code.instr (To.Class is.0) (To.Class h.kind) is.1 h.names in
        let kind : is.0 ≡ h.kind = cc in
        let typed = subst (λ (t : TypeRef). ValueFits code.scope w.inside.heap h.value (of_type code.scope.classes t)) (sym kind)
        (cast_typed h.value h.kind fits) in
        took_only around x w runs code (Reference ∷ []) (of_type code.scope.classes is.0 ∷ []) is.2 (h.value ∷ []) (h.value ∷ []) new outcome
        goes (in_line code.instr 0xc0 h.op refl) refl
        (taken-known around.caps w.inside.heap w.frame new.frame (h.value ∷ []) (h.value ∷ []) runs.known goes.replaced) (typed, tt)
    | inr (fails, raises) ↦ fresh_raised around x w runs code 21 9 new outcome (omega arith) refl raises
  ]
