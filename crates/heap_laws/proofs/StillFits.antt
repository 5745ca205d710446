-- What fits in a heap, or is known there, fits and is known in each heap to which it grows.
use Rattle.std.proofs.Common.{inl, inr, ◌≡◌, ℕ, zero, suc, List, [], ◌∷◌, Some, refl, subst}
use Rattle.jk_model.specs.declared.identifiers.ClassId.{ClassId}
use Rattle.jk_model.specs.declared.values.Value.{Value}
use Rattle.jk_model.specs.declared.values.Value.TheVariants as Held
use Rattle.jk_model_classes.specs.declared.records.BaseRef.{BaseRef}
use Rattle.jk_model_classes.specs.declared.records.BaseRef.TheVariants as Base
use Rattle.jk_model_classes.specs.declared.records.ClassRecord.{ClassRecord}
use Rattle.jk_model_classes.specs.declared.records.TypeRef.{TypeRef}
use Rattle.jk_model_typing.specs.declared.frames.FrameType.{FrameType}
use Rattle.jk_model_typing.specs.declared.frames.VType.{VType}
use Rattle.jk_model_typing.specs.declared.frames.VType.TheVariants.{Unusable, Ref, Fresh, FreshThis}
use Rattle.jk_model_typing.specs.FrameTypes.{RefFits, array_type, erased}
use Rattle.jk_model_typing.specs.Scopes.{CodeScope}
use Rattle.jk_model_frames.specs.Frames.{FrameState}
use Rattle.jk_model_domains.specs.Objects.{NamedObject, Object, Array, Plain, Task, Text, object_named, type_of}
use Rattle.jk_model_domains.specs.ValueTypes.{EachValueFits, FrameHolds, HoldsDeclared, ObjectFits, ValueFits}
use Rattle.jk_model_heaps.specs.Capabilities.{CapRange}
use Rattle.jk_model_heaps.specs.Heaps.{IsAlike, IsGrown}
use Rattle.jk_model_sealing.specs.FittingFrames.{FitsAsCaller, FitsAsTop, FitsAtCall, FitsHere, FramesFit}
use Rattle.jk_model_sealing.specs.SealedInsides.{IsKnownValue, IsOfClass, IsSealedObject, Surroundings}
use Rattle.jk_model_sealing.specs.SealedRuns.{AreSealedFrames, NamesKnown}
use Rattle.list_lemmas.proofs.ItemsOfLists.{each-weaker}
use Rattle.heap_laws.specs.RaisableObjects.{IsThrowable, MayMeetRaise}
use Rattle.heap_laws.proofs.AlikeObjects.{alike_plain, alike_type}

module _ (old new : List NamedObject) (g : IsGrown old new) where
  -- ---- Values.

  object_fits : (s : CodeScope) (o p : Object) (t : VType) → IsAlike o p → ObjectFits s o t → ObjectFits s p t
  object_fits s o p (Ref t) alike h = subst (λ (u : TypeRef). RefFits s.classes u t) (alike_type o p alike) h
  object_fits s o p (Fresh place) alike (c, makes, plain) = (c, makes, alike_plain c o p alike plain)
  object_fits s o p FreshThis alike (c, plain, below) = (c, alike_plain c o p alike plain, below)
  object_fits s o p t alike h = absurd h

  pub value_fits : (s : CodeScope) (v : Value) (t : VType) → ValueFits s old v t → ValueFits s new v t
  value_fits s v Unusable h = tt
  value_fits s (Held.Obj a) t (o, is, fits) =
      let p = g.kept a o is in (p.0, p.1, object_fits s o p.0 t p.2 fits)
  value_fits s v t h = h

  pub each_value_fits : (s : CodeScope) (vs : List Value) (ts : List VType) → EachValueFits s old vs ts → EachValueFits s new vs ts
  each_value_fits s [] [] h = tt
  each_value_fits s (v ∷ vs) (t ∷ ts) h = (value_fits s v t h.0, each_value_fits s vs ts h.1)
  each_value_fits s vs ts h = h

  pub frame_holds : (s : CodeScope) (f : FrameState) (t : FrameType) → FrameHolds s old f t → FrameHolds s new f t
  frame_holds s f t h = record {
    locals = each_value_fits s f.locals t.locals h.locals;
    stack = each_value_fits s f.stack t.stack h.stack;
  }

  -- an object of a reference type
  object_held : (classes : List ClassRecord) (a : ℕ) (t : TypeRef)
      → (o : Object) × (object_named old a ≡ Some o) × RefFits classes (type_of o) t
      → (o : Object) × (object_named new a ≡ Some o) × RefFits classes (type_of o) t
  object_held classes a t (o, is, fits) =
      let p = g.kept a o is in
      (p.0, p.1, subst (λ (u : TypeRef). RefFits classes u t) (alike_type o p.0 p.2) fits)

  holds_by : (classes : List ClassRecord) (v : Value) (dims : ℕ) (base : BaseRef) → HoldsDeclared classes old v (array_type dims base)
      → HoldsDeclared classes new v (array_type dims base)
  holds_by classes (Held.Obj a) zero (Base.Class c) h = object_held classes a (erased classes (array_type 0 (Base.Class c))) h
  holds_by classes (Held.Obj a) (suc dims) base h = object_held classes a (erased classes (array_type (suc dims) base)) h
  holds_by classes (Held.Cap k) zero (Base.Class c) h = h
  holds_by classes (Held.Cap k) (suc dims) base h = h
  holds_by classes (Held.Int n) zero (Base.Class c) h = h
  holds_by classes (Held.Int n) zero base h = h
  holds_by classes (Held.Int n) (suc dims) base h = h
  holds_by classes (Held.Long n) zero (Base.Class c) h = h
  holds_by classes (Held.Long n) zero base h = h
  holds_by classes (Held.Long n) (suc dims) base h = h
  holds_by classes Held.Null zero (Base.Class c) h = h
  holds_by classes Held.Null zero base h = h
  holds_by classes Held.Null (suc dims) base h = h
  holds_by classes v zero (Base.Class c) h = h
  holds_by classes v zero base h = h
  holds_by classes v (suc dims) base h = h

  pub declared_held : (classes : List ClassRecord) (v : Value) (t : TypeRef) → HoldsDeclared classes old v t → HoldsDeclared classes new v t
  declared_held classes v t h = holds_by classes v t.dims t.base h

  pub value_known : (caps : List CapRange) (v : Value) → IsKnownValue caps old v → IsKnownValue caps new v
  value_known caps (Held.Obj a) (o, is) = let p = g.kept a o is in (p.0, p.1)
  value_known caps (Held.Cap k) h = h
  value_known caps v h = tt

  -- ---- Objects.

  pub of_class : (a : ℕ) (c : ClassId) → IsOfClass old a c → IsOfClass new a c
  of_class a c (fields, is) =
      let p = g.kept a (Plain c fields) is in
      let plain = alike_plain c (Plain c fields) p.0 p.2 (fields, refl) in
      (plain.0, subst (λ (x : Object). object_named new a ≡ Some x) plain.1 p.1)

  pub throwable : (classes : List ClassRecord) (a : ℕ) → IsThrowable classes old a → IsThrowable classes new a
  throwable classes a (c, fields, is, below) =
      let there = of_class a c (fields, is) in (c, there.0, there.1, below)

  pub object_sealed : (around : Surroundings) (o : Object) → IsSealedObject around old o → IsSealedObject around new o
  object_sealed around (Plain c values) (named, no_text, no_task, no_capability, no_remote, fields) = (
    named,
    no_text,
    no_task,
    no_capability,
    no_remote,
    record {
      as_many = fields.as_many;
      each = λ i v field at of.
          let each = fields.each i v field at of in
          (declared_held around.classes v field.kind each.0, value_known around.caps v each.1);
    },
  )
  object_sealed around (Array element items) (base, few, each) = (
    base,
    few,
    each-weaker (λ v. HoldsDeclared around.classes old v element × IsKnownValue around.caps old v)
        (λ v. HoldsDeclared around.classes new v element × IsKnownValue around.caps new v)
        (λ v h. (declared_held around.classes v element h.0, value_known around.caps v h.1)) items each,
  )
  object_sealed around (Text units) h = h
  object_sealed around (Task s) h = h

  -- ---- Frames.

  pub fits_here : (classes : List ClassRecord) (f : FrameState) → FitsHere classes old f → FitsHere classes new f
  fits_here classes f (typing, holds) = (typing, frame_holds typing.scope f typing.type holds)

  pub fits_as_top : (classes : List ClassRecord) (f : FrameState) → FitsAsTop classes old f → FitsAsTop classes new f
  fits_as_top classes f (inl empty) = inl empty
  fits_as_top classes f (inr (well, here)) = inr (well, fits_here classes f here)

  pub fits_at_call : (classes : List ClassRecord) (f : FrameState) → FitsAtCall classes old f → FitsAtCall classes new f
  fits_at_call classes f h = record {
    no_need = h.no_need;
    typing = h.typing;
    instr = h.instr;
    is_instr = h.is_instr;
    is_call = h.is_call;
    member = h.member;
    called = h.called;
    names = h.names;
    after = h.after;
    row = h.row;
    below = h.below;
    left = h.left;
    stack = each_value_fits h.typing.scope f.stack h.below h.stack;
    locals = each_value_fits h.typing.scope f.locals h.after.locals h.locals;
    locals_before = each_value_fits h.typing.scope f.locals h.typing.type.locals h.locals_before;
  }

  pub meets_raise : (classes : List ClassRecord) (f : FrameState) → MayMeetRaise classes old f → MayMeetRaise classes new f
  meets_raise classes f (inl top) = inl (fits_as_top classes f top)
  meets_raise classes f (inr call) = inr (fits_at_call classes f call)

  pub fits_as_caller : (classes : List ClassRecord) (f above : FrameState) → FitsAsCaller classes old f above → FitsAsCaller classes new f above
  fits_as_caller classes f above (inl (begun, top)) = inl (begun, fits_as_top classes f top)
  fits_as_caller classes f above (inr (plain, call)) = inr (plain, fits_at_call classes f call)

  pub names_known : (caps : List CapRange) (f : FrameState) → NamesKnown caps old f → NamesKnown caps new f
  names_known caps f (locals, stack) = (
    each-weaker (IsKnownValue caps old) (IsKnownValue caps new) (value_known caps) f.locals locals,
    each-weaker (IsKnownValue caps old) (IsKnownValue caps new) (value_known caps) f.stack stack,
  )

  -- what is asked of the top frame may change with the heap
  module _ (Before After : FrameState → Type 0) (top : (f : FrameState) → Before f → After f) where
    pub frames_fit : (classes : List ClassRecord) (frames : List FrameState) → FramesFit Before classes old frames
        → FramesFit After classes new frames
    frames_fit classes [] h = tt
    frames_fit classes (f ∷ []) h = top f h
    frames_fit classes (f ∷ above ∷ more) h = (fits_as_caller classes f above h.0, frames_fit classes (above ∷ more) h.1)

    pub frames_sealed : (around : Surroundings) (frames : List FrameState) → AreSealedFrames around Before old frames
        → AreSealedFrames around After new frames
    frames_sealed around frames h = record {
      fit = frames_fit around.classes frames h.fit;
      initialise = h.initialise;
      at_home = h.at_home;
      known = each-weaker (NamesKnown around.caps old) (NamesKnown around.caps new) (names_known around.caps) frames h.known;
    }
