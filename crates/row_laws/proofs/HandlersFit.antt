-- A frame that catches fits at its handler, with the throwable alone on its stack.
use Rattle.std.proofs.Common.{inl, inr, ◌≡◌, ◌⊎◌, ℕ, List, [], ◌∷◌, ◌++◌, Option, Some, None, refl, sym, subst, ◌∙◌}
use Rattle.std.specs.Prelude.{MatchOption, ⊤}
use Rattle.std.proofs.lemmas.Option.{none-some}
use Rattle.list_lemmas.proofs.ItemsOfLists.{Contains-at}
use Rattle.jk_model.specs.declared.identifiers.ClassId.{ClassId}
use Rattle.jk_model.specs.declared.values.Value.{Value}
use Rattle.jk_model.specs.declared.values.Value.TheVariants as Held
use Rattle.jk_model_classes.specs.declared.records.Caught.{Caught}
use Rattle.jk_model_classes.specs.declared.records.ClassRecord.{ClassRecord}
use Rattle.jk_model_classes.specs.Classes.{AreOrdered}
use Rattle.jk_model_typing.specs.declared.frames.VType.{VType}
use Rattle.jk_model_typing.specs.FrameTypes.{EachFits, RefFits, THROWABLE, erased, of_class, throwable}
use Rattle.jk_model_typing.specs.Scopes.{CodeScope}
use Rattle.jk_model_typing.specs.Typing.{FitsAt, caught_value, handler_frame}
use Rattle.jk_model_frames.specs.Frames.{FrameState}
use Rattle.jk_model_domains.specs.Objects.{NamedObject, Plain, class_type, type_of}
use Rattle.jk_model_domains.specs.ValueTypes.{EachValueFits, ValueFits}
use Rattle.jk_model_heaps.specs.Instances.{IsInstance}
use Rattle.jk_model_heaps.specs.Workings.{Setting}
use Rattle.jk_model_sealing.specs.FittingFrames.{FitsAsCaller, FitsAsTop, FitsAtCall, FitsHere, FramesFit, HasTyping}
use Rattle.jk_model_unwinding.specs.Unwinding.{Catches, at_handler}
use Rattle.number_laws.proofs.ValuesAbove.{value-above}
use Rattle.heap_laws.specs.RaisableObjects.{IsThrowable, MayMeetRaise}
use Rattle.heap_laws.specs.SoundCodes.{AreSoundCodes}
use Rattle.row_laws.proofs.InstancesFitTypes.{instance_fits}
use Rattle.row_laws.proofs.StandsHere.{goes, least, room, same_scope}

-- ---- What is known of a frame that may catch, wherever it stands in its segment.

pub record HasLocals (classes : List ClassRecord) (heap : List NamedObject) (f : FrameState) : Type 0 where
  pub typing : HasTyping classes f
  pub locals : EachValueFits typing.scope heap f.locals typing.type.locals

abbrev pub MayCatch : List ClassRecord → List NamedObject → FrameState → Type 0
MayCatch classes heap f = (f.head.method ≡ None) ⊎ HasLocals classes heap f

module _ (classes : List ClassRecord) (heap : List NamedObject) where
  top_may : (f : FrameState) → FitsAsTop classes heap f → MayCatch classes heap f
  top_may f (inl empty) = inl empty.no_method
  top_may f (inr (well, (typing, holds))) = inr (record { typing = typing; locals = holds.locals })

  call_may : (f : FrameState) → FitsAtCall classes heap f → MayCatch classes heap f
  call_may f call = inr (record { typing = call.typing; locals = call.locals_before })

  meets_may : (f : FrameState) → MayMeetRaise classes heap f → MayCatch classes heap f
  meets_may f (inl top) = top_may f top
  meets_may f (inr call) = call_may f call

  caller_may : (f above : FrameState) → FitsAsCaller classes heap f above → MayCatch classes heap f
  caller_may f above (inl (begun, top)) = top_may f top
  caller_may f above (inr (plain, call)) = call_may f call

  pub frame_may : (lower upper : List FrameState) (f : FrameState) → FramesFit (MayMeetRaise classes heap) classes heap (lower ++ f ∷ upper)
      → MayCatch classes heap f
  frame_may [] [] f fit = meets_may f fit
  frame_may [] (above ∷ more) f fit = caller_may f above fit.0
  frame_may (g ∷ []) upper f fit = frame_may [] upper f fit.1
  frame_may (g ∷ k ∷ lower) upper f fit = frame_may (k ∷ lower) upper f fit.1

  -- the frames below it fit as before where it stands at a handler
  pub front_fit : (lower upper : List FrameState) (f : FrameState) (h : Caught) (a : ℕ) → FitsAsTop classes heap (at_handler f h a)
      → FramesFit (MayMeetRaise classes heap) classes heap (lower ++ f ∷ upper)
      → FramesFit (FitsAsTop classes heap) classes heap (lower ++ at_handler f h a ∷ [])
  front_fit [] upper f h a fits fit = fits
  front_fit (g ∷ []) [] f h a fits fit = (fit.0, fits)
  front_fit (g ∷ []) (above ∷ more) f h a fits fit = (fit.0, fits)
  front_fit (g ∷ k ∷ lower) upper f h a fits fit = (fit.0, front_fit (k ∷ lower) upper f h a fits fit.1)

-- ---- The frame at its handler.

-- values fit types that the types which they fit fit
each_above : (s : CodeScope) (heap : List NamedObject) → AreOrdered s.classes → (vs : List Value) (ts us : List VType)
    → EachValueFits s heap vs ts → EachFits s.classes ts us → EachValueFits s heap vs us
each_above s heap ordered [] [] [] h k = tt
each_above s heap ordered [] [] (u ∷ us) h k = absurd k
each_above s heap ordered [] (t ∷ ts) us h k = absurd h
each_above s heap ordered (v ∷ vs) [] us h k = absurd h
each_above s heap ordered (v ∷ vs) (t ∷ ts) [] h k = absurd k
each_above s heap ordered (v ∷ vs) (t ∷ ts) (u ∷ us) h k =
    (value-above s heap ordered v t u h.0 k.0, each_above s heap ordered vs ts us h.1 k.1)

module _ (x : Setting) (sound : AreSoundCodes x.classes) (heap : List NamedObject) (f : FrameState) (h : Caught) (a : ℕ)
    (throws : IsThrowable x.classes heap a) (c : Catches x heap f a h) where
  abbrev s : CodeScope
  s = c.code.scope

  -- the throwable fits what the handler has on its stack
  caught_by : (o : Option ClassId)
      → MatchOption o ⊤ (λ (k : ClassId). IsInstance x.classes x.caps heap (Held.Obj a) (class_type k))
      → ValueFits s heap (Held.Obj a) (elim o as (λ _. VType) [ Some k ↦ of_class s.classes k | None ↦ throwable ])
  caught_by None is =
      let fits : RefFits x.classes (class_type throws.0) (class_type THROWABLE) = inr (inl (refl, throws.3)) in
      let here = subst (λ (cs : List ClassRecord). RefFits cs (class_type throws.0) (class_type THROWABLE)) (sym c.code.is_scope.all) fits in
      (Plain throws.0 throws.1, throws.2, here)
  caught_by (Some k) (o, is, isa) =
      let fits : RefFits x.classes (type_of o) (erased x.classes (class_type k)) = instance_fits x.classes sound (type_of o) (class_type k) isa in
      (o, is, subst (λ (cs : List ClassRecord). RefFits cs (type_of o) (erased cs (class_type k))) (sym c.code.is_scope.all) fits)

  caught_fits : ValueFits s heap (Held.Obj a) (caught_value s h)
  caught_fits = caught_by h.class c.of_class

  typed_fits : (t : HasTyping x.classes f) → EachValueFits t.scope heap f.locals t.type.locals → FitsHere x.classes heap (at_handler f h a)
  typed_fits t locals =
      let to : FitsAt s t.frames h.handler (handler_frame s h t.type.locals t.type.fresh) =
      (goes x.classes sound f c.code t).caught h (Contains-at s.code.handlers c.place h c.listed) c.covers in
      let ordered : AreOrdered s.classes = subst AreOrdered (sym c.code.is_scope.all) sound.ordered in
      let before : EachValueFits s heap f.locals t.type.locals =
      subst (λ (y : CodeScope). EachValueFits y heap f.locals t.type.locals) (same_scope x.classes sound f c.code t) locals in
      let sizes = room x.classes sound f c.code t in
      let typing : HasTyping x.classes (at_handler f h a) = record {
        method = c.code.method;
        is_method = c.code.is_method;
        scope = s;
        is_scope = c.code.is_scope;
        room = sizes;
        frames = t.frames;
        is_least = least x.classes sound f c.code t;
        type = to.0;
        stands = to.1;
      } in (
        typing,
        record {
          locals = each_above s heap ordered f.locals t.type.locals to.0.locals before to.2.locals;
          stack = each_above s heap ordered (Held.Obj a ∷ []) (caught_value s h ∷ []) to.0.stack (caught_fits, tt) to.2.stack;
        },
      )

  pub handler_fits : MayCatch x.classes heap f → FitsAsTop x.classes heap (at_handler f h a)
  handler_fits (inl none) = absurd (none-some c.code.method (sym none ∙ c.code.is_method))
  handler_fits (inr has) = inr (inl c.no_need, typed_fits has.typing has.locals)
