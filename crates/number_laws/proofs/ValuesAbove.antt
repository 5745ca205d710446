-- A value that fits a type fits each type above it, and so values fit the types that are asked of them.
use Rattle.std.proofs.Common.{inl, inr, List, [], ◌∷◌, map, sym, subst}
use Rattle.jk_model.specs.declared.values.Value.{Value}
use Rattle.jk_model.specs.declared.values.Value.TheVariants as Held
use Rattle.jk_model_classes.specs.declared.records.TypeRef.{TypeRef}
use Rattle.jk_model_classes.specs.Classes.{AreOrdered}
use Rattle.jk_model_typing.specs.declared.frames.Demand.TheVariants.{Fitting}
use Rattle.jk_model_typing.specs.declared.frames.FrameType.{FrameType}
use Rattle.jk_model_typing.specs.declared.frames.VType.{VType}
use Rattle.jk_model_typing.specs.declared.frames.VType.TheVariants.{Unusable, Null, Ref}
use Rattle.jk_model_typing.specs.FrameTypes.{EachFits, FrameFits, Fits, RefFits}
use Rattle.jk_model_typing.specs.Rows.{AllMeet}
use Rattle.jk_model_typing.specs.Scopes.{CodeScope}
use Rattle.jk_model_frames.specs.Frames.{FrameState}
use Rattle.jk_model_domains.specs.Objects.{CAPABILITY, NamedObject, class_type, type_of}
use Rattle.jk_model_domains.specs.ValueTypes.{EachValueFits, FrameHolds, ValueFits}
use Rattle.type_frames.proofs.OrderOfTypes.{Fits-cases, RefFits-trans}

module _ (s : CodeScope) (heap : List NamedObject) (ordered : AreOrdered s.classes) where
  pub null-above : (v : Value) (t : TypeRef) → ValueFits s heap v Null → ValueFits s heap v (Ref t)
  null-above (Held.Int n) t h = absurd h
  null-above (Held.Long n) t h = absurd h
  null-above Held.Null t h = tt
  null-above (Held.Obj a) t h = absurd h.2
  null-above (Held.Cap k) t h = absurd h
  null-above Held.Unset t h = absurd h

  pub ref-above : (v : Value) (a t : TypeRef) → ValueFits s heap v (Ref a) → RefFits s.classes a t → ValueFits s heap v (Ref t)
  ref-above (Held.Int n) a t h k = absurd h
  ref-above (Held.Long n) a t h k = absurd h
  ref-above Held.Null a t h k = tt
  ref-above (Held.Obj x) a t h k = (h.0, h.1, RefFits-trans s.classes ordered (type_of h.0) a t h.2 k)
  ref-above (Held.Cap c) a t h k = RefFits-trans s.classes ordered (class_type CAPABILITY) a t h k
  ref-above Held.Unset a t h k = absurd h

  pub value-above : (v : Value) (t u : VType) → ValueFits s heap v t → Fits s.classes t u → ValueFits s heap v u
  value-above v t u h k = elim (Fits-cases s.classes t u k) [
    | inl e ↦ subst (ValueFits s heap v) (sym e) (unusable v)
    | inr (inl e) ↦ subst (ValueFits s heap v) e h
    | inr (inr (inl (r, null, e))) ↦ subst (ValueFits s heap v) (sym e) (null-above v r (subst (ValueFits s heap v) null h))
    | inr (inr (inr (x, y, ex, ey, xy))) ↦ subst (ValueFits s heap v) (sym ey) (ref-above v x y (subst (ValueFits s heap v) ex h) xy)
  ]
    where
      unusable : (w : Value) → ValueFits s heap w Unusable
      unusable w = tt

  -- values of types that meet demands for fitting types fit these
  pub all-fitting : (vs : List Value) (olds ts : List VType) → EachValueFits s heap vs olds → AllMeet s (map Fitting ts) olds
      → EachValueFits s heap vs ts
  all-fitting [] [] [] h k = tt
  all-fitting [] [] (t ∷ ts) h k = absurd k
  all-fitting [] (o ∷ olds) ts h k = absurd h
  all-fitting (v ∷ vs) [] ts h k = absurd h
  all-fitting (v ∷ vs) (o ∷ olds) [] h k = absurd k
  all-fitting (v ∷ vs) (o ∷ olds) (t ∷ ts) h k = (value-above v o t h.0 k.0, all-fitting vs olds ts h.1 k.1)

  -- values that fit some types fit those above them, and so do a frame's
  pub values-above : (vs : List Value) (ts us : List VType) → EachValueFits s heap vs ts → EachFits s.classes ts us → EachValueFits s heap vs us
  values-above [] [] [] h k = tt
  values-above [] [] (u ∷ us) h k = absurd k
  values-above [] (t ∷ ts) us h k = absurd h
  values-above (v ∷ vs) [] us h k = absurd h
  values-above (v ∷ vs) (t ∷ ts) [] h k = absurd k
  values-above (v ∷ vs) (t ∷ ts) (u ∷ us) h k = (value-above v t u h.0 k.0, values-above vs ts us h.1 k.1)

  pub frame-above : (f : FrameState) (t u : FrameType) → FrameHolds s heap f t → FrameFits s.classes t u → FrameHolds s heap f u
  frame-above f t u h k = record {
    locals = values-above f.locals t.locals u.locals h.locals k.locals;
    stack = values-above f.stack t.stack u.stack h.stack k.stack;
  }
