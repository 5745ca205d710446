-- An object that an instruction made fits its place on the stack, as one whose constructor hasn't been called.
use Rattle.std.proofs.Common.{◌≡◌, ℕ, Bool, true, false, List, [], ◌∷◌, ◌++◌, refl, sym, ap, subst, ◌∙◌}
use Rattle.std.specs.Prelude.{if◌then◌else◌}
use Rattle.std.proofs.lemmas.List.{append-nil}
use Rattle.jk_model.specs.declared.identifiers.ClassId.{ClassId}
use Rattle.jk_model.specs.declared.instructions.Instr.{Instr}
use Rattle.jk_model.specs.declared.values.Value.{Value}
use Rattle.jk_model.specs.declared.values.Value.TheVariants as Held
use Rattle.jk_model_typing.specs.declared.frames.FrameType.{FrameType}
use Rattle.jk_model_typing.specs.declared.frames.VType.{VType}
use Rattle.jk_model_typing.specs.declared.frames.VType.TheVariants.{Fresh, Unusable}
use Rattle.jk_model_typing.specs.Groups.{Makes}
use Rattle.jk_model_typing.specs.Rows.{MakesAt, is_made_at, replaced}
use Rattle.jk_model_typing.specs.Scopes.{CodeScope}
use Rattle.jk_model_frames.specs.Frames.{FrameState}
use Rattle.jk_model_domains.specs.NumberRows.{Replaces}
use Rattle.jk_model_domains.specs.Objects.{NamedObject}
use Rattle.jk_model_domains.specs.ValueTypes.{EachValueFits, FrameHolds, ValueFits}
use Rattle.jk_model_heaps.specs.Heaps.{IsGrown}
use Rattle.jk_model_sealing.specs.SealedInsides.{IsOfClass}
use Rattle.heap_laws.proofs.StillFits.{frame_holds}
use Rattle.number_laws.specs.FrameLaws.{IsTyped}
use Rattle.number_laws.proofs.FrameParts.{with_stack}
use Rattle.number_laws.proofs.ValuesFit.{fits-append}
use Rattle.row_laws.proofs.OperandsOnTop.{does_shape}

module _ (s : CodeScope) (heap : List NamedObject) where
  one_unused : (v : Value) (t : VType) (b : Bool) → ValueFits s heap v t → ValueFits s heap v (if b then Unusable else t)
  one_unused v t true h = tt
  one_unused v t false h = h

  -- some types can't be used any more
  unused : (place : ℕ) (vs : List Value) (ts : List VType) → EachValueFits s heap vs ts
      → EachValueFits s heap vs (replaced (is_made_at place) Unusable ts)
  unused place [] [] h = tt
  unused place [] (t ∷ ts) h = absurd h
  unused place (v ∷ vs) [] h = absurd h
  unused place (v ∷ vs) (t ∷ ts) h = (one_unused v t (is_made_at place t) h.0, unused place vs ts h.1)

pub made_fit : (s : CodeScope) (heap new : List NamedObject) (place : ℕ) (i : Instr) (f g : FrameState) (before after : FrameType) (c : ClassId)
    (a : ℕ) → (typed : IsTyped s heap place i f before after) → typed.row.shape ≡ Makes → MakesAt s place c → IsGrown heap new
    → IsOfClass new a c → Replaces f g [] (Held.Obj a ∷ []) → FrameHolds s new g after
made_fit s heap new place i f g before after c a typed shape makes grown (fields, is) replaces =
    let does = does_shape s heap place i f before after Makes typed shape in
    let old = frame_holds heap new grown s f before typed.holds in
    let below : replaces.below ≡ f.stack = sym (replaces.before ∙ append-nil replaces.below) in
    let object : ValueFits s new (Held.Obj a) (Fresh place) = (_, is, (c, makes, (fields, refl))) in
    let top = fits-append s new f.stack (Held.Obj a ∷ []) before.stack (Fresh place ∷ []) old.stack (object, tt) in
    let stack : EachValueFits s new (replaces.below ++ Held.Obj a ∷ []) after.stack =
    subst (λ (vs : List Value). EachValueFits s new (vs ++ Held.Obj a ∷ []) after.stack) (sym below)
    (subst (EachValueFits s new (f.stack ++ Held.Obj a ∷ [])) (sym (ap (λ (t : FrameType). t.stack) does.1)) top) in
    let locals : EachValueFits s new f.locals after.locals =
    subst (EachValueFits s new f.locals) (sym (ap (λ (t : FrameType). t.locals) does.1)) (unused s new place f.locals before.locals old.locals) in
    let there : FrameHolds s new (with_stack f (replaces.below ++ Held.Obj a ∷ [])) after = record { locals = locals; stack = stack } in
    subst (λ (x : FrameState). FrameHolds s new x after) (sym replaces.after) there
