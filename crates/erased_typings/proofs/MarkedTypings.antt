-- The frames of a typing, lowered one by one, are a typing still, where instructions push no marked reference and neither does a
-- handler or the start. So each least typing has plain frames.
use Rattle.std.proofs.Common.{◌≡◌, ℕ, zero, suc, ◌-◌, Bool, true, false, List, [], ◌∷◌, length, map, flat_map, replicate, Option, Some, None, Contains, refl, sym, ap, ◌∙◌, subst, if◌then◌else◌}
use Rattle.std.specs.Prelude.{option_map, slice_get}
use Rattle.std.specs.List.{AllByRecursion}
use Rattle.std.proofs.lemmas.List.{length-map}
use Rattle.std.proofs.lemmas.Option.{same_Some, none-some, slice_get-map}
use Rattle.jk_model.specs.declared.identifiers.ClassId.{ClassId}
use Rattle.jk_model.specs.declared.identifiers.MemberId.{MemberId}
use Rattle.jk_model.specs.declared.instructions.Instr.{Instr}
use Rattle.jk_model.proofs.EachItem.{all_append}
use Rattle.jk_model_classes.specs.declared.records.Caught.{Caught}
use Rattle.jk_model_classes.specs.declared.records.ClassRecord.{ClassRecord}
use Rattle.jk_model_classes.specs.Classes.{AreOrdered}
use Rattle.jk_model_typing.specs.declared.frames.FrameType.{FrameType}
use Rattle.jk_model_typing.specs.declared.frames.VType.{VType}
use Rattle.jk_model_typing.specs.declared.frames.VType.TheVariants.{Unusable, Long, FreshThis}
use Rattle.jk_model_typing.specs.FrameTypes.{EachFits, FrameFits, IsFrameOf, of_class}
use Rattle.jk_model_typing.specs.Rows.{Row}
use Rattle.jk_model_typing.specs.Scopes.{CodeScope, own_receiver, parameter_values, is_static, is_init}
use Rattle.jk_model_typing.specs.Typing.{FrameAt, FitsAt, GoesWell, IsStart, IsTyping, as_locals, caught_value, handler_frame}
use Rattle.type_frames.proofs.OrderOfFrames.{EachFits-trans, FrameFits-trans}
use Rattle.type_rows.proofs.RowsAreMonotone.{row-monotone}
use Rattle.erased_typings.proofs.MarkedTypes.{lowered, lowered_frame, IsPlain, IsPlainFrame, AreMarks, all-plain, each-below, frame-below, frame-sized, frame-above, each-plain_by_fit}
use Rattle.erased_typings.proofs.MarkedRows.{PushesPlain, shape-gives, does-plain}

abbrev pub lowered_frames : (ClassId → Bool) → List (Option FrameType) → List (Option FrameType)
lowered_frames mark frames = map (λ (o : Option FrameType). option_map (lowered_frame mark) o) frames

-- the types with which code begins are plain: those of parameters, and of what handlers catch
pub record BeginsPlain (s : CodeScope) (mark : ClassId → Bool) : Type 0 where
  pub parameters : AllByRecursion (IsPlain mark) (parameter_values s s.method)
  pub caught : (h : Caught) → Contains s.code.handlers h → IsPlain mark (caught_value s h)

-- ---- Frames by places.

module _ (mark : ClassId → Bool) (frames : List (Option FrameType)) (place : ℕ) where
  frame-lowered : (f : FrameType) → FrameAt frames place f → FrameAt (lowered_frames mark frames) place (lowered_frame mark f)
  frame-lowered f at =
      slice_get-map (λ (o : Option FrameType). option_map (lowered_frame mark) o) frames place
      ∙ ap (λ o. option_map (λ (p : Option FrameType). option_map (lowered_frame mark) p) o) at

  from_by : (o : Option (Option FrameType)) (f : FrameType)
      → option_map (λ (p : Option FrameType). option_map (lowered_frame mark) p) o ≡ Some (Some f)
      → (g : FrameType) × (o ≡ Some (Some g)) × (lowered_frame mark g ≡ f)
  from_by None f e = absurd (none-some (Some f) e)
  from_by (Some None) f e = absurd (none-some f (same_Some None (Some f) e))
  from_by (Some (Some g)) f e =
      (g, refl, same_Some (lowered_frame mark g) f (same_Some (Some (lowered_frame mark g)) (Some f) e))

  pub frame-from_lowered : (f : FrameType) → FrameAt (lowered_frames mark frames) place f
      → (g : FrameType) × FrameAt frames place g × (lowered_frame mark g ≡ f)
  frame-from_lowered f at =
      from_by (slice_get frames place) f
      (sym (slice_get-map (λ (o : Option FrameType). option_map (lowered_frame mark) o) frames place) ∙ at)

-- ---- The start.

module _ (mark : ClassId → Bool) where
  plain_as_locals : (v : VType) → IsPlain mark v → AllByRecursion (IsPlain mark) (as_locals v)
  plain_as_locals Long h = (tt, (tt, tt))
  plain_as_locals v h = (h, tt)

  plain_given : (vs : List VType) → AllByRecursion (IsPlain mark) vs → AllByRecursion (IsPlain mark) (flat_map as_locals vs)
  plain_given [] h = tt
  plain_given (v ∷ vs) h = all_append (IsPlain mark) (as_locals v) (flat_map as_locals vs) (plain_as_locals v h.0) (plain_given vs h.1)

  plain_unused : (n : ℕ) → AllByRecursion (IsPlain mark) (replicate n Unusable)
  plain_unused zero = tt
  plain_unused (suc n) = (tt, plain_unused n)

  receiver_by : (static init : Bool) (v : VType) → IsPlain mark v
      → AllByRecursion (IsPlain mark) (if static then [] else (if init then FreshThis ∷ [] else v ∷ []))
  receiver_by true init v h = tt
  receiver_by false true v h = (tt, tt)
  receiver_by false false v h = (h, tt)

module _ (s : CodeScope) (mark : ClassId → Bool) (marks : AreMarks s.classes mark) (ordered : AreOrdered s.classes)
    (pushes : PushesPlain s mark) (begins : BeginsPlain s mark) where
  pub start-plain : (f : FrameType) → IsStart s f → IsPlainFrame mark f
  start-plain f start =
      let receiver : AllByRecursion (IsPlain mark) (own_receiver s) =
      receiver_by mark (is_static s.method) (is_init s.method) (of_class s.classes s.self) pushes.own in
      let arguments = plain_given mark (parameter_values s s.method) begins.parameters in
      let given : AllByRecursion (IsPlain mark) start.given =
      rw (start.given_is) (all_append (IsPlain mark) (own_receiver s) (flat_map as_locals (parameter_values s s.method)) receiver arguments) in
      let unused = plain_unused mark (s.code.max_locals - length start.given) in (
        rw (start.locals) (all_append (IsPlain mark) start.given (replicate (s.code.max_locals - length start.given) Unusable) given unused),
        rw (start.stack) tt,
      )

  module _ (frames : List (Option FrameType)) where
    -- what fits a frame, and is plain, fits it lowered
    plain-fits_at : (place : ℕ) (f : FrameType) → IsPlainFrame mark f → FitsAt s frames place f → FitsAt s (lowered_frames mark frames) place f
    plain-fits_at place f plain (g, at, fits) =
        (lowered_frame mark g, frame-lowered mark frames place g at, frame-above mark s.classes marks f g fits plain)

    -- what fits something that fits a frame
    fits_at-below : (place : ℕ) (f g : FrameType) → FrameFits s.classes f g → FitsAt s frames place g → FitsAt s frames place f
    fits_at-below place f g below (h, at, fits) = (h, at, FrameFits-trans s.classes ordered f g h below fits)

    handler-below : (h : Caught) (xs ys : List VType) (fresh : Bool) → EachFits s.classes xs ys
        → FitsAt s frames h.handler (handler_frame s h ys fresh) → FitsAt s frames h.handler (handler_frame s h xs fresh)
    handler-below h xs ys fresh below (g, at, fits) = (
      g,
      at,
      record {
        locals = EachFits-trans s.classes ordered xs ys g.locals below fits.locals;
        stack = fits.stack;
        usable = fits.usable;
        fresh = fits.fresh;
      },
    )

    module _ (place : ℕ) (i : Instr) (g : FrameType) where
      well-lowered : FrameAt frames place g → (after : FrameType) → Row s place i (lowered_frame mark g) after
          → (well : GoesWell s frames place i g) → FrameFits s.classes after well.after
          → GoesWell s (lowered_frames mark frames) place i (lowered_frame mark g)
      well-lowered at after row well fits =
          let plain : IsPlainFrame mark (lowered_frame mark g) = (all-plain mark g.locals, all-plain mark g.stack) in
          let plain_after : IsPlainFrame mark after =
          does-plain s mark place (lowered_frame mark g) after plain pushes.own row.shape (shape-gives s mark pushes i row.shape row.shape_is) row.does in
          record {
            after = after;
            row = row;
            goes_on = λ next goes.
                let on = well.goes_on next goes in
                (on.0, on.1, plain-fits_at on.0 after plain_after (fits_at-below on.0 after well.after fits on.2));
            caught = λ h is covers.
                plain-fits_at h.handler (handler_frame s h (map (lowered mark) g.locals) g.fresh) (plain.0, (begins.caught h is, tt))
                (handler-below h (map (lowered mark) g.locals) g.locals g.fresh (each-below mark s.classes g.locals) (well.caught h is covers));
            caught_after = λ h is covers stores.
                plain-fits_at h.handler (handler_frame s h after.locals g.fresh) (plain_after.0, (begins.caught h is, tt))
                (handler-below h after.locals well.after.locals g.fresh fits.locals (well.caught_after h is covers stores));
          }

-- ---- Typings.

module _ (classes : List ClassRecord) (m : MemberId) (frames : List (Option FrameType)) (typing : IsTyping classes m frames)
    (mark : ClassId → Bool) (marks : AreMarks classes mark) (ordered : AreOrdered classes)
    (pushes : PushesPlain typing.scope mark) (begins : BeginsPlain typing.scope mark) where
  abbrev here : CodeScope
  here = typing.scope

  marks_here : AreMarks here.classes mark
  marks_here = subst (λ all. AreMarks all mark) (sym typing.scope_is.all) marks

  ordered_here : AreOrdered here.classes
  ordered_here = subst AreOrdered (sym typing.scope_is.all) ordered

  well_at : (place : ℕ) (i : Instr) (f g : FrameType) → slice_get here.code.instrs place ≡ Some i → FrameAt frames place g
      → lowered_frame mark g ≡ f → GoesWell here (lowered_frames mark frames) place i f
  well_at place i f g instr at e =
      let well = typing.each place i g instr at in
      let sized = typing.sized place g at in
      let below = frame-below mark here.classes g sized.usable in
      let row = row-monotone here ordered_here place i (lowered_frame mark g) g well.after below (frame-sized mark here.classes here.code g sized) well.row in
      subst (λ (x : FrameType). GoesWell here (lowered_frames mark frames) place i x) e
      (well-lowered here mark marks_here ordered_here pushes begins frames place i g
      at row.0 row.1 well row.2)

  pub typing-lowered : IsTyping classes m (lowered_frames mark frames)
  typing-lowered =
      record {
        scope = here;
        scope_is = typing.scope_is;
        as_many = length-map frames (λ (o : Option FrameType). option_map (lowered_frame mark) o) ∙ typing.as_many;
        sized = λ place f at.
            let from = frame-from_lowered mark frames place f at in
            subst (λ (x : FrameType). IsFrameOf here.code x) from.2 (frame-sized mark here.classes here.code from.0 (typing.sized place from.0 from.1));
        start = typing.start;
        start_is = typing.start_is;
        first = plain-fits_at here mark marks_here ordered_here pushes begins frames 0 typing.start
            (start-plain here mark marks_here ordered_here pushes begins typing.start typing.start_is) typing.first;
        each = λ place i f instr at.
            let from = frame-from_lowered mark frames place f at in
            well_at place i f from.0 instr from.1 from.2;
      }

  -- each frame of a least typing is plain
  pub least-plain : ((other : List (Option FrameType)) → IsTyping classes m other → (place : ℕ) (f : FrameType) → FrameAt frames place f
      → (g : FrameType) × FrameAt other place g × FrameFits classes f g) → (place : ℕ) (f : FrameType) → FrameAt frames place f → IsPlainFrame mark f
  least-plain least place f at =
      let above = least (lowered_frames mark frames) typing-lowered place f at in
      let same : Some (Some (lowered_frame mark f)) ≡ Some (Some above.0) = sym (frame-lowered mark frames place f at) ∙ above.1 in
      let lowest : lowered_frame mark f ≡ above.0 =
      same_Some (lowered_frame mark f) above.0 (same_Some (Some (lowered_frame mark f)) (Some above.0) same) in
      let fits : FrameFits classes f (lowered_frame mark f) = subst (λ (x : FrameType). FrameFits classes f x) (sym lowest) above.2 in
      (each-plain_by_fit mark classes f.locals fits.locals, each-plain_by_fit mark classes f.stack fits.stack)
