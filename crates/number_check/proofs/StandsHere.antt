-- What is known of a frame that runs code and fits: its typing in the scope of that code; and that it fits again where it goes on.
use Rattle.std.proofs.Common.{◌≡◌, List, Option, Some, slice_get, sym, subst, ◌∙◌}
use Rattle.std.proofs.lemmas.Option.{same_Some}
use Rattle.jk_model.specs.declared.identifiers.MemberId.{MemberId}
use Rattle.jk_model_classes.specs.declared.records.ClassRecord.{ClassRecord}
use Rattle.jk_model_classes.specs.Classes.{AreOrdered}
use Rattle.jk_model_typing.specs.declared.frames.FrameType.{FrameType}
use Rattle.jk_model_typing.specs.FrameTypes.{IsFrameOf}
use Rattle.jk_model_typing.specs.Scopes.{CodeScope, IsScopeOf}
use Rattle.jk_model_typing.specs.Typing.{FitsAt, FrameAt, GoesWell}
use Rattle.typing_lemmas.proofs.OneScope.{one-scope}
use Rattle.jk_model_frames.specs.Frames.{FrameState}
use Rattle.jk_model_domains.specs.Objects.{NamedObject}
use Rattle.jk_model_domains.specs.ValueTypes.{FrameHolds}
use Rattle.jk_model_heaps.specs.RunningCode.{RunsCode}
use Rattle.jk_model_sound_classes.specs.VerifiedMethods.{IsVerified}
use Rattle.number_laws.proofs.ValuesAbove.{frame-above}
use Rattle.number_check.specs.TypedFrames.{FitsHere, HasTyping}

-- The frame's typing in the scope of its code, where this is known of it.
pub record Typed (classes : List ClassRecord) (f : FrameState) (code : RunsCode classes f) (before : FrameType) : Type 0 where
  pub frames : List (Option FrameType)
  pub verified : IsVerified classes code.method frames
  pub stands : FrameAt frames f.head.at before
  pub room : (f.head.max_locals ≡ code.scope.code.max_locals) × (f.head.max_stack ≡ code.scope.code.max_stack)
  pub sized : IsFrameOf code.scope.code before
  pub goes : GoesWell code.scope frames f.head.at code.instr before

pub record Stands (classes : List ClassRecord) (heap : List NamedObject) (f : FrameState) (code : RunsCode classes f) : Type 0 where
  pub before : FrameType
  pub typed : Typed classes f code before
  pub holds : FrameHolds code.scope heap f before

module _ (classes : List ClassRecord) (f : FrameState) (code : RunsCode classes f) (t : HasTyping classes f) where
  same_method : t.method ≡ code.method
  same_method = same_Some t.method code.method (sym t.is_method ∙ code.is_method)

  same_scope : t.scope ≡ code.scope
  same_scope =
      one-scope classes code.method t.scope code.scope (subst (λ (m : MemberId). IsScopeOf classes m t.scope) same_method t.is_scope) code.is_scope

  pub typed-here : Typed classes f code t.type
  typed-here =
      let verified : IsVerified classes code.method t.frames = subst (λ (m : MemberId). IsVerified classes m t.frames) same_method t.is_verified in
      let typing = verified.typing in
      let typed : typing.scope ≡ code.scope = one-scope classes code.method typing.scope code.scope typing.scope_is code.is_scope in
      let instr : slice_get typing.scope.code.instrs f.head.at ≡ Some code.instr =
      subst (λ (s : CodeScope). slice_get s.code.instrs f.head.at ≡ Some code.instr) (sym typed) code.stands in
      record {
        frames = t.frames;
        verified = verified;
        stands = t.stands;
        room = subst (λ (s : CodeScope). (f.head.max_locals ≡ s.code.max_locals) × (f.head.max_stack ≡ s.code.max_stack)) same_scope t.room;
        sized = subst (λ (s : CodeScope). IsFrameOf s.code t.type) typed (typing.sized f.head.at t.type t.stands);
        goes = subst (λ (s : CodeScope). GoesWell s t.frames f.head.at code.instr t.type) typed (typing.each f.head.at code.instr t.type instr t.stands);
      }

  pub stands-here : (heap : List NamedObject) → FrameHolds t.scope heap f t.type → Stands classes heap f code
  stands-here heap h =
      record { before = t.type; typed = typed-here; holds = subst (λ (s : CodeScope). FrameHolds s heap f t.type) same_scope h }

module _ (classes : List ClassRecord) (heap : List NamedObject) (ordered : AreOrdered classes) (f : FrameState) (code : RunsCode classes f)
    (before : FrameType) (here : Typed classes f code before) where
  pub ordered-here : AreOrdered code.scope.classes
  ordered-here = subst AreOrdered (sym code.is_scope.all) ordered

  -- it fits at a place whose frame type it fits
  pub fits-on : (g : FrameState) (after : FrameType) → g.head.method ≡ f.head.method → g.head.max_locals ≡ f.head.max_locals
      → g.head.max_stack ≡ f.head.max_stack → FitsAt code.scope here.frames g.head.at after → FrameHolds code.scope heap g after
      → FitsHere classes heap g
  fits-on g after method locals stack fits holds =
      let typing : HasTyping classes g = record {
        method = code.method;
        is_method = method ∙ code.is_method;
        scope = code.scope;
        is_scope = code.is_scope;
        room = (locals ∙ here.room.0, stack ∙ here.room.1);
        frames = here.frames;
        is_verified = here.verified;
        type = fits.0;
        stands = fits.1;
      } in
      (typing, frame-above code.scope heap ordered-here g after fits.0 holds fits.2)
