-- Where entries are taken off the stack and others are put in their place, the frame holds values of the types that are left.
use Rattle.std.proofs.Common.{◌≡◌, ℕ, suc, List, [], ◌∷◌, ◌++◌, length, refl, sym, ap, subst, ◌∙◌}
use Rattle.list_lemmas.proofs.EndsOfLists.{one_split}
use Rattle.jk_model.specs.declared.values.Value.{Value}
use Rattle.jk_model_typing.specs.declared.frames.Demand.{Demand}
use Rattle.jk_model_typing.specs.declared.frames.FrameType.{FrameType}
use Rattle.jk_model_typing.specs.declared.frames.VType.{VType}
use Rattle.jk_model_typing.specs.Groups.{Takes}
use Rattle.jk_model_typing.specs.Rows.{AllMeet, Does}
use Rattle.jk_model_typing.specs.Scopes.{CodeScope}
use Rattle.jk_model_frames.specs.Frames.{FrameState}
use Rattle.jk_model_domains.specs.NumberRows.{Replaces}
use Rattle.jk_model_domains.specs.Objects.{NamedObject}
use Rattle.jk_model_domains.specs.ValueTypes.{EachValueFits, FrameHolds}
use Rattle.number_laws.proofs.FrameParts.{with_stack}
use Rattle.number_laws.proofs.ValuesFit.{end_fits, fits-append, fits-length}

-- as many types meet demands as there are demands
pub as_many : (s : CodeScope) (ds : List Demand) (ts : List VType) → AllMeet s ds ts → length ds ≡ length ts
as_many s [] [] h = refl
as_many s [] (t ∷ ts) h = absurd h
as_many s (d ∷ ds) [] h = absurd h
as_many s (d ∷ ds) (t ∷ ts) h = ap suc (as_many s ds ts h.1)

module _ (s : CodeScope) (heap : List NamedObject) (place : ℕ) (f g : FrameState) (before after : FrameType) (holds : FrameHolds s heap f before) where
  -- entries are taken, and others are put in their place
  pub exchange_kept : (below old gives : List VType) (taken pushed : List Value) → before.stack ≡ below ++ old
      → after.stack ≡ below ++ gives → after.locals ≡ before.locals → Replaces f g taken pushed → length taken ≡ length old
      → (EachValueFits s heap taken old → EachValueFits s heap pushed gives) → FrameHolds s heap g after
  exchange_kept below old gives taken pushed stack now locals rep many fit =
      let split = end_fits s heap f.stack below old (subst (EachValueFits s heap f.stack) stack holds.stack) in
      let whole : rep.below ++ taken ≡ split.front ++ split.back = sym rep.before ∙ split.whole in
      let both = one_split rep.below split.front taken split.back whole (many ∙ sym (fits-length s heap split.back old split.back_fits)) in
      let low : EachValueFits s heap rep.below below = subst (λ (vs : List Value). EachValueFits s heap vs below) (sym both.0) split.front_fits in
      let top : EachValueFits s heap taken old = subst (λ (vs : List Value). EachValueFits s heap vs old) (sym both.1) split.back_fits in
      let new : EachValueFits s heap (rep.below ++ pushed) (below ++ gives) = fits-append s heap rep.below pushed below gives low (fit top) in
      let stacks : EachValueFits s heap (rep.below ++ pushed) after.stack = subst (EachValueFits s heap (rep.below ++ pushed)) (sym now) new in
      let ls : EachValueFits s heap f.locals after.locals = subst (EachValueFits s heap f.locals) (sym locals) holds.locals in
      let there : FrameHolds s heap (with_stack f (rep.below ++ pushed)) after = record { locals = ls; stack = stacks } in
      subst (λ (x : FrameState). FrameHolds s heap x after) (sym rep.after) there

  pub takes_kept : (ds : List Demand) (gives : List VType) (taken pushed : List Value) → Does s place (Takes ds gives) before after
      → Replaces f g taken pushed → length taken ≡ length ds → EachValueFits s heap pushed gives → FrameHolds s heap g after
  takes_kept ds gives taken pushed does rep many fit =
      exchange_kept does.0 does.1 gives taken pushed does.2 (ap (λ (t : FrameType). t.stack) does.4) (ap (λ (t : FrameType). t.locals) does.4) rep
      (many ∙ as_many s ds does.1 does.3) (λ h. fit)
