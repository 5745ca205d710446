-- What an instruction takes is on top of the stack, and meets what it asks; what takes its place, in a heap that may have grown, fits.
use Rattle.std.proofs.Common.{◌≡◌, ℕ, suc, List, [], ◌∷◌, length, refl, ap, subst}
use Rattle.jk_model.specs.declared.instructions.Instr.{Instr}
use Rattle.jk_model.specs.declared.values.Value.{Value}
use Rattle.jk_model_typing.specs.declared.frames.Demand.{Demand}
use Rattle.jk_model_typing.specs.declared.frames.FrameType.{FrameType}
use Rattle.jk_model_typing.specs.declared.frames.VType.{VType}
use Rattle.jk_model_typing.specs.Groups.{Shape, Takes}
use Rattle.jk_model_typing.specs.Rows.{AllMeet, Does}
use Rattle.jk_model_typing.specs.Scopes.{CodeScope}
use Rattle.jk_model_frames.specs.Frames.{FrameState}
use Rattle.jk_model_domains.specs.NumberRows.{IsOnTop, Replaces}
use Rattle.jk_model_domains.specs.Objects.{NamedObject}
use Rattle.jk_model_domains.specs.ValueTypes.{EachValueFits, FrameHolds}
use Rattle.jk_model_heaps.specs.Heaps.{IsGrown}
use Rattle.heap_laws.proofs.StillFits.{frame_holds}
use Rattle.number_laws.specs.FrameLaws.{IsTyped}
use Rattle.number_laws.proofs.EntriesExchanged.{takes_kept}
use Rattle.number_laws.proofs.ValuesFit.{end_fits}
use Rattle.row_laws.specs.Operands.{ValuesMeet}

module _ (s : CodeScope) (heap : List NamedObject) where
  values_meet : (ds : List Demand) (vs : List Value) (ts : List VType) → EachValueFits s heap vs ts → AllMeet s ds ts → ValuesMeet s heap ds vs
  values_meet [] [] [] h k = tt
  values_meet [] [] (t ∷ ts) h k = absurd k
  values_meet [] (v ∷ vs) [] h k = absurd h
  values_meet [] (v ∷ vs) (t ∷ ts) h k = absurd k
  values_meet (d ∷ ds) [] [] h k = absurd k
  values_meet (d ∷ ds) (v ∷ vs) [] h k = absurd k
  values_meet (d ∷ ds) [] (t ∷ ts) h k = absurd h
  values_meet (d ∷ ds) (v ∷ vs) (t ∷ ts) h k = ((t, k.0, h.0), values_meet ds vs ts h.1 k.1)

  pub as_many_meet : (ds : List Demand) (vs : List Value) → ValuesMeet s heap ds vs → length vs ≡ length ds
  as_many_meet [] [] h = refl
  as_many_meet [] (v ∷ vs) h = absurd h
  as_many_meet (d ∷ ds) [] h = absurd h
  as_many_meet (d ∷ ds) (v ∷ vs) h = ap suc (as_many_meet ds vs h.1)

-- the typing does what the shape says
pub does_shape : (s : CodeScope) (heap : List NamedObject) (place : ℕ) (i : Instr) (f : FrameState) (before after : FrameType) (shape : Shape)
    → (typed : IsTyped s heap place i f before after) → typed.row.shape ≡ shape → Does s place shape before after
does_shape s heap place i f before after shape typed is = subst (λ (y : Shape). Does s place y before after) is typed.row.does

module _ (s : CodeScope) (heap : List NamedObject) (place : ℕ) (i : Instr) (f : FrameState) (before after : FrameType) (demands : List Demand)
    (gives : List VType) (typed : IsTyped s heap place i f before after) (takes : typed.row.shape ≡ Takes demands gives) where
  abbrev does : Does s place (Takes demands gives) before after
  does = does_shape s heap place i f before after (Takes demands gives) typed takes

  pub taken_meet : (taken : List Value) × IsOnTop f taken × ValuesMeet s heap demands taken
  taken_meet =
      let split = end_fits s heap f.stack does.0 does.1 (subst (EachValueFits s heap f.stack) does.2 typed.holds.stack) in
      (split.back, (split.front, split.whole), values_meet s heap demands split.back does.1 split.back_fits does.3)

  pub pushed_fit : (new : List NamedObject) (g : FrameState) (taken pushed : List Value) → ValuesMeet s heap demands taken
      → Replaces f g taken pushed → IsGrown heap new → EachValueFits s new pushed gives → FrameHolds s new g after
  pushed_fit new g taken pushed meet replaces grown fit =
      takes_kept s new place f g before after (frame_holds heap new grown s f before typed.holds) demands gives taken pushed does replaces
      (as_many_meet s heap demands taken meet) fit
