-- The frames of a segment stay sealed where its top frame is replaced by one that the frame below can't tell from it.
use Rattle.std.proofs.Common.{inl, inr, ◌≡◌, List, [], ◌∷◌, ◌++◌, None, sym, ap, subst, ◌∙◌}
use Rattle.std.specs.List.{AllByRecursion}
use Rattle.list_lemmas.proofs.LastItems.{each-append}
use Rattle.jk_model.specs.declared.frames.FrameHead.{FrameHead}
use Rattle.jk_model_classes.specs.declared.records.ClassRecord.{ClassRecord}
use Rattle.jk_model_frames.specs.Frames.{FrameState}
use Rattle.jk_model_domains.specs.Objects.{NamedObject}
use Rattle.jk_model_heaps.specs.Heaps.{IsGrown}
use Rattle.jk_model_sealing.specs.FittingFrames.{FitsAsCaller, FitsAsTop, FitsHere, FramesFit, InitialisesWell}
use Rattle.jk_model_sealing.specs.SealedInsides.{Surroundings}
use Rattle.jk_model_sealing.specs.SealedRuns.{AreSealedFrames, IsAtHome, NamesKnown}
use Rattle.heap_laws.proofs.StillFits.{fits_as_top, frames_sealed}
use Rattle.heap_laws.specs.RaisableObjects.{MayMeetRaise}
use Rattle.row_laws.proofs.NamesStayKnown.{known-parts}

module _ (classes : List ClassRecord) (heap : List NamedObject) (A B : FrameState → Type 0) where
  caller_still : (c f g : FrameState) → g.head.initialises ≡ f.head.initialises → FitsAsCaller classes heap c f → FitsAsCaller classes heap c g
  caller_still c f g same (inl h) = inl (λ e. h.0 (sym same ∙ e), h.1)
  caller_still c f g same (inr h) = inr (same ∙ h.0, h.1)

  fit_replaced : (callers : List FrameState) (f g : FrameState) → g.head.initialises ≡ f.head.initialises → B g
      → FramesFit A classes heap (callers ++ f ∷ []) → FramesFit B classes heap (callers ++ g ∷ [])
  fit_replaced [] f g same b h = b
  fit_replaced (c ∷ []) f g same b h = (caller_still c f g same h.0, b)
  fit_replaced (c ∷ d ∷ more) f g same b h = (h.0, fit_replaced (d ∷ more) f g same b h.1)

all_with : (P : FrameState → Type 0) (callers : List FrameState) (f g : FrameState) → AllByRecursion P (callers ++ f ∷ []) → (P f → P g)
    → AllByRecursion P (callers ++ g ∷ [])
all_with P callers f g all one =
    let parts = known-parts P callers (f ∷ []) all in each-append P callers (g ∷ []) parts.0 (one parts.1.0, tt)

-- a frame with the same head, in a heap that has grown
module _ (around : Surroundings) (old new : List NamedObject) (grown : IsGrown old new) (callers : List FrameState) (f g : FrameState)
    (head : g.head ≡ f.head) (known : NamesKnown around.caps new g) where
  pub raising_sealed : g.head.need ≡ None → FitsHere around.classes new g
      → AreSealedFrames around (FitsAsTop around.classes old) old (callers ++ f ∷ [])
      → AreSealedFrames around (MayMeetRaise around.classes new) new (callers ++ g ∷ [])
  raising_sealed none fits sealed =
      let there = frames_sealed old new grown (FitsAsTop around.classes old) (FitsAsTop around.classes new)
      (fits_as_top old new grown around.classes) around (callers ++ f ∷ []) sealed in
      record {
        fit = fit_replaced around.classes new (FitsAsTop around.classes new) (MayMeetRaise around.classes new) callers f g
            (ap (λ (h : FrameHead). h.initialises) head) (inl (inr (inl none, fits))) there.fit;
        initialise = all_with (InitialisesWell around.classes) callers f g there.initialise
            (λ well. subst (λ (h : FrameHead). InitialisesWell around.classes (record g { head = h })) (sym head) well);
        at_home = all_with (IsAtHome around.table) callers f g there.at_home
            (λ home. subst (λ (h : FrameHead). IsAtHome around.table (record g { head = h })) (sym head) home);
        known = all_with (NamesKnown around.caps new) callers f g there.known (λ before. known);
      }

-- any frames, where nothing changed and the top one runs
pub meeting_sealed : (around : Surroundings) (heap : List NamedObject) (frames : List FrameState) → IsGrown heap heap
    → AreSealedFrames around (FitsAsTop around.classes heap) heap frames → AreSealedFrames around (MayMeetRaise around.classes heap) heap frames
meeting_sealed around heap frames grown sealed =
    frames_sealed heap heap grown (FitsAsTop around.classes heap) (MayMeetRaise around.classes heap) (λ f fits. inl fits) around frames sealed
