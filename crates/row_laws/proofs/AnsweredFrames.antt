-- A frame that waits for an answer from outside of its domain goes on with it.
use Rattle.std.proofs.Common.{inl, inr, ◌≡◌, List, [], ◌∷◌, ◌++◌, Option, refl, sym, subst, ◌∙◌}
use Rattle.list_lemmas.proofs.ItemsOfLists.{each-weaker}
use Rattle.list_lemmas.proofs.LastItems.{each-append, one_last}
use Rattle.jk_model.specs.declared.identifiers.CapId.{CapId}
use Rattle.jk_model.specs.declared.identifiers.ThreadNo.{ThreadNo}
use Rattle.jk_model.specs.declared.values.Value.{Value}
use Rattle.jk_model.specs.declared.values.Value.TheVariants as Held
use Rattle.jk_model_classes.specs.declared.records.ClassRecord.{ClassRecord}
use Rattle.jk_model_classes.specs.Worlds.{NamedClass}
use Rattle.jk_model_domains.specs.Objects.{NamedObject}
use Rattle.jk_model_frames.specs.Frames.{FrameState}
use Rattle.jk_model_heaps.specs.CalledFrames.{as_entries, resumed}
use Rattle.jk_model_heaps.specs.Capabilities.{CapRange, IsGivenOut}
use Rattle.jk_model_heaps.specs.Workings.{Request, Run, Setting}
use Rattle.jk_model_running.specs.LocalSteps.{LocalStep, TopFrame, with_top}
use Rattle.jk_model_running.specs.Ways.{Asks}
use Rattle.jk_model_sealing.specs.FittingFrames.{FitsAsTop, FitsAtCall}
use Rattle.jk_model_sealing.specs.SealedInsides.{IsKnownValue, Surroundings}
use Rattle.jk_model_sealing.specs.SealedRuns.{NamesKnown}
use Rattle.row_laws.specs.HeapRowLaws.{HeapRowsKeep}
use Rattle.heap_laws.specs.FittingOutcomes.{AwaitsAnswer, IsResult, answer_type}
use Rattle.heap_laws.specs.SoundCodes.{AreSoundCodes}
use Rattle.row_laws.proofs.CallersResume.{resumes}
use Rattle.row_laws.specs.KeptRuns.{ActsWell, AwaitOn, RunOn}
use Rattle.row_laws.specs.LocalStepLaws.{HasMoreCapabilities}
use Rattle.row_laws.proofs.FramesInARow.{Stand, top_known, top_replaced}
use Rattle.row_laws.proofs.InstructionsFollowed.{value_known}
use Rattle.row_laws.proofs.StepsKept.{step_kept}

-- ---- More capabilities.

module _ (old new : List CapRange) (more : (k : CapId) → IsGivenOut old k → IsGivenOut new k) (heap : List NamedObject) where
  known_more : (v : Value) → IsKnownValue old heap v → IsKnownValue new heap v
  known_more (Held.Obj a) h = h
  known_more (Held.Cap k) h = more k h
  known_more v h = tt

  names_more : (f : FrameState) → NamesKnown old heap f → NamesKnown new heap f
  names_more f (locals, stack) = (
    each-weaker (IsKnownValue old heap) (IsKnownValue new heap) known_more f.locals locals,
    each-weaker (IsKnownValue old heap) (IsKnownValue new heap) known_more f.stack stack,
  )

-- ---- The frame.

module _ (around : Surroundings) (sound : AreSoundCodes around.classes) (caps : List CapRange)
    (more : (k : CapId) → IsGivenOut around.caps k → IsGivenOut caps k) (run : Run) (request : Request) (v : Option Value) (top : TopFrame run)
    (fits : AwaitOn around run) (waits : AwaitsAnswer around run.inside.heap top.frame request) where
  abbrev wide : Surroundings
  wide = record around { caps = caps }

  stand : Stand wide (FitsAtCall around.classes run.inside.heap) run.inside.heap (top.callers ++ top.frame ∷ [])
  stand =
      subst (Stand wide (FitsAtCall around.classes run.inside.heap) run.inside.heap) top.are_frames (
        record {
          fit = fits.0.fit;
          initialise = fits.0.initialise;
          at_home = fits.0.at_home;
          known = each-weaker (NamesKnown around.caps run.inside.heap) (NamesKnown caps run.inside.heap)
              (names_more around.caps caps more run.inside.heap) run.frames fits.0.known;
        },
        fits.1,
      )

  pub answered : IsResult wide run.inside.heap (answer_type request) v → RunOn wide (with_top top.callers (resumed v top.frame) run.inside)
  answered is =
      let known = top_known wide run.inside.heap (FitsAtCall around.classes run.inside.heap) top.callers top.frame stand in
      top_replaced wide run.inside.heap (FitsAtCall around.classes run.inside.heap) top.callers top.frame stand
      (FitsAsTop around.classes run.inside.heap) (resumed v top.frame) (refl, refl)
      (inr (inl waits.stands.no_need, resumes wide sound run.inside.heap top.frame waits.stands (answer_type request) v waits.awaits is))
      (record {
        initialises = known.initialises;
        at_home = known.at_home;
        known = (
          known.known.0,
          each-append (IsKnownValue caps run.inside.heap) top.frame.stack (as_entries v) known.known.1
              (value_known wide run.inside.heap (answer_type request) v is),
        );
      })

-- ---- In surroundings with more capabilities.

pub answered_runs_on : HeapRowsKeep → (around wide : Surroundings) (x : Setting) (t : ThreadNo) (old run : Run) (request : Request) (v : Option Value)
    (top : TopFrame run) → HasMoreCapabilities around wide → ActsWell around x t old → LocalStep x t old run (Asks request)
    → IsResult wide run.inside.heap (answer_type request) v → RunOn wide (with_top top.callers (resumed v top.frame) run.inside)
answered_runs_on rows around wide x t old run request v top more acts step is =
    let kept = step_kept rows around x t old run (Asks request) acts step in
    let other : TopFrame run = kept.fits.1.0 in
    let same : other.frame ≡ top.frame =
    (one_last other.callers top.callers other.frame top.frame (sym other.are_frames ∙ top.are_frames)).1 in
    let waits : AwaitsAnswer around run.inside.heap top.frame request =
    subst (λ (f : FrameState). AwaitsAnswer around run.inside.heap f request) same kept.fits.1.1 in
    subst
    (λ (classes : List ClassRecord). IsResult (record wide { classes = classes }) run.inside.heap (answer_type request) v
    → RunOn (record wide { classes = classes }) (with_top top.callers (resumed v top.frame) run.inside)) (sym more.classes)
    (subst
    (λ (table : List NamedClass). IsResult (record around { table = table; caps = wide.caps }) run.inside.heap (answer_type request) v
    → RunOn (record around { table = table; caps = wide.caps }) (with_top top.callers (resumed v top.frame) run.inside)) (sym more.table)
    (answered around acts.setting.codes wide.caps more.given_out run request v top kept.fits.0 waits)) is
