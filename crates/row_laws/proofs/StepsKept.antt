-- Each step of a segment keeps what is kept, by its case.
use Rattle.std.proofs.Common.{inl, inr, ◌≡◌, List, None, refl, sym, subst, arith}
use Rattle.jk_model.specs.declared.identifiers.ThreadNo.{ThreadNo}
use Rattle.jk_model.specs.declared.steps.Raise.TheVariants as Raised
use Rattle.jk_model.specs.declared.steps.Standing.TheVariants as Stands
use Rattle.jk_model_classes.specs.declared.records.ClassRecord.{ClassRecord}
use Rattle.jk_model_classes.specs.Worlds.{NamedClass}
use Rattle.jk_model_heaps.specs.Capabilities.{CapRange}
use Rattle.jk_model_heaps.specs.SystemClasses.{NO_CLASS_DEF_FOUND_ERROR}
use Rattle.jk_model_heaps.specs.Workings.{Run, Setting}
use Rattle.jk_model_running.specs.LocalSteps.{Continues, DoesInstr, LocalStep, TopFrame, does, lacks_constants, meets_broken, need_falls, overflows, sets_constants, touches}
use Rattle.jk_model_running.specs.Ways.{Went, GoesOn}
use Rattle.jk_model_sealing.specs.FittingFrames.{FitsAsTop, FitsHere}
use Rattle.jk_model_sealing.specs.SealedInsides.{Surroundings}
use Rattle.row_laws.specs.HeapRowLaws.{HeapRowsKeep}
use Rattle.heap_laws.specs.RunningFrames.{RunsWell}
use Rattle.row_laws.proofs.SystemParents.{below_listed}
use Rattle.row_laws.specs.KeptRuns.{ActsWell, KeepsRun}
use Rattle.row_laws.proofs.ActingSegments.{class_done, fits_top, known_top, may_raise, stays_inside}
use Rattle.row_laws.proofs.ConstantsKept.{constants_keep, constants_progress}
use Rattle.row_laws.proofs.InstructionsFollowed.{followed}
use Rattle.row_laws.proofs.InstructionsKept.{instruction_kept}
use Rattle.row_laws.proofs.NeedsKept.{need_gone, plain_has_method, touched}
use Rattle.row_laws.proofs.RaisesKept.{raise_kept}

-- The surroundings have the setting's own classes.
module _ (rows : HeapRowsKeep) (x : Setting) (table : List NamedClass) (caps : List CapRange) (t : ThreadNo) (old : Run) where
  abbrev around : Surroundings
  around = record { classes = x.classes; table = table; caps = caps }

  module _ (acts : ActsWell around x t old) where
    -- ---- An instruction.

    pub here_of : (top : TopFrame old) → top.frame.head.need ≡ None → FitsHere x.classes old.inside.heap top.frame
    here_of top no_need = by_case (fits_top around x t old acts top)
      where
        by_case : FitsAsTop x.classes old.inside.heap top.frame → FitsHere x.classes old.inside.heap top.frame
        by_case (inl empty) = absurd (empty.need no_need)
        by_case (inr (well, here)) = here

    pub runs_well : (top : TopFrame old) → top.frame.head.need ≡ None → RunsWell around x (record { inside = old.inside; frame = top.frame })
    runs_well top no_need =
        let known = known_top around x t old acts top in
        record {
          setting = acts.setting;
          inside = acts.sealed.inside;
          no_need = no_need;
          fits = here_of top no_need;
          at_home = known.at_home;
          known = known.known;
        }

    instr_done : (at : DoesInstr x t old) (new : Run) (went : Went) → Continues x at.top.callers at.working at.outcome new went
        → KeepsRun around x t old new went
    instr_done at new went continues =
        let both = instruction_kept rows around x (record { inside = old.inside; frame = at.top.frame }) at.working at.outcome
        (runs_well at.top at.no_need) at.code
        at.executes in
        followed around x t old acts at.top at.code at.no_need at.working both.0 at.outcome new went continues both.1

    -- ---- All cases.

    pub kept_by : (new : Run) (went : Went) → LocalStep x t old new went → KeepsRun around x t old new went
    kept_by new went (touches class at room is) =
        subst (λ (y : Run). KeepsRun around x t old y GoesOn) (sym is)
        (touched around x t old acts at.top class at.needs at.untouched at.head at.is_head room)
    kept_by new went (overflows class at unwound short raises) =
        raise_kept around x t old (may_raise around x t old acts) (Raised.Standing Stands.StackOverflowError) tt new unwound raises
    kept_by new went (meets_broken at unwound raises) =
        raise_kept around x t old (may_raise around x t old acts) (Raised.Fresh NO_CLASS_DEF_FOUND_ERROR)
        (omega arith, below_listed x.classes acts.setting.codes 9 NO_CLASS_DEF_FOUND_ERROR.0 9 refl) new unwound raises
    kept_by new went (need_falls at plain is) =
        subst (λ (y : Run). KeepsRun around x t old y GoesOn) (sym is)
        (need_gone around x t old acts at.top old.inside (stays_inside around x old.inside acts.sealed.inside) (λ u c. refl)
        (plain_has_method around x t old acts at.top plain))
    kept_by new went (sets_constants at of set sets (inl (some, is))) =
        subst (λ (y : Run). KeepsRun around x t old y GoesOn) (sym is)
        (need_gone around x t old acts at.top set
        (constants_keep around x of.class of.of_class old.inside set acts.setting acts.sealed.inside of.is_class sets)
        (constants_progress around x of.class of.of_class old.inside set acts.setting acts.sealed.inside of.is_class sets) some)
    kept_by new went (sets_constants at of set sets (inr (none, some, is))) =
        subst (λ (y : Run). KeepsRun around x t old y GoesOn) (sym is)
        (class_done around x t old acts at.top set
        (constants_keep around x of.class of.of_class old.inside set acts.setting acts.sealed.inside of.is_class sets)
        (constants_progress around x of.class of.of_class old.inside set acts.setting acts.sealed.inside of.is_class sets) of.class of.initialises some)
    kept_by new went (lacks_constants at of unwound lacks raises) =
        raise_kept around x t old (may_raise around x t old acts) (Raised.Standing Stands.OutOfMemoryError) tt new unwound raises
    kept_by new went (does at way continues) = instr_done at new way continues

-- In any surroundings of the setting.
pub step_kept : HeapRowsKeep → (around : Surroundings) (x : Setting) (t : ThreadNo) (old new : Run) (went : Went) → ActsWell around x t old
    → LocalStep x t old new went → KeepsRun around x t old new went
step_kept rows around x t old new went acts step =
    subst
    (λ (classes : List ClassRecord). ActsWell (record around { classes = classes }) x t old
    → KeepsRun (record around { classes = classes }) x t old new went) acts.setting.classes
    (λ known. kept_by rows x around.table around.caps t old known new went step) acts
