-- What is raised in a segment keeps what is kept: the object is made, and then the segment is unwound.
use Rattle.std.proofs.Common.{◌≡◌, List, ap, ◌∙◌, arith}
use Rattle.jk_model.specs.declared.identifiers.ClassId.{ClassId}
use Rattle.jk_model.specs.declared.identifiers.ThreadNo.{ThreadNo}
use Rattle.jk_model.specs.declared.steps.Raise.{Raise}
use Rattle.jk_model_domains.specs.OwnStates.{OwnState}
use Rattle.jk_model_classes.specs.declared.records.ClassRecord.{ClassRecord}
use Rattle.jk_model_heaps.specs.declared.shapes.Unwound.{Unwound}
use Rattle.jk_model_heaps.specs.declared.shapes.Unwound.TheVariants as Unwinding
use Rattle.jk_model_heaps.specs.Workings.{Run, Setting}
use Rattle.jk_model_running.specs.Raising.{RaisesIn}
use Rattle.jk_model_sealing.specs.AnsweringFrames.{FramesAnswer}
use Rattle.jk_model_sealing.specs.ClassesInProgress.{progress_by}
use Rattle.jk_model_sealing.specs.SealedInsides.{Surroundings}
use Rattle.jk_model_sealing.specs.SealedRuns.{IsSealedRun}
use Rattle.heap_laws.proofs.StillFits.{frames_sealed, meets_raise}
use Rattle.heap_laws.specs.ClassesInProgress.{AreInProgress}
use Rattle.heap_laws.specs.KeptInsides.{KeepsInside}
use Rattle.heap_laws.specs.RaisableObjects.{IsThrowable, MayBeRaised, MayMeetRaise}
use Rattle.heap_laws.specs.RunningFrames.{IsKnownSetting}
use Rattle.row_laws.specs.UnwoundFrames.{KeepsUnwound, MayUnwind}
use Rattle.row_laws.proofs.Raised.{thrown}
use Rattle.row_laws.proofs.UnwindingAnswersKept.{caught_answers}
use Rattle.row_laws.proofs.UnwindingFramesLeft.{keeps_after}
use Rattle.row_laws.proofs.UnwoundKept.{unwound_kept}

-- what a segment may be in when something is raised in it
pub record MayRaise (around : Surroundings) (x : Setting) (t : ThreadNo) (run : Run) : Type 0 where
  pub setting : IsKnownSetting around x
  pub sealed : IsSealedRun around x.quota (MayMeetRaise around.classes run.inside.heap) run
  pub progress : AreInProgress t run

module _ (around : Surroundings) (x : Setting) (t : ThreadNo) (old : Run) (may : MayRaise around x t old) (r : Raise)
    (can : MayBeRaised around.classes old.inside.heap r) (new : Run) (unwound : Unwound) (raises : RaisesIn x old r new unwound) where
  abbrev raised : Run
  raised = record old { inside = raises.made }

  made : KeepsInside around x old.inside raises.made × IsThrowable around.classes raises.made.heap raises.thrown × (raises.made.own ≡ old.inside.own)
  made = thrown around x may.setting old.inside may.sealed.inside raises.made r raises.thrown can raises.is_raised

  may_unwind : MayUnwind around x raised raises.thrown
  may_unwind = record {
    setting = may.setting;
    sealed = record {
      inside = made.0.sealed;
      frames = frames_sealed old.inside.heap raises.made.heap made.0.grown (MayMeetRaise around.classes old.inside.heap)
          (MayMeetRaise around.classes raises.made.heap) (meets_raise old.inside.heap raises.made.heap made.0.grown around.classes) around old.frames
          may.sealed.frames;
    };
    throwable = made.1;
  }

  same : (u : ThreadNo) (c : ClassId) → progress_by u raises.made.own c ≡ progress_by u old.inside.own c
  same u c = ap (λ (own : OwnState). progress_by u own c) made.2

  kept : KeepsUnwound around x t raised new unwound
  kept =
      unwound_kept around x may.setting t raised new raises.thrown may_unwind (λ c. omega (arith, may.progress c, same t c)) unwound raises.unwinds

  pub raise_keeps : KeepsUnwound around x t old new unwound
  raise_keeps = record {
    inside = keeps_after around x old.inside raises.made new.inside made.0 kept.inside;
    fits = kept.fits;
    progress = record {
      own = λ c. omega (arith, kept.progress.own c, same t c);
      others = λ u c apart. kept.progress.others u c apart ∙ same u c;
    };
    fewer = kept.fewer;
  }

-- where it is caught, calls stay answered
pub caught_answered : (classes : List ClassRecord) (x : Setting) (old new : Run) (r : Raise) → FramesAnswer classes old.frames
    → RaisesIn x old r new Unwinding.Caught → FramesAnswer classes new.frames
caught_answered classes x old new r answers raises =
    caught_answers classes x (record old { inside = raises.made }) new raises.thrown answers raises.unwinds
