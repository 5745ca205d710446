-- Where something is raised in a segment, what is kept is kept: the object is made, and then the segment is unwound.
use Rattle.std.proofs.Common.{◌≡◌, ℕ, ap, ◌∙◌, arith}
use Rattle.jk_model.specs.declared.identifiers.ClassId.{ClassId}
use Rattle.jk_model.specs.declared.identifiers.ThreadNo.{ThreadNo}
use Rattle.jk_model.specs.declared.steps.Raise.{Raise}
use Rattle.jk_model_domains.specs.OwnStates.{OwnState}
use Rattle.jk_model_heaps.specs.declared.shapes.Unwound.{Unwound}
use Rattle.jk_model_heaps.specs.declared.shapes.Unwound.TheVariants as Unwinding
use Rattle.jk_model_heaps.specs.Throwables.{IsRaised}
use Rattle.jk_model_heaps.specs.Workings.{Inside, Run, Setting}
use Rattle.jk_model_running.specs.Raising.{RaisesIn, after_raising}
use Rattle.jk_model_sealing.specs.ClassesInProgress.{progress_by}
use Rattle.jk_model_sealing.specs.SealedInsides.{IsSealedInside, Surroundings}
use Rattle.jk_model_unwinding.specs.Unwinding.{Unwinds}
use Rattle.heap_laws.proofs.StillFits.{frames_sealed, meets_raise}
use Rattle.heap_laws.specs.ClassesInProgress.{AreInProgress}
use Rattle.heap_laws.specs.KeptInsides.{KeepsInside}
use Rattle.heap_laws.specs.RaisableObjects.{IsThrowable, MayBeRaised, MayMeetRaise}
use Rattle.heap_laws.specs.RunningFrames.{IsKnownSetting}
use Rattle.row_laws.specs.UnwoundFrames.{FitsUnwound, KeepsUnwound, MayUnwind}
use Rattle.row_laws.proofs.UnwindingAnswersKept.{caught_answers}
use Rattle.row_laws.proofs.UnwindingFramesLeft.{keeps_after}
use Rattle.row_laws.proofs.Raised.{thrown}
use Rattle.row_laws.proofs.UnwoundKept.{unwound_kept}
use Rattle.row_laws.specs.KeptRuns.{FitsWent, KeepsRun}
use Rattle.row_laws.proofs.FramesInARow.{Stand}

-- What a segment may be in when something is raised in it.
pub record MayRaise (around : Surroundings) (x : Setting) (t : ThreadNo) (run : Run) : Type 0 where
  pub setting : IsKnownSetting around x
  pub inside : IsSealedInside around x.quota run.inside
  pub frames : Stand around (MayMeetRaise around.classes run.inside.heap) run.inside.heap run.frames
  pub progress : AreInProgress t run

module _ (around : Surroundings) (x : Setting) (t : ThreadNo) (old : Run) (may : MayRaise around x t old) (r : Raise)
    (can : MayBeRaised around.classes old.inside.heap r) where
  module _ (made : Inside) (a : ℕ) (is : IsRaised x old.inside r made a) where
    -- what is raised keeps the own state
    all : KeepsInside around x old.inside made × IsThrowable around.classes made.heap a × (made.own ≡ old.inside.own)
    all = thrown around x may.setting old.inside may.inside made r a can is

    pub own_same : made.own ≡ old.inside.own
    own_same = all.2

    pub may_unwind : MayUnwind around x (record old { inside = made }) a
    may_unwind = record {
      setting = may.setting;
      sealed = record {
        inside = all.0.sealed;
        frames = frames_sealed old.inside.heap made.heap all.0.grown (MayMeetRaise around.classes old.inside.heap)
            (MayMeetRaise around.classes made.heap) (meets_raise old.inside.heap made.heap all.0.grown around.classes) around old.frames may.frames.0;
      };
      throwable = all.1;
    }

  module _ (new : Run) (unwound : Unwound) (raises : RaisesIn x old r new unwound) where
    abbrev raised : Run
    raised = record old { inside = raises.made }

    keeps : KeepsInside around x old.inside raises.made
    keeps = (all raises.made raises.thrown raises.is_raised).0

    same : (u : ThreadNo) (c : ClassId) → progress_by u raises.made.own c ≡ progress_by u old.inside.own c
    same u c = ap (λ (own : OwnState). progress_by u own c) (own_same raises.made raises.thrown raises.is_raised)

    kept : KeepsUnwound around x t raised new unwound
    kept =
        unwound_kept around x may.setting t raised new raises.thrown (may_unwind raises.made raises.thrown raises.is_raised)
        (λ c. omega (arith, may.progress c, same t c)) unwound raises.unwinds

    fits_by : (u : Unwound) → FitsUnwound around new u → Unwinds x raised raises.thrown u new → FitsWent around old new (after_raising u)
    fits_by Unwinding.Caught fits unwinds = (fits, caught_answers around.classes x raised new raises.thrown may.frames.1 unwinds)
    fits_by (Unwinding.Uncaught a) fits unwinds = fits

    pub raise_kept : KeepsRun around x t old new (after_raising unwound)
    raise_kept = record {
      inside = keeps_after around x old.inside raises.made new.inside keeps kept.inside;
      fits = fits_by unwound kept.fits raises.unwinds;
      progress = record {
        own = λ c. omega (arith, kept.progress.own c, same t c);
        others = λ u c apart. kept.progress.others u c apart ∙ same u c;
      };
      chunks = omega (arith, kept.fewer);
    }
