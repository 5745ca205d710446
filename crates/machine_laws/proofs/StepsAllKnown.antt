-- A machine of which all is known: each step leads to such a machine.
use Rattle.std.proofs.Common.{List, refl, sym, ap, subst, ◌∙◌}
use Rattle.jk_model.specs.declared.identifiers.ThreadNo.{ThreadNo}
use Rattle.jk_model.specs.declared.output.Line.{Line}
use Rattle.jk_model_heaps.specs.Workings.{Inside, Request, Run}
use Rattle.jk_model_running.specs.Ways.{Asks}
use Rattle.jk_model_machine_state.specs.Machines.{Machine, Segment}
use Rattle.jk_model_machine_state.specs.Places.{RunningSegment, run_of, setting_of, with_run}
use Rattle.jk_model_runs.specs.AnsweredCalls.{AreCallsAnswered}
use Rattle.jk_model_runs.specs.Events.{IsWhole}
use Rattle.jk_model_runs.specs.Sealed.{surroundings}
use Rattle.jk_model_runs.specs.Steps.{Deed, Ensues, Steps}
use Rattle.heap_laws.specs.FittingOutcomes.{AwaitsAnswer}
use Rattle.row_laws.specs.HeapRowLaws.{HeapRowsKeep}
use Rattle.row_laws.specs.KeptRuns.{KeepsRun}
use Rattle.machine_laws.specs.KnownMachines.{IsKnownMachine}
use Rattle.machine_laws.specs.RunsInMachines.{GivesStill}
use Rattle.machine_laws.specs.SoundMachines.{IsSealedAtCall}
use Rattle.machine_laws.proofs.RequestsKnown.{AsksHere, denied_whole, granted_whole}
use Rattle.machine_laws.proofs.RunsAgain.{inside_there, runs_there}
use Rattle.machine_laws.proofs.SegmentsAnswered.{running_answered}
use Rattle.machine_laws.proofs.StepsKnown.{AsksWell, caps_same, sound, step_whole}
use Rattle.machine_laws.proofs.WaitingRuns.{waiting_sealed}
use Rattle.machine_laws.proofs.WorldsKept.{sound_classes_stay, steps_keep}

module _ (m : Machine) (t : ThreadNo) (known : IsKnownMachine m) (p : RunningSegment m t) (run : Run) (request : Request)
    (keeps : KeepsRun (surroundings m p.home.domain) (setting_of p) t (run_of p) run (Asks request))
    (gives : GivesStill m.classes p.segment.frames run.frames) where
  abbrev ran : Segment
  ran = record p.segment { frames = run.frames }

  pub waits : IsSealedAtCall (with_run p run) t
  waits = waiting_sealed m t p run (Asks request) known.0.0 keeps keeps.fits.0.0

  pub answered : AreCallsAnswered (with_run p run)
  answered = running_answered m t p known.0.1 ran run.inside refl gives keeps.fits.0.1

  pub asks_here : (s : RunningSegment (with_run p run) t) → AsksHere s request
  asks_here s = record {
    callers = keeps.fits.1.0.callers;
    caller = keeps.fits.1.0.frame;
    are_frames = ap (λ (x : Segment). x.frames) (runs_there m t p ran run.inside refl s).1 ∙ keeps.fits.1.0.are_frames;
    around = surroundings m p.home.domain;
    classes = refl;
    caps = sym (caps_same m t known p run (Asks request) keeps);
    awaits = subst (λ (i : Inside). AwaitsAnswer (surroundings m p.home.domain) i.heap keeps.fits.1.0.frame request)
        (sym (inside_there m t p ran run.inside refl s)) keeps.fits.1.1;
  }

  asked_whole : (deed : Deed) (lines : List Line) (new : Machine) → Ensues (with_run p run) t (Asks request) deed lines new → IsWhole new
  asked_whole deed lines new (Ensues.grants s request v mid end granted q received) =
      granted_whole (with_run p run) t s waits (sound m t known p run (Asks request) keeps) answered request (asks_here s) v mid granted q end received
  asked_whole deed lines new (Ensues.denies s request r n said mid end granted h) =
      denied_whole (with_run p run) t s waits (sound m t known p run (Asks request) keeps) answered request (asks_here s) r mid granted n said end h

asks_well : (m : Machine) (t : ThreadNo) → IsKnownMachine m → AsksWell m t
asks_well m t known p run request keeps gives deed lines new ensues = asked_whole m t known p run request keeps gives deed lines new ensues

pub steps_stay_known : HeapRowsKeep → (m new : Machine) (t : ThreadNo) (lines : List Line) → IsKnownMachine m → Steps m t lines new
    → IsKnownMachine new
steps_stay_known rows m new t lines known (deed, step) =
    (step_whole rows asks_well m new t deed lines known step, sound_classes_stay m new (steps_keep m new t deed lines step) known.1)
