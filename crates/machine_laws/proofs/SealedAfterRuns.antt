-- Where a segment has run, the machine is sealed: where it goes on, where no frame of it is left, and, but for its thread, where it waits for an
-- answer.
use Rattle.std.proofs.Common.{◌≡◌, inl, List, [], refl, sym, subst}
use Rattle.jk_model.specs.declared.identifiers.ThreadNo.{ThreadNo}
use Rattle.jk_model_frames.specs.Frames.{FrameState}
use Rattle.jk_model_heaps.specs.Workings.{Run}
use Rattle.jk_model_running.specs.Ways.{Went}
use Rattle.jk_model_sealing.specs.FittingFrames.{FitsAsTop}
use Rattle.jk_model_sealing.specs.SealedRuns.{AreSealedFrames}
use Rattle.jk_model_machine_state.specs.Machines.{Machine}
use Rattle.jk_model_machine_state.specs.Places.{RunningSegment, run_of, setting_of, with_run}
use Rattle.jk_model_runs.specs.Sealed.{IsSealed, TopFits, surroundings}
use Rattle.row_laws.specs.KeptRuns.{KeepsRun}
use Rattle.machine_laws.proofs.CapabilitiesAfterRuns.{capabilities_sealed, names_sealed}
use Rattle.machine_laws.proofs.DomainsAfterRuns.{domains_sealed}
use Rattle.machine_laws.proofs.InitialisersAfterRuns.{initialisers_sealed}
use Rattle.machine_laws.proofs.PoolsAfterRuns.{heaps_placed, stacks_placed}
use Rattle.machine_laws.proofs.RunningSegmentsFit.{frames_weaker}
use Rattle.machine_laws.proofs.SegmentsThatRan.{HasRun, after}
use Rattle.machine_laws.proofs.TasksAfterRuns.{tasks_sealed}
use Rattle.machine_laws.proofs.ThreadsAfterRuns.{threads_sealed}

pub sealed_after : (m : Machine) (t : ThreadNo) (r : HasRun m t) → IsSealed (after r)
sealed_after m t r = record {
  domains = domains_sealed m t r;
  heap_places = heaps_placed m t r;
  stack_places = stacks_placed m t r;
  capabilities = capabilities_sealed m t r;
  names = names_sealed m t r;
  threads = threads_sealed m t r;
  tasks = tasks_sealed m t r;
  initialisers = initialisers_sealed m t r;
}

module _ (m : Machine) (t : ThreadNo) (p : RunningSegment m t) (run : Run) (went : Went) (sealed : IsSealed m)
    (keeps : KeepsRun (surroundings m p.home.domain) (setting_of p) t (run_of p) run went) where
  -- it goes on
  abbrev pub goes_on : AreSealedFrames (surroundings m p.home.domain) (FitsAsTop m.classes run.inside.heap) run.inside.heap run.frames → HasRun m t
  goes_on frames = record {
    place = p;
    sealed = sealed;
    segment = record p.segment { frames = run.frames };
    inside = run.inside;
    number = refl;
    domain = refl;
    keeps = keeps.inside;
    frames = frames_weaker (surroundings m p.home.domain) run.inside.heap (FitsAsTop m.classes run.inside.heap) (TopFits m run.inside p.segment)
        (λ f top. inl top) run.frames frames;
    progress = keeps.progress;
    chunks = keeps.chunks;
  }

  pub running_sealed : AreSealedFrames (surroundings m p.home.domain) (FitsAsTop m.classes run.inside.heap) run.inside.heap run.frames
      → IsSealed (with_run p run)
  running_sealed frames = sealed_after m t (goes_on frames)

  pub left_sealed : run.frames ≡ [] → IsSealed (with_run p run)
  left_sealed none =
      running_sealed
      (subst (λ (fs : List FrameState). AreSealedFrames (surroundings m p.home.domain) (FitsAsTop m.classes run.inside.heap) run.inside.heap fs)
      (sym none) (record { fit = tt; initialise = tt; at_home = tt; known = tt }))
