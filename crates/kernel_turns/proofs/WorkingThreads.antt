-- A live thread that isn't held may work on where it runs.
use Rattle.std.proofs.Common.{◌≡◌, ℕ, ◌≤◌, false, slice_get, Some, refl, sym, subst, ◌∙◌, arith}
use Rattle.jk_model.specs.declared.identifiers.DomainId.{DomainId}
use Rattle.jk_model.specs.declared.identifiers.ThreadNo.{ThreadNo}
use Rattle.jk_model_sharing.specs.SharedStates.{SharedState}
use Rattle.class_init.specs.KeptStates.{KeptState}
use Rattle.machine_laws.specs.KnownMachines.{IsKnownMachine}
use Rattle.segment_steps.specs.declared.meeting.Runs.{Runs}
use Rattle.kernel_parts.specs.SoundKernels.{AreKernelParts, KernelContent, kernel_machine}
use Rattle.kernel_turns.specs.declared.running.Running.{Running}
use Rattle.kernel_turns.specs.LiveThreads.{IsRunning}
use Rattle.kernel_turns.specs.PaidSteps.{HasSteps}
use Rattle.kernel_turns.specs.RunningPlaces.{RunsAt, runs}
use Rattle.kernel_turns.specs.WorkingSegments.{MayWork}
use Rattle.kernel_turns.proofs.FramesOfThreads.{runs_at}

module _ (k : KernelContent) (t : ThreadNo) (parts : AreKernelParts k) (known : IsKnownMachine (kernel_machine k)) (x : Running)
    (is : IsRunning k.shared.threads t x) where
  abbrev at : RunsAt k t
  at = runs_at k t parts known is.segment is.is_top

  there : (P : Runs → Type 0) → P (runs t is.segment) → P x.runs
  there P = subst P (sym is.runs_there)

  pub may_work : x.info.suspended ≡ false → x.info.stop ≡ false → x.info.revoked ≡ false
      → (own : KeptState) × (slice_get k.owns x.runs.domain.0 ≡ Some (Some own)) × MayWork k x.runs own
  unfolding runs_at
  may_work awake stop calm = (
    at.own,
    there (λ r. slice_get k.owns r.domain.0 ≡ Some (Some at.own)) at.is_own,
    there (λ r. MayWork k r at.own)
        (record {
          parts = parts;
          known = known;
          at = at;
          is_there = refl;
          is_own = refl;
          awake = sym is.suspended ∙ awake;
          calm = (sym is.stop ∙ stop, sym is.revoked ∙ calm);
        }),
  )

-- a domain that has so many steps left has fewer
pub has_fewer : (n most : ℕ) (d : DomainId) (s : SharedState) → n ≤ most → HasSteps most d s → HasSteps n d s
has_fewer n most d s few has = record {
  entry = has.entry;
  is_there = has.is_there;
  live = has.live;
  enough = λ left is. (let all = has.enough left is in omega (arith, all, few));
}
