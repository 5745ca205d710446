-- What is known where a step of a thread is paid, and that what its top segment does then is a step of the machine.
use Rattle.std.proofs.Common.{◌≡◌, ◌≢◌, false, true, Bool, inl, inr, List, Some, sym, subst, ◌∙◌}
use Rattle.jk_model.specs.declared.identifiers.DomainId.{DomainId}
use Rattle.jk_model.specs.declared.identifiers.ThreadNo.{ThreadNo}
use Rattle.jk_model.specs.declared.output.Line.{Line}
use Rattle.jk_model_machine_state.specs.Machines.{Machine}
use Rattle.jk_model_machine_state.specs.Places.{RunningSegment}
use Rattle.jk_model_runs.specs.Steps.{Acts, Deed, IsHeld, Steps}
use Rattle.jk_model_runs.specs.Steps as Ran
use Rattle.machine_laws.specs.KnownMachines.{IsKnownMachine}
use Rattle.machine_laws.specs.SealedSteps.{StepsStayKnown}
use Rattle.machine_parts.specs.ChangedParts.{AreSegmentsApart}
use Rattle.machine_parts.specs.FittingParts.{AreFittingParts}
use Rattle.machine_parts.specs.MachineParts.{frames_in}
use Rattle.row_laws.specs.HeapRowLaws.{HeapRowsKeep}
use Rattle.row_laws.specs.LocalStepLaws.{LocalStepsKeep}
use Rattle.domain_crossing.proofs.DomainsByPlace.{shared_found, shared_there}
use Rattle.domain_ends.specs.TidyParts.{AreTidyParts}
use Rattle.kernel_parts.specs.SoundKernels.{AreKernelParts, AreSoundParts, KernelContent, kernel_machine, parts_of}
use Rattle.kernel_turns.specs.RestingThreads.{IsResting}
use Rattle.kernel_turns.specs.RunningPlaces.{RunsAt, paying}
use Rattle.kernel_turns.specs.SteppedParts.{MayStep}
use Rattle.kernel_turns.proofs.ActsNeverRest.{OthersPay, no_rest}
use Rattle.kernel_turns.proofs.KeptParts.{tidy_known}
use Rattle.kernel_turns.proofs.PaidParts.{is_paid, known_after, parts_paid}
use Rattle.kernel_turns.proofs.PlacedThreads.{own_at, place, stored}
use Rattle.domain_crossing.proofs.PartsEntered.{sealed_apart}

never_both : (b : Bool) → b ≡ false → b ≡ true → ⊥
never_both b off on = (let both : false ≡ true = sym off ∙ on in absurd cc)

-- ---- What the laws of machines say of steps.

pub record StepLaws : Type 0 where
  pub rows : HeapRowsKeep
  pub keep : LocalStepsKeep
  pub stay : StepsStayKnown

-- parts that are sound between steps are tidy
abbrev pub tidy_so : (k : KernelContent) → AreKernelParts k → AreTidyParts k
tidy_so k parts = record {
  fitting = parts.sound.fitting;
  world = parts.sound.world;
  few_classes = parts.sound.few_classes;
  rooms = parts.sound.rooms;
  main = parts.sound.main;
  stubs = parts.stubs;
}

-- ---- From what is known before the step.

module _ (k : KernelContent) (t : ThreadNo) (at : RunsAt k t) (ms : MayStep k at) where
  abbrev pub d : DomainId
  d = at.segment.domain

  abbrev pub sound : AreSoundParts k
  sound = ms.parts.sound

  -- the same where the step is paid
  abbrev pub at_paid : RunsAt (paying at.segment.domain k) t
  at_paid = record { segment = at.segment; is_top = at.is_top; own = at.own; is_own = at.is_own }

  abbrev pub sound_paid : AreSoundParts (paying at.segment.domain k)
  sound_paid = parts_paid k at.segment.domain ms.parts.sound ms.known

  abbrev pub tidy_paid : AreTidyParts (paying at.segment.domain k)
  tidy_paid = record {
    fitting = sound_paid.fitting;
    world = sound_paid.world;
    few_classes = sound_paid.few_classes;
    rooms = sound_paid.rooms;
    main = sound_paid.main;
    stubs = ms.parts.stubs;
  }

  abbrev pub fit_paid : AreFittingParts (parts_of (paying at.segment.domain k))
  fit_paid = sound_paid.fitting

  abbrev pub apart_paid : AreSegmentsApart (kernel_machine (paying at.segment.domain k))
  apart_paid = sealed_apart (kernel_machine (paying at.segment.domain k)) sound_paid.sealed

  abbrev pub known_paid : IsKnownMachine (kernel_machine (paying at.segment.domain k))
  known_paid = known_after k at.segment.domain ms.parts.sound ms.known

  abbrev pub place_paid : RunningSegment (kernel_machine (paying at.segment.domain k)) t
  place_paid = place (paying at.segment.domain k) t at_paid fit_paid.domains

  -- ---- The thread isn't held, and its domain has a step left.

  abbrev first : RunningSegment (kernel_machine k) t
  first = place k t at ms.parts.sound.fitting.domains

  not_held : IsHeld first → ⊥
  not_held (inl suspended) = never_both at.segment.suspended ms.ahead.awake suspended
  not_held (inr (top, class, needs, elsewhere)) =
      ms.ahead.free top.frame class
      (record {
        segment = record { domain = at.segment.domain; frames = frames_in k.frames at.segment.number };
        is_there = stored k t at ms.parts.sound.fitting.domains ms.parts.sound.fitting.segments;
        lower = top.callers;
        frames = top.are_frames;
      })
      needs elsewhere

  has_steps : first.home.domain.steps_left ≢ Some 0
  has_steps =
      let one = ms.parts.sound.fitting.domains in
      let s = shared_there (parts_of k) one at.segment.domain at.own.state (own_at k t at one) in
      ms.ahead.budget s.0 (shared_found (parts_of k) one at.segment.domain s.0 s.1)

  -- so it doesn't rest
  pub never_rests : OthersPay → IsResting (kernel_machine k) t → ⊥
  never_rests pay = no_rest pay (kernel_machine k) t first not_held has_steps

  -- what it does where the step is paid is its step
  pub steps_by : (deed : Deed) (lines : List Line) (new : Machine) → Acts (kernel_machine (paying at.segment.domain k)) t deed lines new
      → Steps (kernel_machine k) t lines new
  steps_by deed lines new acts = (
    deed,
    Ran.acts first deed lines new not_held has_steps
        (subst (λ (m : Machine). Acts m t deed lines new) (is_paid k at.segment.domain ms.parts.sound ms.known) acts),
  )

  -- where that leads to the parts, they are sound
  pub sound_then : StepsStayKnown → (lines : List Line) (new : KernelContent) → AreTidyParts new → Steps (kernel_machine k) t lines (kernel_machine new)
      → Steps (kernel_machine k) t lines (kernel_machine new) × AreKernelParts new
  sound_then stay lines new tidy steps =
      (steps, tidy_known new tidy (stay (kernel_machine k) (kernel_machine new) t lines ms.known steps))

-- the same parts, and the same lines
pub moved : (k new out : KernelContent) (t : ThreadNo) (lines after : List Line) → after ≡ lines → new ≡ out
    → Steps (kernel_machine k) t lines (kernel_machine out) × AreKernelParts out
    → Steps (kernel_machine k) t after (kernel_machine new) × AreKernelParts new
moved k new out t lines after same is h =
    subst (λ (ls : List Line). Steps (kernel_machine k) t ls (kernel_machine new) × AreKernelParts new) (sym same)
    (subst (λ (x : KernelContent). Steps (kernel_machine k) t lines (kernel_machine x) × AreKernelParts x) (sym is) h)
