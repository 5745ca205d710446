-- Several steps of one thread that its top segment does alone, and the one by which the thread leaves it: over a domain's own state and the
-- stores, and as turns of the machine.
use Rattle.std.specs.Prelude.{◌≡◌, ℕ, suc, false, List, [], Some, slice_set}
use Rattle.jk_model.specs.declared.identifiers.DomainId.{DomainId}
use Rattle.jk_model.specs.declared.output.Line.{Line}
use Rattle.jk_model_machine_state.specs.Machines.{Machine}
use Rattle.jk_model_runs.specs.Events.{Turns}
use Rattle.jk_model_runs.specs.Steps.{Steps}
use Rattle.class_init.specs.KeptStates.{KeptState}
use Rattle.frame_store.specs.FrameContents.{FrameContent}
use Rattle.object_store.specs.HeapContents.{HeapContent}
use Rattle.kernel_events.specs.KernelCalls.{MayDraw}
use Rattle.machine_laws.specs.KnownMachines.{IsKnownMachine}
use Rattle.segment_steps.specs.declared.meeting.Runs.{Runs}
use Rattle.segment_steps.specs.declared.went.Went.{Went}
use Rattle.segment_steps.specs.declared.went.Went.TheVariants as Goes
use Rattle.kernel_parts.specs.SoundKernels.{AreKernelParts, KernelContent, kernel_machine}
use Rattle.kernel_turns.specs.PaidSteps.{spent_times}
use Rattle.kernel_turns.specs.RestingThreads.{IsResting}
use Rattle.kernel_turns.specs.RunningPlaces.{HasNothingPending, RunsAt, runs}
use Rattle.kernel_turns.specs.SteppedParts.{Follows, MayFollow}

-- the parts where a domain's own state and the stores are these, and so many steps of the domain are paid
abbrev pub worked : ℕ → DomainId → KeptState → HeapContent → FrameContent → KernelContent → KernelContent
worked n d own heap frames k = record k {
  owns = slice_set k.owns d.0 (Some own);
  shared = spent_times n d k.shared;
  heap = heap;
  frames = frames;
}

-- The thread runs there, in a domain with this own state; its segment isn't suspended, and nothing is pending for it.
pub record MayWork (k : KernelContent) (r : Runs) (own : KeptState) : Type 0 where
  pub parts : AreKernelParts k
  pub known : IsKnownMachine (kernel_machine k)
  pub at : RunsAt k r.thread
  pub is_there : r ≡ runs r.thread at.segment
  pub is_own : at.own ≡ own
  pub awake : at.segment.suspended ≡ false
  pub calm : HasNothingPending at.segment

-- so many turns of the thread, in which nothing is printed, lead to parts that are sound
pub record WorksOn (k : KernelContent) (r : Runs) (n : ℕ) (new : KernelContent) : Type 0 where
  pub turns : Turns n r.thread (kernel_machine k) [] (kernel_machine new)
  pub parts : AreKernelParts new
  -- a thread that rests takes none
  pub none : IsResting (kernel_machine k) r.thread → n ≡ 0

-- So many turns of the thread lead to parts at which its top segment has done one more step, by which the thread leaves it so. What follows may
-- follow, and with it that is a step, and the parts are sound.
pub record LeavesBy (k : KernelContent) (r : Runs) (n : ℕ) (went : Went) (new : KernelContent) : Type 0 where
  pub before : ℕ
  pub count : n ≡ suc before
  pub mid : Machine
  pub turns : Turns before r.thread (kernel_machine k) [] mid
  -- where one number of a segment may be drawn
  pub may : MayDraw (kernel_machine k) 1 → MayFollow new r went
  pub steps : (after : List Line) (last : KernelContent) → Follows new r.thread went after last
      → Steps mid r.thread after (kernel_machine last) × AreKernelParts last
  -- a thread that rests takes none
  pub none : IsResting (kernel_machine k) r.thread → ⊥

-- either the segment goes on, or the thread leaves it
abbrev pub WorksOrLeaves : KernelContent → Runs → ℕ → Went → KernelContent → Type 0
WorksOrLeaves k r n Goes.GoesOn new = WorksOn k r n new
WorksOrLeaves k r n (Goes.Returned v) new = LeavesBy k r n (Goes.Returned v) new
WorksOrLeaves k r n (Goes.Left a) new = ⊥
WorksOrLeaves k r n (Goes.Crosses c m) new = LeavesBy k r n (Goes.Crosses c m) new
WorksOrLeaves k r n Goes.Terminates new = ⊥
