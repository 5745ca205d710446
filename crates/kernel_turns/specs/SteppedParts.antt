-- What one step of a thread's top segment over the contents of the stores is to the machine, with all that follows of its thread and its domain.
use Rattle.std.specs.Prelude.{◌≡◌, ℕ, ⊤, false, true, List, [], ◌++◌, Contains, Some, slice_set}
use Rattle.jk_model.specs.declared.identifiers.DomainId.{DomainId}
use Rattle.jk_model.specs.declared.identifiers.ThreadNo.{ThreadNo}
use Rattle.jk_model.specs.declared.output.Line.{Line}
use Rattle.jk_model.specs.declared.steps.Raise.{Raise}
use Rattle.jk_model.specs.declared.steps.Raise.TheVariants as Raised
use Rattle.jk_model.specs.declared.steps.Standing.TheVariants as Stands
use Rattle.jk_model_domains.specs.OwnStates.{Literal}
use Rattle.jk_model_heaps.specs.Workings.{Setting}
use Rattle.jk_model_running.specs.Ways.{Crosses}
use Rattle.jk_model_sharing.specs.Segments.{SharedSegment, with_revoked, with_stop}
use Rattle.jk_model_sharing.specs.SharedStates.{with_flags}
use Rattle.jk_model_machine_state.specs.Places.{RunningSegment}
use Rattle.jk_model_crossings.specs.Answers.{Returns}
use Rattle.jk_model_crossings.specs.DomainEnds.{Terminates}
use Rattle.jk_model_crossings.specs.Throwing.{Throws}
use Rattle.jk_model_runs.specs.Steps.{Deed, Ensues, Steps}
use Rattle.class_init.specs.KeptStates.{KeptState}
use Rattle.step_contents.specs.Conditions.{MayRaise}
use Rattle.step_contents.specs.Contents.{LeftBehind}
use Rattle.step_contents.specs.Settings.{IsSetting}
use Rattle.kernel_events.specs.KernelCalls.{MayDraw}
use Rattle.machine_laws.specs.KnownMachines.{IsKnownMachine}
use Rattle.segment_steps.specs.declared.meeting.Runs.{Runs}
use Rattle.segment_steps.specs.declared.went.Went.{Went}
use Rattle.segment_steps.specs.declared.went.Went.TheVariants as Goes
use Rattle.segment_steps.specs.ActingSegments.{Acted, MayAct}
use Rattle.segment_steps.specs.RaisingHere.{RaisedHere}
use Rattle.domain_crossing.specs.AskedOfCrossings.{MayEnter, MayLeave}
use Rattle.domain_crossing.specs.AskedOfCrossings.{MayRaise as MayRaiseAcross}
use Rattle.domain_ends.specs.TidyParts.{AreTidyParts}
use Rattle.kernel_parts.specs.SoundKernels.{AreKernelParts, KernelContent, kernel_machine, parts_of}
use Rattle.kernel_turns.specs.RunningPlaces.{GoesAhead, HasNothingPending, RunsAt, contents_at, here_in, paying, runs}

-- ---- The parts after it.

-- the domain's own state, the stores and what domains share are these
abbrev pub with_left : DomainId → LeftBehind → KernelContent → KernelContent
with_left d left k = record k {
  owns = slice_set k.owns d.0 (Some left.contents.own);
  shared = left.shared;
  heap = left.contents.heaps;
  frames = left.contents.frames;
}

-- What follows where the thread's segment has done its step: what is printed of it, and the parts after that.
abbrev pub Follows : KernelContent → ThreadNo → Went → List Line → KernelContent → Type 0
Follows k t Goes.GoesOn after new = (after ≡ []) × (new ≡ k)
Follows k t (Goes.Returned v) after new = (n : ℕ) × Returns (kernel_machine k) t v n after (kernel_machine new) × AreTidyParts new
Follows k t (Goes.Left a) after new = (n : ℕ) × Throws t n (kernel_machine k) a after (kernel_machine new) × AreTidyParts new
Follows k t (Goes.Crosses c m) after new = (deed : Deed) × Ensues (kernel_machine k) t (Crosses c m) deed after (kernel_machine new) × AreTidyParts new
Follows k t Goes.Terminates after new =
    (p : RunningSegment (kernel_machine k) t) × Terminates (kernel_machine k) p.home.domain after (kernel_machine new) × AreTidyParts new

-- ---- What is known before that.

abbrev pub MayFollow : KernelContent → Runs → Went → Type 0
MayFollow k r Goes.GoesOn = ⊤
MayFollow k r (Goes.Returned v) = AreTidyParts k × MayLeave (parts_of k) r.thread v
MayFollow k r (Goes.Left a) = AreTidyParts k × MayRaiseAcross (parts_of k) r.thread a
MayFollow k r (Goes.Crosses c m) = AreTidyParts k × MayEnter (parts_of k) r.thread c m
MayFollow k r Goes.Terminates =
    AreTidyParts k × ((p : RunningSegment (kernel_machine k) r.thread) × (p.segment.shared.domain ≡ r.domain))

-- each literal with an object has a room
abbrev pub HasRoomsForLiterals : KeptState → Type 0
HasRoomsForLiterals own = (l : Literal) → Contains own.state.literals l → Contains own.rooms l.text

-- ---- The segment acted: that is a step of the machine, and the parts are sound again.

-- what is known of the parts before the step
pub record MayStep (k : KernelContent) {t : ThreadNo} (at : RunsAt k t) : Type 0 where
  pub parts : AreKernelParts k
  pub known : IsKnownMachine (kernel_machine k)
  pub ahead : GoesAhead at

-- what the thread did in this setting leads on
pub record ActsAs (k : KernelContent) {t : ThreadNo} (at : RunsAt k t) (left : LeftBehind) (went : Went) : Type 0 where
  pub setting : Setting
  pub may : MayAct (contents_at at) (here_in (paying at.segment.domain k) at.segment)
  pub is_setting : IsSetting (contents_at at) (here_in (paying at.segment.domain k) at.segment) setting
  -- where one number of a segment may be drawn
  pub follows : (lines : List Line) → Acted setting t may left went lines → HasRoomsForLiterals left.contents.own → MayDraw (kernel_machine k) 1
      → MayFollow (with_left at.segment.domain left k) (runs t at.segment) went
  pub steps : (lines after : List Line) (new : KernelContent) → Acted setting t may left went lines → HasRoomsForLiterals left.contents.own
      → Follows (with_left at.segment.domain left k) t went after new
      → Steps (kernel_machine k) t (lines ++ after) (kernel_machine new) × AreKernelParts new

abbrev pub ActsAreSteps : Type 0
ActsAreSteps =
    (k : KernelContent) (t : ThreadNo) (at : RunsAt k t) (left : LeftBehind) (went : Went) → MayStep k at
    → HasNothingPending at.segment → ActsAs k at left went

-- ---- Something was pending, and is raised: stop before revoked. The flag falls.

pub data IsPending (s : SharedSegment) : Raise → (SharedSegment → SharedSegment) → Type 0 where
  stops : s.stop ≡ true → IsPending s (Raised.Standing Stands.ThreadDeath) (with_stop false)
  is_revoked : s.stop ≡ false → s.revoked ≡ true → IsPending s (Raised.Standing Stands.Revoked) (with_revoked false)

-- the same parts, where that flag has fallen
abbrev pub flagged : SharedSegment → (SharedSegment → SharedSegment) → KernelContent → KernelContent
flagged s change k = record k { shared = with_flags s.number change k.shared }

-- what is raised there leads on
pub record RaisesAs (k : KernelContent) {t : ThreadNo} (at : RunsAt k t) (raise : Raise) (change : SharedSegment → SharedSegment) : Type 0 where
  pub may : MayRaise (contents_at at) (here_in (flagged at.segment change (paying at.segment.domain k)) at.segment)
  pub follows : (left : LeftBehind) (went : Went)
      → RaisedHere (contents_at at) left.contents (here_in (flagged at.segment change (paying at.segment.domain k)) at.segment) raise went
      → left.shared ≡ (flagged at.segment change (paying at.segment.domain k)).shared → HasRoomsForLiterals left.contents.own
      → MayFollow (with_left at.segment.domain left k) (runs t at.segment) went
  pub steps : (left : LeftBehind) (went : Went) (after : List Line) (new : KernelContent)
      → RaisedHere (contents_at at) left.contents (here_in (flagged at.segment change (paying at.segment.domain k)) at.segment) raise went
      → left.shared ≡ (flagged at.segment change (paying at.segment.domain k)).shared → HasRoomsForLiterals left.contents.own
      → Follows (with_left at.segment.domain left k) t went after new
      → Steps (kernel_machine k) t after (kernel_machine new) × AreKernelParts new

abbrev pub RaisesAreSteps : Type 0
RaisesAreSteps =
    (k : KernelContent) (t : ThreadNo) (at : RunsAt k t) (raise : Raise) (change : SharedSegment → SharedSegment) → MayStep k at
    → IsPending at.segment raise change → RaisesAs k at raise change
