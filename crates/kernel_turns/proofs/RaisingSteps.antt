-- A step in which something was pending, from what the calls in it promise.
use Rattle.std.proofs.Common.{◌≡◌, List, [], slice_get, slice_set, Option, Some, sym, ap, subst, ◌∙◌}
use Rattle.jk_model.specs.declared.steps.Raise.TheVariants as Raised
use Rattle.jk_model.specs.declared.steps.Standing.{Standing}
use Rattle.jk_model_sharing.specs.Segments.{SharedSegment}
use Rattle.jk_model_sharing.specs.SharedStates.{SharedState, spent, with_flags}
use Rattle.class_init.specs.KeptStates.{KeptState}
use Rattle.object_store.specs.HeapContents.{HeapContent}
use Rattle.frame_store.specs.FrameContents.{FrameContent}
use Rattle.step_contents.specs.Conditions.{MayRaise}
use Rattle.step_contents.specs.Contents.{LeftBehind, contents_of, here_at, left_behind}
use Rattle.segment_steps.specs.RaisingHere.{RaisedHere}
use Rattle.segment_steps.specs.declared.meeting.Runs.{Runs}
use Rattle.segment_steps.specs.declared.went.Went.{Went}
use Rattle.kernel_parts.specs.SoundKernels.{KernelContent}
use Rattle.kernel_turns.specs.declared.running.Running.{Running}
use Rattle.kernel_turns.specs.RunningPlaces.{paying}
use Rattle.kernel_turns.specs.StepsOfThreads.{Begun, IsReady, content_of}
use Rattle.kernel_turns.specs.SteppedParts.{HasRoomsForLiterals, MayFollow, RaisesAreSteps, RaisesAs, flagged}
use Rattle.kernel_turns.proofs.ReadyThreads.{HasFallen, own_there, there}

module _ (law : RaisesAreSteps) (k : KernelContent) (x : Running) (ready : IsReady k x) (th : Standing) (shared : SharedState)
    (fallen : HasFallen ready.at.segment x.runs.segment (spent x.runs.domain k.shared) th shared) where
  abbrev s : SharedSegment
  s = ready.at.segment

  leads : RaisesAs k ready.at (Raised.Standing th) fallen.change
  leads = law k x.runs.thread ready.at (Raised.Standing th) fallen.change ready.may fallen.pending

  -- what domains share where the flag has fallen
  abbrev fell : SharedState
  fell = (flagged ready.at.segment fallen.change (paying ready.at.segment.domain k)).shared

  is_fell : shared ≡ fell
  is_fell =
      fallen.is
      ∙ ap (λ (r : Runs). with_flags r.segment fallen.change (spent r.domain k.shared)) ready.runs_there

  pub may_raise : (own : KeptState) × (slice_get k.owns x.runs.domain.0 ≡ Some (Some own)) × ((sh : SharedState)
      × MayRaise (contents_of k.heap k.frames own) (here_at k.world sh x.runs.domain x.runs.segment))
  may_raise = (
    ready.at.own,
    own_there k x ready,
    (fell, there k x ready (λ r. MayRaise (contents_of k.heap k.frames ready.at.own) (here_at k.world fell r.domain r.segment)) leads.may),
  )

  module _ (heap : HeapContent) (frames : FrameContent) (own : KeptState) (went : Went)
      (raised : (sh : SharedState) → RaisedHere (contents_of k.heap k.frames ready.at.own) (contents_of heap frames own)
      (here_at k.world sh x.runs.domain x.runs.segment) (Raised.Standing th) went) where
    abbrev left : LeftBehind
    left = left_behind (contents_of heap frames own) shared

    raised_there : RaisedHere (contents_of k.heap k.frames ready.at.own) (contents_of heap frames own)
        (here_at k.world fell ready.at.segment.domain ready.at.segment.number) (Raised.Standing th) went
    raised_there =
        subst
        (λ (r : Runs). RaisedHere (contents_of k.heap k.frames ready.at.own) (contents_of heap frames own) (here_at k.world fell r.domain r.segment)
        (Raised.Standing th) went)
        ready.runs_there (raised fell)

    abbrev gone : KernelContent
    gone = content_of k.world (slice_set k.owns ready.at.segment.domain.0 (Some own)) shared heap frames k.main_kind

    pub begun : (owns : List (Option KeptState)) → owns ≡ slice_set k.owns x.runs.domain.0 (Some own) → HasRoomsForLiterals own
        → Begun k x went [] (content_of k.world owns shared heap frames k.main_kind)
    begun owns is rooms =
        let there_so : owns ≡ slice_set k.owns ready.at.segment.domain.0 (Some own) =
        is ∙ ap (λ (r : Runs). slice_set k.owns r.domain.0 (Some own)) ready.runs_there in
        subst (λ (os : List (Option KeptState)). Begun k x went [] (content_of k.world os shared heap frames k.main_kind)) (sym there_so)
        (record {
          may = there k x ready (λ r. MayFollow gone r went) (leads.follows left went raised_there is_fell rooms);
          steps = λ after new follows. leads.steps left went after new raised_there is_fell rooms follows;
        })
