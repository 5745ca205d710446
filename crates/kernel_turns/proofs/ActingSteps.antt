-- A step in which a thread's top segment acted, from what the calls in it promise.
use Rattle.std.proofs.Common.{◌≡◌, List, slice_set, Option, Some, sym, ap, subst, ◌∙◌}
use Rattle.jk_model.specs.declared.output.Line.{Line}
use Rattle.jk_model_sharing.specs.SharedStates.{SharedState, spent}
use Rattle.class_init.specs.KeptStates.{KeptState}
use Rattle.object_store.specs.HeapContents.{HeapContent}
use Rattle.frame_store.specs.FrameContents.{FrameContent}
use Rattle.step_contents.specs.Contents.{LeftBehind, contents_of, here_at, left_behind}
use Rattle.segment_steps.specs.ActingSegments.{Acted, ActsSo, MayAct}
use Rattle.segment_steps.specs.declared.meeting.Runs.{Runs}
use Rattle.segment_steps.specs.declared.went.Went.{Went}
use Rattle.segment_steps.specs.declared.went.Went.TheVariants as Goes
use Rattle.kernel_parts.specs.SoundKernels.{KernelContent}
use Rattle.kernel_turns.specs.declared.running.Running.{Running}
use Rattle.kernel_turns.specs.RunningPlaces.{HasNothingPending, contents_at}
use Rattle.kernel_turns.specs.StepsOfThreads.{Begun, IsReady, content_of}
use Rattle.kernel_turns.specs.SteppedParts.{ActsAreSteps, ActsAs, HasRoomsForLiterals, MayFollow}
use Rattle.kernel_turns.proofs.ReadyThreads.{there}

module _ (law : ActsAreSteps) (k : KernelContent) (x : Running) (ready : IsReady k x) (calm : HasNothingPending ready.at.segment)
    (mid : SharedState) (is_mid : mid ≡ spent x.runs.domain k.shared) where
  pub leads : (left : LeftBehind) (went : Went) → ActsAs k ready.at left went
  leads left went = law k x.runs.thread ready.at left went ready.may calm

  pub may_act : MayAct (contents_of k.heap k.frames ready.at.own) (here_at k.world mid x.runs.domain x.runs.segment)
  may_act =
      subst (λ (sh : SharedState). MayAct (contents_of k.heap k.frames ready.at.own) (here_at k.world sh x.runs.domain x.runs.segment)) (sym is_mid)
      (there k x ready
      (λ r. MayAct (contents_of k.heap k.frames ready.at.own) (here_at k.world (spent r.domain k.shared) r.domain r.segment))
      (leads (left_behind (contents_at ready.at) k.shared) Goes.GoesOn).may)

  module _ (heap : HeapContent) (frames : FrameContent) (own : KeptState) (shared : SharedState) (went : Went) (GoOut : List Line → Type 0)
      (acts : ActsSo (contents_of k.heap k.frames ready.at.own) (here_at k.world mid x.runs.domain x.runs.segment) x.runs.thread
      (left_behind (contents_of heap frames own) shared) went GoOut) where
    abbrev left : LeftBehind
    left = left_behind (contents_of heap frames own) shared

    acts_there : ActsSo (contents_of k.heap k.frames ready.at.own)
        (here_at k.world (spent ready.at.segment.domain k.shared) ready.at.segment.domain ready.at.segment.number) x.runs.thread left went GoOut
    acts_there =
        subst
        (λ (r : Runs). ActsSo (contents_of k.heap k.frames ready.at.own) (here_at k.world (spent r.domain k.shared) r.domain r.segment) x.runs.thread
        left went GoOut)
        ready.runs_there
        (subst
        (λ (sh : SharedState). ActsSo (contents_of k.heap k.frames ready.at.own) (here_at k.world sh x.runs.domain x.runs.segment) x.runs.thread
        left went GoOut)
        is_mid acts)

    -- the lines of the step itself, what it did, and that they went out
    pub did : (lines : List Line) × Acted (leads left went).setting x.runs.thread (leads left went).may left went lines × GoOut lines
    did = acts_there (leads left went).setting (leads left went).may (leads left went).is_setting

    abbrev gone : KernelContent
    gone = content_of k.world (slice_set k.owns ready.at.segment.domain.0 (Some own)) shared heap frames k.main_kind

    pub begun : (owns : List (Option KeptState)) → owns ≡ slice_set k.owns x.runs.domain.0 (Some own) → HasRoomsForLiterals own
        → Begun k x went did.0 (content_of k.world owns shared heap frames k.main_kind)
    begun owns is rooms =
        let there_so : owns ≡ slice_set k.owns ready.at.segment.domain.0 (Some own) =
        is ∙ ap (λ (r : Runs). slice_set k.owns r.domain.0 (Some own)) ready.runs_there in
        subst (λ (os : List (Option KeptState)). Begun k x went did.0 (content_of k.world os shared heap frames k.main_kind)) (sym there_so)
        (record {
          may = there k x ready (λ r. MayFollow gone r went) ((leads left went).follows did.0 did.1 rooms ready.numbers);
          steps = λ after new follows. (leads left went).steps did.0 after new did.1 rooms follows;
        })
