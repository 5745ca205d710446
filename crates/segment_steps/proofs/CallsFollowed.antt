-- An instruction of call was done: the called frame runs, a capability is to be called, something is raised, or a method of the system is to be
-- done.
use Rattle.std.proofs.Common.{◌≡◌, ℕ, [], ◌∷◌, ◌++◌, refl}
use Rattle.jk_model.specs.declared.identifiers.CapId.{CapId}
use Rattle.jk_model.specs.declared.identifiers.MemberId.{MemberId}
use Rattle.jk_model.specs.declared.steps.After.{After}
use Rattle.jk_model.specs.declared.steps.After.TheVariants as Next
use Rattle.jk_model.specs.declared.steps.Raise.{Raise}
use Rattle.jk_model_classes.specs.Worlds.{WorldRecord}
use Rattle.jk_model_heaps.specs.Workings.{Calls, Crosses, Outcome, Raises, Run, Setting, Working}
use Rattle.jk_model_call_rows.specs.CallRows.{CallRow, CallsSystem}
use Rattle.jk_model_running.specs.Executions.{calls as by_call}
use Rattle.jk_model_running.specs.LocalSteps.{calls as called_on, crosses as crossed}
use Rattle.jk_model_running.specs.Ways.{Crosses as WentAcross, GoesOn}
use Rattle.jk_model_sharing.specs.SharedStates.{SharedState}
use Rattle.call_ops.specs.CallSteps.{CallDone, CallFollows, calls, calls_system, crosses, raises}
use Rattle.class_init.specs.KeptStates.{KeptState}
use Rattle.frame_store.specs.FrameContents.{FrameContent, IsSame}
use Rattle.heap_laws.specs.FittingOutcomes.{FitsOutcome}
use Rattle.heap_laws.specs.KeptInsides.{IsKept}
use Rattle.heap_laws.specs.RaisableObjects.{MayBeRaised}
use Rattle.object_store.specs.HeapContents.{HeapContent}
use Rattle.row_laws.proofs.RowsKeep.{row_keeps}
use Rattle.step_contents.specs.Conditions.{MayDo, MayRaise, around, working}
use Rattle.step_contents.specs.Contents.{Contents, Here, contents_of}
use Rattle.step_contents.specs.PlacesInCode.{PlaceInCode}
use Rattle.step_contents.specs.Settings.{IsSetting}
use Rattle.step_contents.proofs.InstructionsBegin.{is_some_setting, runs_code, runs_well, some_setting}
use Rattle.segment_steps.specs.ActingSegments.{MayAct}
use Rattle.segment_steps.specs.FollowedCalls.{LeavesToSystem}
use Rattle.segment_steps.specs.RaisingHere.{RaisedHere}
use Rattle.segment_steps.specs.StepsAlone.{StandsReady, Stepped}
use Rattle.segment_steps.specs.declared.meeting.Runs.{Runs}
use Rattle.segment_steps.specs.declared.went.Went.{Went}
use Rattle.segment_steps.specs.declared.went.Went.TheVariants as Goes
use Rattle.segment_steps.proofs.InstructionsLeave.{may_raise, raisable, raised_at}
use Rattle.segment_steps.proofs.ContentsStay.{one_store}
use Rattle.segment_steps.proofs.StandingHere.{becomes_still, here, may_do, stepped}

module _ (heaps : HeapContent) (frames new : FrameContent) (own : KeptState) (world : WorldRecord) (shared : SharedState) (r : Runs)
    (at : PlaceInCode) (st : StandsReady frames world.classes own.state r at) where
  abbrev old : Contents
  old = contents_of heaps frames own

  abbrev mid : Contents
  mid = contents_of heaps new own

  abbrev h : Here
  h = here old world shared r at st

  module _ (may : MayAct old h) (x : Setting) (is : IsSetting old h x) where
    abbrev doing : MayDo old h at
    doing = may_do old world shared r at st may

    kept : (w : Working) (outcome : Outcome) → CallRow x at.scope at.instr (working doing) w outcome
        → IsKept (around may.domain) x (working doing) w × FitsOutcome (around may.domain) x at.scope w outcome
    kept w outcome row = row_keeps (around may.domain) x (working doing) w outcome (runs_well doing x is) (runs_code doing) row

    -- ---- By the answer.

    pub frame_called : (n : ℕ) → CallFollows x doing mid (Next.Goto n) → Stepped x r.thread may mid Goes.GoesOn
    frame_called n (calls w called row becomes) =
        stepped old world shared r at st may x is w (Calls called) (by_call row) mid
        (let run : Run = record { inside = w.inside; frames = st.top.lower ++ w.frame ∷ called ∷ [] } in run) GoesOn Goes.GoesOn (called_on called) refl
        becomes

    pub crossing : (k : CapId) (m : MemberId) → CallFollows x doing mid (Next.Crossing k m) → Stepped x r.thread may mid (Goes.Crosses k m)
    crossing k m (crosses c n row keeps) =
        stepped old world shared r at st may x is (working doing) (Crosses k m) (by_call row) mid
        (let run : Run = record { inside = may.run.inside; frames = st.top.lower ++ st.frame ∷ [] } in run) (WentAcross k m) (Goes.Crosses k m)
        (crossed k m) refl (becomes_still old world shared r at st may new keeps)

    pub raising : (raise : Raise) → CallFollows x doing mid (Next.Raise raise) → MayRaise mid h
    raising raise (raises q row keeps) =
        let left = kept (working doing) (Raises raise) row in
        may_raise old world shared r at st may mid x is (working doing) left.0 (becomes_still old world shared r at st may new keeps) may.domain.rooms
        left.1.0

    pub may_be_raised : (raise : Raise) → CallFollows x doing mid (Next.Raise raise) → MayBeRaised world.classes (heaps.heap r.domain) raise
    may_be_raised raise (raises q row keeps) =
        let left = kept (working doing) (Raises raise) row in
        raisable old world shared r at st may mid x is (working doing) left.0 (becomes_still old world shared r at st may new keeps) may.domain.rooms
        left.1.0 raise left.1.1

    pub raised : (raise : Raise) → CallFollows x doing mid (Next.Raise raise) → (after : Contents) (went : Went) → RaisedHere mid after h raise went
        → Stepped x r.thread may after went
    raised raise (raises q row keeps) after went done =
        let left = kept (working doing) (Raises raise) row in
        raised_at old world shared r at st may mid x is (working doing) left.0 (becomes_still old world shared r at st may new keeps) may.domain.rooms
        left.1.0 after raise went (by_call row) done

    -- where none was called, the frames are as before
    pub none_called : (after : After) → CallFollows x doing mid after → ((n : ℕ) → after ≡ Next.Goto n → ⊥) → new ≡ frames
    none_called after (calls w called row becomes) goes = absurd (goes 0 refl)
    none_called after (calls_system m call same keeps) goes = one_store frames new keeps
    none_called after (crosses k m row keeps) goes = one_store frames new keeps
    none_called after (raises raise row keeps) goes = one_store frames new keeps

  system_call : (m : MemberId) (x : Setting) (doing : MayDo old h at) → CallFollows x doing mid (Next.Call m)
      → ((call : CallsSystem x at.scope at.instr (working doing)) × (call.member ≡ m)) × IsSame frames new
  system_call m x to_do (calls_system n call same keeps) = ((call, same), keeps)

  pub keeps_frames : (m : MemberId) → MayAct old h → CallDone old mid h at (Next.Call m) → IsSame frames new
  keeps_frames m may done =
      let to_do = may_do old world shared r at st may in
      (system_call m (some_setting to_do) to_do (done (some_setting to_do) to_do (is_some_setting to_do))).1

  pub left_to_system : (m : MemberId) → IsSame frames new → CallDone old mid h at (Next.Call m) → LeavesToSystem old mid h at m
  left_to_system m keeps done = record {
    heaps = refl;
    frames = keeps;
    own = refl;
    calls = λ x to_do is. (system_call m x to_do (done x to_do is)).0;
  }

  -- ---- Nothing else is answered.

  follows_else : (x : Setting) (to_do : MayDo old h at) (after : After) → CallFollows x to_do mid after → ((n : ℕ) → after ≡ Next.Goto n → ⊥)
      → ((raise : Raise) → after ≡ Next.Raise raise → ⊥) → ((k : CapId) (m : MemberId) → after ≡ Next.Crossing k m → ⊥)
      → ((m : MemberId) → after ≡ Next.Call m → ⊥) → ⊥
  follows_else x to_do after (calls w frame row becomes) goes rises across calling = goes 0 refl
  follows_else x to_do after (calls_system m call same keeps) goes rises across calling = calling m refl
  follows_else x to_do after (crosses k m row keeps) goes rises across calling = across k m refl
  follows_else x to_do after (raises raise row keeps) goes rises across calling = rises raise refl

  pub nothing_else : MayAct old h → (after : After) → CallDone old mid h at after → ((n : ℕ) → after ≡ Next.Goto n → ⊥)
      → ((raise : Raise) → after ≡ Next.Raise raise → ⊥) → ((k : CapId) (m : MemberId) → after ≡ Next.Crossing k m → ⊥)
      → ((m : MemberId) → after ≡ Next.Call m → ⊥) → ⊥
  nothing_else may after done =
      let to_do = may_do old world shared r at st may in
      follows_else (some_setting to_do) to_do after (done (some_setting to_do) to_do (is_some_setting to_do))
