-- A method of the system was done: the frame goes on, or something is raised, or the domain is to be killed; and what it asked for is granted or
-- denied.
use Rattle.std.proofs.Common.{◌≡◌, ℕ, ◌+◌, List, [], ◌++◌, Option, None, refl, sym, subst, ◌∙◌}
use Rattle.jk_model.specs.declared.frames.FrameHead.{FrameHead}
use Rattle.jk_model.specs.declared.identifiers.ClassId.{ClassId}
use Rattle.jk_model.specs.declared.identifiers.MemberId.{MemberId}
use Rattle.jk_model.specs.declared.output.Line.{Line}
use Rattle.jk_model.specs.declared.steps.After.TheVariants as Next
use Rattle.jk_model.specs.declared.steps.Raise.{Raise}
use Rattle.jk_model.specs.declared.values.Value.{Value}
use Rattle.jk_model_classes.specs.Worlds.{WorldRecord}
use Rattle.jk_model_call_rows.specs.CallRows.{CallsSystem}
use Rattle.jk_model_frames.specs.Frames.{FrameState}
use Rattle.jk_model_heaps.specs.declared.shapes.Unwound.{Unwound}
use Rattle.jk_model_heaps.specs.CalledFrames.{as_entries, at_place, resumed}
use Rattle.jk_model_heaps.specs.Workings.{Asks, GoesOn, Inside, Outcome, Raises, Request, Run, Says, Setting, Terminates, Working}
use Rattle.jk_model_running.specs.Executions.{Executes, system}
use Rattle.jk_model_running.specs.LocalSteps.{asks, does, goes_on, says, terminates}
use Rattle.jk_model_running.specs.Raising.{RaisesIn}
use Rattle.jk_model_sharing.specs.SharedStates.{SharedState}
use Rattle.jk_model_system_rows.specs.SystemCalls.{DoesSystem}
use Rattle.class_init.specs.KeptStates.{KeptState}
use Rattle.frame_store.specs.FrameContents.{FrameContent, HasTop, SetsTop}
use Rattle.frame_store.specs.FrameContents.{TopFrame as StoredTop}
use Rattle.heap_laws.specs.FittingOutcomes.{FitsOutcome}
use Rattle.heap_laws.specs.KeptInsides.{IsKept}
use Rattle.heap_laws.specs.RaisableObjects.{MayBeRaised}
use Rattle.object_store.specs.HeapContents.{HeapContent}
use Rattle.row_laws.proofs.CallsOfSystem.{row_keeps}
use Rattle.row_laws.proofs.StacksNotRead.{unread}
use Rattle.step_contents.specs.Conditions.{MayDo, MayRaise, around, working}
use Rattle.step_contents.specs.Contents.{Becomes, Contents, Here, contents_of, left_behind, with_frame}
use Rattle.step_contents.specs.PlacesInCode.{PlaceInCode}
use Rattle.step_contents.specs.Settings.{IsSetting}
use Rattle.step_contents.proofs.InstructionsBegin.{runs_code, runs_well}
use Rattle.system_calls.specs.SystemSteps.{CallSite, SystemFollows, call_site}
use Rattle.system_calls.specs.SystemSteps.{denies as sys_denies, goes_on as sys_goes_on, grants as sys_grants, raises as sys_raises, says as sys_says, terminates as sys_terminates}
use Rattle.segment_steps.specs.ActingSegments.{Acted, MayAct}
use Rattle.segment_steps.specs.ActingSegments.{goes_on as acted_on, is_denied, is_granted, says as acted_saying, terminates as acted_down}
use Rattle.segment_steps.specs.RaisingHere.{RaisedHere}
use Rattle.segment_steps.specs.StepsAlone.{StandsReady}
use Rattle.segment_steps.specs.declared.meeting.Runs.{Runs}
use Rattle.segment_steps.specs.declared.went.Went.{Went}
use Rattle.segment_steps.specs.declared.went.Went.TheVariants as Goes
use Rattle.segment_steps.proofs.ActingAlone.{acted}
use Rattle.segment_steps.proofs.AnswersFromOutside.{HasOtherStack, asks_stay, ends_stay}
use Rattle.segment_steps.proofs.AnswersRaise.{denied_can}
use Rattle.segment_steps.proofs.ChangesInTurn.{are_frames, becomes_then, free_after, holds_after, stored_top, top_set}
use Rattle.segment_steps.proofs.InstructionsLeave.{becomes_at, may_raise, no_need, raisable, raised_at, top_left}
use Rattle.segment_steps.proofs.KnownAfterwards.{setting_after}
use Rattle.segment_steps.proofs.SegmentsRaise.{raise_still}
use Rattle.segment_steps.proofs.StandingHere.{does_it, here, may_do}

module _ (old_heaps : HeapContent) (old_frames : FrameContent) (own : KeptState) (world : WorldRecord) (shared : SharedState) (r : Runs)
    (at : PlaceInCode) (st : StandsReady old_frames world.classes own.state r at) (m : MemberId) where
  abbrev old : Contents
  old = contents_of old_heaps old_frames own

  abbrev h : Here
  h = here old world shared r at st

  abbrev site : CallSite
  site = call_site h at m

  module _ (may : MayAct old h) (x : Setting) (is : IsSetting old h x) where
    abbrev doing : MayDo old h at
    doing = may_do old world shared r at st may

    abbrev w0 : Working
    w0 = working doing

    module _ (call : CallsSystem x at.scope at.instr w0) (same : call.member ≡ m) where
      abbrev given : List Value
      given = call.call.given

      this : (w : Working) (outcome : Outcome) → DoesSystem x m given w0 w outcome → DoesSystem x call.member given w0 w outcome
      this w outcome did = subst (λ (k : MemberId). DoesSystem x k given w0 w outcome) (sym same) did

      executes : (w : Working) (outcome : Outcome) → DoesSystem x m given w0 w outcome → Executes x at.scope at.instr w0 w outcome
      executes w outcome did = system call (this w outcome did)

      kept : (w : Working) (outcome : Outcome) → DoesSystem x m given w0 w outcome
          → IsKept (around may.domain) x w0 w × FitsOutcome (around may.domain) x at.scope w outcome
      kept w outcome did =
          row_keeps (around may.domain) x w0 (runs_well doing x is) (runs_code doing) call w outcome (this w outcome did)

      module _ (heaps : HeapContent) (frames : FrameContent) (left : SharedState) where
        abbrev mid : Contents
        mid = contents_of heaps frames own

        -- ---- The frame goes on.

        -- the frame with its answer
        abbrev answered : Working → Option Value → FrameState
        answered w v = record w.frame { stack = w.frame.stack ++ as_entries v }

        pub top_there : (n : ℕ) (lines : List Line) → SystemFollows site x doing given (left_behind mid left) (Next.Goto n) lines → HasTop frames r.segment
        top_there n lines (sys_goes_on w k did becomes shares) =
            (w.frame, top_left old world shared r at st may w (kept w (GoesOn k) did).0.head heaps frames frames own becomes)
        top_there n lines (sys_says w text k did becomes shares) =
            (w.frame, top_left old world shared r at st may w (kept w (Says text k) did).0.head heaps frames frames own becomes)
        top_there n lines (sys_grants w request v did answers becomes) = (
          answered w v,
          stored_top mid h (with_frame st.top.lower (answered w v) w.inside) st.top.lower (answered w v)
              (holds_after old mid h may.run (with_frame st.top.lower (answered w v) w.inside) becomes) refl,
        )

        module _ (new : FrameContent) where
          abbrev Moves : ℕ → Type 0
          Moves n = (f : FrameState) → StoredTop frames r.segment f
              → SetsTop frames new r.segment (record f { head = record f.head { at = n; need = None } })

          -- the frame that waited goes on behind its call
          resumes : (w : Working) (request : Request) (v : Option Value) → DoesSystem x m given w0 w (Asks request)
              → Becomes old mid h may.run (with_frame st.top.lower (answered w v) w.inside) → Moves (at.head.at + 1)
              → Becomes old (contents_of heaps new own) h may.run (with_frame st.top.lower (resumed v w.frame) w.inside)
          resumes w request v did becomes goes =
              let head : w.frame.head ≡ st.frame.head = (kept w (Asks request) did).0.head in
              let top = stored_top mid h (with_frame st.top.lower (answered w v) w.inside) st.top.lower (answered w v)
              (holds_after old mid h may.run (with_frame st.top.lower (answered w v) w.inside) becomes) refl in
              let none : None ≡ w.frame.head.need = sym (no_need old world shared r at st may w head) in
              let one = subst (λ (o : Option ClassId). SetsTop frames new r.segment
              (let f : FrameState = record (answered w v) { head = record w.frame.head { at = at.head.at + 1; need = o } } in f)) none
              (goes (answered w v) top) in
              let two : SetsTop frames new r.segment (resumed v w.frame) = subst (λ (k : FrameHead). SetsTop frames new r.segment
              (let f : FrameState = record (answered w v) { head = record w.frame.head { at = k.at + 1 } } in f)) (st.head ∙ sym head) one in
              top_set old heaps frames new own h may.run st.top.lower (answered w v) (resumed v w.frame) w.inside becomes refl two

          pub went_on : (n : ℕ) (lines : List Line) → SystemFollows site x doing given (left_behind mid left) (Next.Goto n) lines → Moves n
              → Acted x r.thread may (left_behind (contents_of heaps new own) left) Goes.GoesOn lines
          went_on n lines (sys_goes_on w k did becomes shares) goes =
              acted_on (with_frame st.top.lower (at_place w.frame k) w.inside)
              (does (does_it old world shared r at st may x is w (GoesOn k) (executes w (GoesOn k) did)) _ (goes_on k))
              (becomes_at old world shared r at st may w (kept w (GoesOn k) did).0.head heaps frames new own becomes k goes) shares
          went_on n lines (sys_says w text k did becomes shares) goes =
              acted_saying (with_frame st.top.lower (at_place w.frame k) w.inside) text
              (does (does_it old world shared r at st may x is w (Says text k) (executes w (Says text k) did)) _ (says text k))
              (becomes_at old world shared r at st may w (kept w (Says text k) did).0.head heaps frames new own becomes k goes) shares
          went_on n lines (sys_grants w request v did answers becomes) goes =
              is_granted (with_frame st.top.lower w.frame w.inside)
              (record { callers = st.top.lower; frame = w.frame; are_frames = refl }) request v
              (does (does_it old world shared r at st may x is w (Asks request) (executes w (Asks request) did)) _ (asks request)) answers
              (resumes w request v did becomes goes)

        -- ---- It raises something.

        pub raising : (raise : Raise) (lines : List Line) → SystemFollows site x doing given (left_behind mid left) (Next.Raise raise) lines
            → MayRaise mid h
        raising raise lines (sys_raises w q did becomes shares) =
            let k = kept w (Raises q) did in may_raise old world shared r at st may mid x is w k.0 becomes may.domain.rooms k.1.0
        raising raise lines (sys_denies w request q did answers becomes) = raise_still old mid h may becomes may.domain.rooms

        pub may_be_raised : (raise : Raise) (lines : List Line)
            → SystemFollows site x doing given (left_behind mid left) (Next.Raise raise) lines → MayBeRaised world.classes (heaps.heap r.domain) raise
        may_be_raised raise lines (sys_raises w q did becomes shares) =
            let k = kept w (Raises q) did in
            raisable old world shared r at st may mid x is w k.0 becomes may.domain.rooms k.1.0 raise k.1.1
        may_be_raised raise lines (sys_denies w request q did answers becomes) =
            denied_can world.classes may.domain.codes (heaps.heap r.domain) shared r.domain request raise left answers

        -- what is raised where the frame waits is raised where it stood
        raised_there : (w : Working) → w.inside ≡ may.run.inside → HasOtherStack st.frame w.frame → (raise : Raise) (new : Run) (unwound : Unwound)
            → RaisesIn x may.run raise new unwound → RaisesIn x (with_frame st.top.lower w.frame w.inside) raise new unwound
        raised_there w inside (stack, frame) raise new unwound raises =
            let waits : Run = with_frame st.top.lower (let f : FrameState = record st.frame { stack = stack } in f) may.run.inside in
            let there : RaisesIn x waits raise new unwound = record {
              thrown = raises.thrown;
              made = raises.made;
              is_raised = raises.is_raised;
              unwinds = unread x (record may.run { inside = raises.made }) new st.top.lower st.frame stack raises.thrown
                  (are_frames old h may.run may.holds st.frame st.top) unwound raises.unwinds;
            } in
            subst (λ (f : FrameState). RaisesIn x (with_frame st.top.lower f w.inside) raise new unwound) (sym frame)
            (subst (λ (i : Inside). RaisesIn x (with_frame st.top.lower (let f : FrameState = record st.frame { stack = stack } in f) i) raise new unwound)
            (sym inside) there)

        pub raised : (raise : Raise) (lines : List Line) → SystemFollows site x doing given (left_behind mid left) (Next.Raise raise) lines
            → (new : Contents) (went : Went) → RaisedHere mid new h raise went → Acted x r.thread may (left_behind new left) went lines
        raised raise lines (sys_raises w q did becomes shares) new went done =
            let k = kept w (Raises q) did in
            subst (λ (s : SharedState). Acted x r.thread may (left_behind new s) went []) (sym shares)
            (acted x r.thread may new went
            (raised_at old world shared r at st may mid x is w k.0 becomes may.domain.rooms k.1.0 new raise went (executes w (Raises q) did) done))
        raised raise lines (sys_denies w request q did answers becomes) new went done =
            let stays = asks_stay x m given w0 w request did in
            let free = free_after old mid h may.run.frames may.run.frames becomes.frames refl in
            let so = done x (raise_still old mid h may becomes may.domain.rooms) (setting_after old mid h may.run.inside becomes.inside free x is) in
            subst (λ (k : Went). Acted x r.thread may (left_behind new left) k []) (sym so.3)
            (is_denied (with_frame st.top.lower w.frame w.inside) so.0 request raise so.1
            (does (does_it old world shared r at st may x is w (Asks request) (executes w (Asks request) did)) _ (asks request)) answers
            (raised_there w stays.0 stays.1 raise so.0 so.1 so.2) (becomes_then old mid new h may.run may.run so.0 becomes so.4))

        -- ---- It ends its domain.

        pub went_down : (lines : List Line) → SystemFollows site x doing given (left_behind mid left) Next.Terminate lines
            → Acted x r.thread may (left_behind mid left) Goes.Terminates lines
        went_down lines (sys_terminates w did becomes shares) =
            let stays = ends_stay x m given w0 w did in
            let there : Becomes old mid h may.run (with_frame st.top.lower st.frame may.run.inside) =
            subst (λ (fs : List FrameState). Becomes old mid h may.run (let run : Run = record { inside = may.run.inside; frames = fs } in run))
            (are_frames old h may.run may.holds st.frame st.top) becomes in
            let one = subst (λ (i : Inside). Becomes old mid h may.run (with_frame st.top.lower st.frame i)) (sym stays.0) there in
            let two = subst (λ (f : FrameState). Becomes old mid h may.run (with_frame st.top.lower f w.inside)) (sym stays.1) one in
            acted_down (with_frame st.top.lower w.frame w.inside)
            (does (does_it old world shared r at st may x is w Terminates (executes w Terminates did)) _ terminates) two shares
