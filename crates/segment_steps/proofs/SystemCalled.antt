-- A method of the system that the top frame calls was done: what comes of it in the segment.
use Rattle.std.proofs.Common.{◌≡◌, ℕ, List, None, refl}
use Rattle.jk_model.specs.declared.identifiers.MemberId.{MemberId}
use Rattle.jk_model.specs.declared.output.Line.{Line}
use Rattle.jk_model.specs.declared.steps.After.{After}
use Rattle.jk_model.specs.declared.steps.After.TheVariants as Next
use Rattle.jk_model.specs.declared.steps.Raise.{Raise}
use Rattle.jk_model_classes.specs.Worlds.{WorldRecord}
use Rattle.jk_model_call_rows.specs.CallRows.{CallsSystem}
use Rattle.jk_model_frames.specs.Frames.{FrameState}
use Rattle.jk_model_heaps.specs.Workings.{Setting}
use Rattle.jk_model_sharing.specs.SharedStates.{SharedState}
use Rattle.class_init.specs.KeptStates.{KeptState}
use Rattle.frame_store.specs.FrameContents.{FrameContent, HasTop, SetsTop, TopFrame}
use Rattle.heap_laws.specs.RaisableObjects.{MayBeRaised}
use Rattle.object_store.specs.HeapContents.{HeapContent}
use Rattle.step_contents.specs.Conditions.{MayDo, MayRaise, working}
use Rattle.step_contents.specs.Contents.{Contents, Here, LeftBehind, contents_of, left_behind}
use Rattle.step_contents.specs.PlacesInCode.{PlaceInCode}
use Rattle.step_contents.proofs.InstructionsBegin.{is_some_setting, some_setting}
use Rattle.system_calls.specs.SystemSteps.{CallSite, MayCall, SystemDone, SystemFollows, call_site, denies, goes_on, grants, raises, says, terminates}
use Rattle.segment_steps.specs.ActingSegments.{ActsSo, MayAct}
use Rattle.segment_steps.specs.CallsOnSystem.{CallsMethod}
use Rattle.segment_steps.specs.RaisingHere.{RaisedHere}
use Rattle.segment_steps.specs.StepsAlone.{StandsReady}
use Rattle.segment_steps.specs.declared.meeting.Runs.{Runs}
use Rattle.segment_steps.specs.declared.went.Went.{Went}
use Rattle.segment_steps.specs.declared.went.Went.TheVariants as Goes
use Rattle.segment_steps.proofs.StandingHere.{here, may_do}
use Rattle.segment_steps.proofs.SystemFollowed.{may_be_raised, raised, raising, top_there, went_down, went_on}

module _ (before : HeapContent) (frames : FrameContent) (own : KeptState) (world : WorldRecord) (shared : SharedState) (r : Runs)
    (at : PlaceInCode) (st : StandsReady frames world.classes own.state r at) (m : MemberId) where
  abbrev old : Contents
  old = contents_of before frames own

  abbrev h : Here
  h = here old world shared r at st

  abbrev site : CallSite
  site = call_site h at m

  module _ (calls : CallsMethod old h at m) where
    pub may_call : MayAct old h → MayCall old site
    may_call may = record {
      may = may_do old world shared r at st may;
      calls = λ x is. calls x (may_do old world shared r at st may) is;
    }

    module _ (heaps : HeapContent) (mid : FrameContent) (left : SharedState) (GoOut : List Line → Type 0) where
      abbrev leaves : LeftBehind
      leaves = left_behind (contents_of heaps mid own) left

      -- ---- In some setting.

      module _ (may : MayAct old h) where
        abbrev doing : MayDo old h at
        doing = may_do old world shared r at st may

        abbrev x : Setting
        x = some_setting doing

        abbrev call : CallsSystem x at.scope at.instr (working doing)
        call = (calls x doing (is_some_setting doing)).0

        follows : (after : After) → SystemDone old site leaves after GoOut
            → (lines : List Line) × SystemFollows site x doing call.call.given leaves after lines
        follows after done =
            let did = done x doing call (is_some_setting doing) (calls x doing (is_some_setting doing)).1 in (did.0, did.1)

        pub has_top : (n : ℕ) → SystemDone old site leaves (Next.Goto n) GoOut → HasTop mid r.segment
        has_top n done =
            let f = follows (Next.Goto n) done in
            top_there before frames own world shared r at st m may x (is_some_setting doing) call (calls x doing (is_some_setting doing)).1 heaps mid left
            n f.0 f.1

        pub may_raise : (raise : Raise) → SystemDone old site leaves (Next.Raise raise) GoOut → MayRaise (contents_of heaps mid own) h
        may_raise raise done =
            let f = follows (Next.Raise raise) done in
            raising before frames own world shared r at st m may x (is_some_setting doing) call (calls x doing (is_some_setting doing)).1 heaps mid left
            raise f.0 f.1

        pub raisable : (raise : Raise) → SystemDone old site leaves (Next.Raise raise) GoOut → MayBeRaised world.classes (heaps.heap r.domain) raise
        raisable raise done =
            let f = follows (Next.Raise raise) done in
            may_be_raised before frames own world shared r at st m may x (is_some_setting doing) call (calls x doing (is_some_setting doing)).1 heaps mid
            left raise f.0 f.1

        -- nothing else is answered
        else_none : (after : After) (lines : List Line) → SystemFollows site x doing call.call.given leaves after lines
            → ((n : ℕ) → after ≡ Next.Goto n → ⊥) → ((raise : Raise) → after ≡ Next.Raise raise → ⊥) → (after ≡ Next.Terminate → ⊥) → ⊥
        else_none after lines (goes_on w n did becomes shares) goes rises ends = goes _ refl
        else_none after lines (says w text n did becomes shares) goes rises ends = goes _ refl
        else_none after lines (raises w q did becomes shares) goes rises ends = rises _ refl
        else_none after lines (grants w request v did answers becomes) goes rises ends = goes _ refl
        else_none after lines (denies w request q did answers becomes) goes rises ends = rises _ refl
        else_none after lines (terminates w did becomes shares) goes rises ends = ends refl

        pub nothing_else : (after : After) → SystemDone old site leaves after GoOut → ((n : ℕ) → after ≡ Next.Goto n → ⊥)
            → ((raise : Raise) → after ≡ Next.Raise raise → ⊥) → (after ≡ Next.Terminate → ⊥) → ⊥
        nothing_else after done = let f = follows after done in else_none after f.0 f.1

      -- ---- In each.

      pub goes : (n : ℕ) → SystemDone old site leaves (Next.Goto n) GoOut → (new : FrameContent)
          → ((f : FrameState) → TopFrame mid r.segment f
          → SetsTop mid new r.segment (record f { head = record f.head { at = n; need = None } }))
          → ActsSo old h r.thread (left_behind (contents_of heaps new own) left) Goes.GoesOn GoOut
      goes n done new moves = λ x may is.
          let doing = may_do old world shared r at st may in
          let call = calls x doing is in
          let did = done x doing call.0 is call.1 in
          (did.0, went_on before frames own world shared r at st m may x is call.0 call.1 heaps mid left new n did.0 did.1 moves, did.2)

      pub rises : (raise : Raise) → SystemDone old site leaves (Next.Raise raise) GoOut → (new : Contents) (went : Went)
          → RaisedHere (contents_of heaps mid own) new h raise went → ActsSo old h r.thread (left_behind new left) went GoOut
      rises raise done new went so = λ x may is.
          let doing = may_do old world shared r at st may in
          let call = calls x doing is in
          let did = done x doing call.0 is call.1 in
          (did.0, raised before frames own world shared r at st m may x is call.0 call.1 heaps mid left raise did.0 did.1 new went so, did.2)

      pub ends : SystemDone old site leaves Next.Terminate GoOut → ActsSo old h r.thread leaves Goes.Terminates GoOut
      ends done = λ x may is.
          let doing = may_do old world shared r at st may in
          let call = calls x doing is in
          let did = done x doing call.0 is call.1 in
          (did.0, went_down before frames own world shared r at st m may x is call.0 call.1 heaps mid left did.0 did.1, did.2)
