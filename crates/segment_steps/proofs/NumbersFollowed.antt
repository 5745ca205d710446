-- What follows an instruction on numbers: its frame goes on, returns, or divided by 0.
use Rattle.std.proofs.Common.{◌≡◌, ◌≢◌, ℕ, [], ◌∷◌, ◌++◌, Option, None, refl, sym, ap, ◌∙◌}
use Rattle.jk_model.specs.declared.frames.FrameHead.{FrameHead}
use Rattle.jk_model.specs.declared.steps.After.TheVariants as Next
use Rattle.jk_model.specs.declared.steps.Raise.{Raise}
use Rattle.jk_model.specs.declared.values.Value.{Value}
use Rattle.jk_model_classes.specs.Worlds.{WorldRecord}
use Rattle.jk_model_frames.specs.Frames.{FrameState}
use Rattle.jk_model_heaps.specs.Workings.{GoesOn, Raises, Returns, Setting, Working}
use Rattle.jk_model_sharing.specs.SharedStates.{SharedState}
use Rattle.class_init.specs.KeptStates.{KeptState}
use Rattle.frame_store.specs.FrameContents.{FrameContent, GivesBack, MayGiveBack, Pops, SetsTop, TopFrame}
use Rattle.heap_laws.specs.RaisableObjects.{MayBeRaised}
use Rattle.number_ops.specs.NumberSteps.{DoesNumbers}
use Rattle.object_store.specs.HeapContents.{HeapContent}
use Rattle.step_contents.specs.Conditions.{MayRaise}
use Rattle.step_contents.specs.Contents.{Contents, Here, contents_of}
use Rattle.step_contents.specs.PlacesInCode.{PlaceInCode}
use Rattle.step_contents.specs.Settings.{IsSetting}
use Rattle.segment_steps.specs.ActingSegments.{MayAct}
use Rattle.segment_steps.specs.RaisingHere.{RaisedHere}
use Rattle.segment_steps.specs.Returning.{HasReturned, MayReturn, PaysFrames}
use Rattle.segment_steps.specs.StepsAlone.{StandsReady, Stepped}
use Rattle.segment_steps.specs.declared.meeting.Runs.{Runs}
use Rattle.segment_steps.specs.declared.went.Went.{Went}
use Rattle.segment_steps.specs.declared.went.Went.TheVariants as Goes
use Rattle.segment_steps.proofs.FramesReturn.{may_return, returned}
use Rattle.segment_steps.proofs.GivingBack.{HasBelow, all_ended, below_goes_on, below_on_top, may_give_back, some_below, top_there}
use Rattle.segment_steps.proofs.InstructionsLeave.{goes_at, may_raise, raisable, raised_at}
use Rattle.segment_steps.proofs.NumbersDone.{becomes, executes, head_stays, kept, left, left_working}
use Rattle.segment_steps.proofs.PaidFrames.{paid_after}
use Rattle.segment_steps.proofs.StandingHere.{here}

module _ (heaps : HeapContent) (frames mid : FrameContent) (own : KeptState) (world : WorldRecord) (shared : SharedState) (r : Runs)
    (at : PlaceInCode) (st : StandsReady frames world.classes own.state r at)
    (may : MayAct (contents_of heaps frames own) (here (contents_of heaps frames own) world shared r at st)) where
  abbrev old : Contents
  old = contents_of heaps frames own

  abbrev then : Contents
  then = contents_of heaps mid own

  abbrev h : Here
  h = here old world shared r at st

  module _ (x : Setting) (is : IsSetting old h x) where
    pub went_on : (n : ℕ) → DoesNumbers frames mid world.classes r.segment at.head at.instr (Next.Goto n) → (new : FrameContent)
        → ((f : FrameState) → TopFrame mid r.segment f
        → SetsTop mid new r.segment (record f { head = record f.head { at = n; need = None } }))
        → Stepped x r.thread may (contents_of heaps new own) Goes.GoesOn
    went_on n did new goes =
        goes_at old world shared r at st may (left_working old world shared r at st mid (Next.Goto n) did may)
        (head_stays old world shared r at st mid (Next.Goto n) did) heaps mid new own (becomes old world shared r at st mid (Next.Goto n) did may) x is n
        (executes old world shared r at st mid (Next.Goto n) did may x is (GoesOn n) refl) goes

    -- ---- It divided by 0.

    module _ (raise : Raise) (did : DoesNumbers frames mid world.classes r.segment at.head at.instr (Next.Raise raise)) where
      pub raising : MayRaise then h
      raising =
          let k = kept old world shared r at st mid (Next.Raise raise) did may x is (Raises raise) refl in
          may_raise old world shared r at st may then x is (left_working old world shared r at st mid (Next.Raise raise) did may) k.0
          (becomes old world shared r at st mid (Next.Raise raise) did may) may.domain.rooms k.1.0

      pub may_be_raised : MayBeRaised world.classes (heaps.heap r.domain) raise
      may_be_raised =
          let k = kept old world shared r at st mid (Next.Raise raise) did may x is (Raises raise) refl in
          raisable old world shared r at st may then x is (left_working old world shared r at st mid (Next.Raise raise) did may) k.0
          (becomes old world shared r at st mid (Next.Raise raise) did may) may.domain.rooms k.1.0 raise k.1.1

      pub raised : (new : Contents) (went : Went) → RaisedHere then new h raise went → Stepped x r.thread may new went
      raised new went done =
          let k = kept old world shared r at st mid (Next.Raise raise) did may x is (Raises raise) refl in
          raised_at old world shared r at st may then x is (left_working old world shared r at st mid (Next.Raise raise) did may) k.0
          (becomes old world shared r at st mid (Next.Raise raise) did may) may.domain.rooms k.1.0 new raise went
          (executes old world shared r at st mid (Next.Raise raise) did may x is (Raises raise) refl) done

    -- ---- It returned.

    module _ (v : Option Value) (did : DoesNumbers frames mid world.classes r.segment at.head at.instr (Next.Return v)) where
      abbrev pub w : Working
      w = left_working old world shared r at st mid (Next.Return v) did may

      pub head_is : w.frame.head ≡ at.head
      head_is = head_stays old world shared r at st mid (Next.Return v) did ∙ sym st.head

      pub returning : MayReturn then h st.top.lower w v
      returning =
          may_return old then world shared r at st may (left old world shared r at st mid (Next.Return v) did)
          (head_stays old world shared r at st mid (Next.Return v) did) (becomes old world shared r at st mid (Next.Return v) did may) v
          (kept old world shared r at st mid (Next.Return v) did may x is (Returns v) refl).1

      pub paid : PaysFrames frames r.segment → PaysFrames mid r.segment
      paid = paid_after old then h may.run.frames (st.top.lower ++ w.frame ∷ []) may.holds.frames
          (becomes old world shared r at st mid (Next.Return v) did may).frames

      pub given_back : (new : Contents) (went : Went) → HasReturned x then new h st.top.lower w v went → Stepped x r.thread may new went
      given_back new went back =
          returned old then world shared r at st may (left old world shared r at st mid (Next.Return v) did)
          (head_stays old world shared r at st mid (Next.Return v) did) (becomes old world shared r at st mid (Next.Return v) did may) v
          (kept old world shared r at st mid (Next.Return v) did may x is (Returns v) refl).1 x is new went
          (executes old world shared r at st mid (Next.Return v) did may x is (Returns v) refl) back

      -- ---- It initialised no class, and there is no caller: no frame is left.

      pub last_there : TopFrame mid r.segment w.frame
      last_there = top_there heaps mid own h st.top.lower w v returning

      pub none_left : at.head.initialises ≡ None → st.top.lower ≡ [] → PaysFrames frames r.segment → (popped : FrameContent)
          → Pops mid popped r.segment → Stepped x r.thread may (contents_of heaps popped own) (Goes.Returned v)
      none_left none empty pays popped pops =
          given_back (contents_of heaps popped own) (Goes.Returned v)
          (all_ended heaps mid own h st.top.lower w v returning (paid pays) popped pops x (ap (λ (k : FrameHead). k.initialises) head_is ∙ none) empty)

      -- ---- It initialised no class, and there are callers: it gives back to the frame below.

      module _ (none : at.head.initialises ≡ None) (some : st.top.lower ≢ []) where
        no_class : w.frame.head.initialises ≡ None
        no_class = ap (λ (k : FrameHead). k.initialises) head_is ∙ none

        caller : HasBelow heaps mid own h st.top.lower w v returning
        caller = some_below heaps mid own h st.top.lower w v returning some

        pub may_give_below : MayGiveBack mid r.segment v
        may_give_below = may_give_back heaps mid own h st.top.lower w v returning caller.lower caller.below no_class caller.are

        module _ (pays : PaysFrames frames r.segment) (new : FrameContent) (gives : GivesBack mid new r.segment v) where
          pub gone_below : Stepped x r.thread may (contents_of heaps new own) Goes.GoesOn
          gone_below =
              given_back (contents_of heaps new own) Goes.GoesOn
              (below_goes_on heaps mid own h st.top.lower w v returning caller.lower caller.below no_class caller.are (paid pays) new gives x)

          pub caller_on_top : (f : FrameState) × TopFrame new r.segment f × (f.head.need ≡ None)
          caller_on_top =
              below_on_top heaps mid own h st.top.lower w v returning caller.lower caller.below no_class caller.are (paid pays) new gives
