-- What an instruction left that keeps what rows keep: its frame goes on at a place, or something is raised there.
use Rattle.std.proofs.Common.{◌≡◌, ℕ, [], ◌∷◌, ◌++◌, Option, Some, None, slice_get, refl, sym, ap, subst, ◌∙◌, arith}
use Rattle.std.proofs.lemmas.List.Sums.{sum_by_push}
use Rattle.jk_model.specs.declared.frames.FrameHead.{FrameHead}
use Rattle.jk_model.specs.declared.identifiers.ClassId.{ClassId}
use Rattle.jk_model.specs.declared.instructions.Instr.{Instr}
use Rattle.jk_model.specs.declared.steps.Raise.{Raise}
use Rattle.jk_model_classes.specs.Worlds.{WorldRecord}
use Rattle.jk_model_frames.specs.Frames.{FrameState, frames_chunks, head_chunks}
use Rattle.jk_model_heaps.specs.declared.shapes.Unwound.{Unwound}
use Rattle.jk_model_heaps.specs.declared.shapes.Unwound.TheVariants.{Caught, Uncaught}
use Rattle.jk_model_heaps.specs.CalledFrames.{at_place}
use Rattle.jk_model_heaps.specs.Workings.{GoesOn, Inside, Raises, Run, Setting, Working}
use Rattle.jk_model_running.specs.Executions.{Executes}
use Rattle.jk_model_running.specs.LocalSteps.{goes_on, raises}
use Rattle.jk_model_running.specs.Raising.{after_raising}
use Rattle.jk_model_running.specs.Ways.{GoesOn as WentOn}
use Rattle.jk_model_sealing.specs.FittingFrames.{FitsAsTop, FitsHere}
use Rattle.jk_model_sealing.specs.SealedInsides.{IsSealedInside}
use Rattle.jk_model_sealing.specs.SealedRuns.{AreSealedFrames, IsSealedRun}
use Rattle.jk_model_sharing.specs.SharedStates.{SharedState}
use Rattle.class_init.specs.KeptStates.{HasRooms, KeptState}
use Rattle.frame_store.specs.FrameContents.{FrameContent, SetsTop, TopFrame}
use Rattle.object_store.specs.HeapContents.{HeapContent}
use Rattle.number_ops.proofs.TopFrames.{top_after}
use Rattle.heap_laws.specs.KeptInsides.{IsKept}
use Rattle.heap_laws.specs.RaisableObjects.{KeepsStates, MayBeRaised, MayMeetRaise}
use Rattle.step_contents.specs.Conditions.{MayRaise, around, working}
use Rattle.step_contents.specs.Contents.{Becomes, Contents, Here, contents_of, with_frame}
use Rattle.step_contents.specs.PlacesInCode.{PlaceInCode}
use Rattle.step_contents.specs.Settings.{IsSetting}
use Rattle.step_contents.proofs.InstructionsBegin.{same_quota}
use Rattle.segment_steps.specs.ActingSegments.{MayAct}
use Rattle.segment_steps.specs.RaisingHere.{RaisedHere, went_of}
use Rattle.step_contents.specs.StandingTops.{StandsThere}
use Rattle.segment_steps.specs.StepsAlone.{IsWent, StandsReady, Stepped}
use Rattle.segment_steps.specs.declared.meeting.Runs.{Runs}
use Rattle.segment_steps.specs.declared.went.Went.{Went}
use Rattle.segment_steps.specs.declared.went.Went.TheVariants as Goes
use Rattle.segment_steps.proofs.ChangesInTurn.{are_frames, becomes_then, free_after, holds_after, stored_top, top_set}
use Rattle.segment_steps.proofs.FramesReplaced.{raising_sealed}
use Rattle.segment_steps.proofs.KnownAfterwards.{known_after, setting_after}
use Rattle.segment_steps.proofs.StandingHere.{here, may_do, stepped}
use Rattle.segment_steps.proofs.StatesStay.{state_stays, states_stay}

-- what left all frames, or was caught, in both words
pub raised_went : (unwound : Unwound) (went : Went) → went ≡ went_of unwound → IsWent (after_raising unwound) went
raised_went Caught went is = is
raised_went (Uncaught a) went is = is

module _ (old : Contents) (world : WorldRecord) (shared : SharedState) (r : Runs) (at : PlaceInCode)
    (st : StandsReady old.frames world.classes old.own.state r at) (may : MayAct old (here old world shared r at st)) where
  abbrev h : Here
  h = here old world shared r at st

  abbrev from : Working
  from = working (may_do old world shared r at st may)

  frames_were : may.run.frames ≡ st.top.lower ++ st.frame ∷ []
  frames_were = are_frames old h may.run may.holds st.frame st.top

  module _ (w : Working) (head : w.frame.head ≡ st.frame.head) where
    abbrev pub left : Run
    left = with_frame st.top.lower w.frame w.inside

    pub no_need : w.frame.head.need ≡ None
    no_need = ap (λ (k : FrameHead). k.need) (head ∙ sym st.head) ∙ st.no_need

    chunks_left : frames_chunks (st.top.lower ++ w.frame ∷ []) ≡ frames_chunks may.run.frames
    chunks_left =
        let cost : FrameState → ℕ = λ (f : FrameState). head_chunks f.head in
        let was : frames_chunks may.run.frames ≡ frames_chunks (st.top.lower ++ st.frame ∷ []) = ap frames_chunks frames_were in
        let one = sum_by_push cost st.top.lower st.frame in
        let two = sum_by_push cost st.top.lower w.frame in
        let same : head_chunks w.frame.head ≡ head_chunks st.frame.head = ap head_chunks head in
        omega (arith, was, one, two, same)

    -- ---- The frame goes on.

    module _ (heaps : HeapContent) (frames new : FrameContent) (own : KeptState)
        (becomes : Becomes old (contents_of heaps frames own) h may.run left) where
      pub top_left : TopFrame frames r.segment w.frame
      top_left =
          stored_top (contents_of heaps frames own) h left st.top.lower w.frame (holds_after old (contents_of heaps frames own) h may.run left becomes)
          refl

      placed : (n : ℕ) → ((f : FrameState) → TopFrame frames r.segment f
          → SetsTop frames new r.segment (record f { head = record f.head { at = n; need = None } }))
          → SetsTop frames new r.segment (at_place w.frame n)
      placed n goes =
          subst (λ (o : Option ClassId). SetsTop frames new r.segment
          (let f : FrameState = record w.frame { head = record w.frame.head { at = n; need = o } } in f)) (sym no_need) (goes w.frame top_left)

      pub becomes_at : (n : ℕ) → ((f : FrameState) → TopFrame frames r.segment f
          → SetsTop frames new r.segment (record f { head = record f.head { at = n; need = None } }))
          → Becomes old (contents_of heaps new own) h may.run (with_frame st.top.lower (at_place w.frame n) w.inside)
      becomes_at n goes =
          top_set old heaps frames new own h may.run st.top.lower w.frame (at_place w.frame n) w.inside becomes refl (placed n goes)

      pub goes_at : (x : Setting) (is : IsSetting old h x) (n : ℕ) → Executes x at.scope at.instr from w (GoesOn n)
          → ((f : FrameState) → TopFrame frames r.segment f
          → SetsTop frames new r.segment (record f { head = record f.head { at = n; need = None } }))
          → Stepped x r.thread may (contents_of heaps new own) Goes.GoesOn
      goes_at x is n executes goes =
          stepped old world shared r at st may x is w (GoesOn n) executes (contents_of heaps new own)
          (with_frame st.top.lower (at_place w.frame n) w.inside) WentOn Goes.GoesOn (goes_on n) refl (becomes_at n goes)

      -- and there it stands, at the instruction that is at that place
      pub stands_then : (n : ℕ) → ((f : FrameState) → TopFrame frames r.segment f
          → SetsTop frames new r.segment (record f { head = record f.head { at = n; need = None } }))
          → (instr : Instr) → slice_get at.scope.code.instrs n ≡ Some instr
          → StandsThere new world.classes r.segment (record { head = record at.head { at = n }; scope = at.scope; instr = instr })
      stands_then n goes instr there = record {
        frame = at_place w.frame n;
        top = top_after frames new r.segment (at_place w.frame n) (placed n goes);
        head = ap (λ (k : FrameHead). let next : FrameHead = record k { at = n } in next) (st.head ∙ sym head);
        no_need = st.no_need;
        place = record { method = st.place.method; is_method = st.place.is_method; is_scope = st.place.is_scope; stands = there };
      }

  -- ---- Something is raised.

  module _ (mid : Contents) (x : Setting) (is : IsSetting old h x) (w : Working) (kept : IsKept (around may.domain) x from w)
      (becomes : Becomes old mid h may.run (left w kept.head)) (rooms : HasRooms world.classes may.domain.names.table mid.own)
      (fits : FitsHere world.classes w.inside.heap w.frame) where
    inside_sealed : IsSealedInside (around may.domain) may.domain.quota w.inside
    inside_sealed =
        subst (λ (q : ℕ). IsSealedInside (around may.domain) q w.inside) (sym (same_quota (may_do old world shared r at st may) x is))
        kept.inside.sealed

    pub run_sealed : IsSealedRun (around may.domain) may.domain.quota (MayMeetRaise world.classes w.inside.heap) (left w kept.head)
    run_sealed = record {
      inside = inside_sealed;
      frames =
          raising_sealed (around may.domain) may.run.inside.heap w.inside.heap kept.inside.grown st.top.lower st.frame w.frame kept.head kept.known
          (no_need w kept.head) fits
          (subst (AreSealedFrames (around may.domain) (FitsAsTop world.classes may.run.inside.heap) may.run.inside.heap) frames_were
          may.sealed.frames);
    }

    pub states_left : KeepsStates w.inside.own (st.top.lower ++ w.frame ∷ [])
    states_left =
        states_stay may.run.inside.own w.inside.own
        (state_stays world.classes may.domain.names.table may.run.inside.own w.inside.own may.sealed.inside.own inside_sealed.own) st.top.lower
        st.frame w.frame (ap (λ (k : FrameHead). k.initialises) kept.head) (subst (KeepsStates may.run.inside.own) frames_were may.states)

    abbrev pub may_raise : MayRaise mid h
    may_raise = record {
      domain = known_after old mid h w.inside becomes.inside may.domain rooms;
      run = left w kept.head;
      holds = holds_after old mid h may.run (left w kept.head) becomes;
      sealed = run_sealed;
      states = states_left;
    }

    pub raisable : (raise : Raise) → MayBeRaised world.classes w.inside.heap raise → MayBeRaised world.classes (mid.heaps.heap r.domain) raise
    raisable raise can = subst (λ (i : Inside). MayBeRaised world.classes i.heap raise) becomes.inside.is_inside can

    pub raised_at : (new : Contents) (raise : Raise) (went : Went) → Executes x at.scope at.instr from w (Raises raise)
        → RaisedHere mid new h raise went → Stepped x r.thread may new went
    raised_at new raise went executes raised =
        let free = free_after old mid h may.run.frames (st.top.lower ++ w.frame ∷ []) becomes.frames (chunks_left w kept.head) in
        let done = raised x may_raise (setting_after old mid h w.inside becomes.inside free x is) in
        stepped old world shared r at st may x is w (Raises raise) executes new done.0 (after_raising done.1) went (raises raise done.0 done.1 done.2)
        (raised_went done.1 went done.3) (becomes_then old mid new h may.run (left w kept.head) done.0 becomes done.4)
