-- A segment that may act may act again after an instruction by which its top frame goes on.
use Rattle.std.proofs.Common.{inl, inr, ◌≡◌, ℕ, List, [], ◌∷◌, ◌++◌, None, sym, ap, subst, ◌∙◌}
use Rattle.jk_model.specs.declared.frames.FrameHead.{FrameHead}
use Rattle.jk_model.specs.declared.identifiers.ClassId.{ClassId}
use Rattle.jk_model_classes.specs.declared.records.ClassRecord.{ClassRecord}
use Rattle.jk_model_classes.specs.Worlds.{WorldRecord}
use Rattle.jk_model_frames.specs.Frames.{FrameState}
use Rattle.jk_model_heaps.specs.CalledFrames.{at_place}
use Rattle.jk_model_heaps.specs.RunningCode.{InstrNeeds}
use Rattle.jk_model_heaps.specs.Workings.{GoesOn, Run, Setting, Working}
use Rattle.jk_model_running.specs.Executions.{Executes}
use Rattle.jk_model_running.specs.Initialising.{FrameNeeds}
use Rattle.jk_model_running.specs.LocalSteps.{LocalStep, does, goes_on}
use Rattle.jk_model_running.specs.Ways.{GoesOn as WentOn}
use Rattle.jk_model_sealing.specs.AnsweringFrames.{FramesAnswer}
use Rattle.jk_model_sealing.specs.FittingFrames.{FitsAsTop, FitsHere, InitialisesWell}
use Rattle.jk_model_sealing.specs.SealedInsides.{IsSealedInside}
use Rattle.jk_model_sealing.specs.SealedRuns.{AreSealedFrames, IsAtHome}
use Rattle.jk_model_sharing.specs.SharedStates.{SharedState}
use Rattle.list_lemmas.proofs.LastItems.{one_last}
use Rattle.std.proofs.lemmas.Option.{none-some}
use Rattle.heap_laws.proofs.StillFits.{fits_as_top, frames_sealed}
use Rattle.heap_laws.specs.KeptInsides.{IsKept}
use Rattle.heap_laws.specs.RaisableObjects.{KeepsStates}
use Rattle.class_init.specs.KeptStates.{HasRooms}
use Rattle.row_laws.proofs.FramesInARow.{KnownFrame, Stand, top_known, top_replaced}
use Rattle.step_contents.specs.Conditions.{around, working}
use Rattle.step_contents.specs.Contents.{Becomes, Contents, Here, with_frame}
use Rattle.step_contents.specs.PlacesInCode.{PlaceInCode}
use Rattle.step_contents.specs.Settings.{IsSetting}
use Rattle.step_contents.proofs.InstructionsBegin.{same_quota}
use Rattle.segment_steps.specs.ActingSegments.{MayAct}
use Rattle.segment_steps.specs.StepsAlone.{StandsReady}
use Rattle.segment_steps.specs.StepsInTurn.{WaitsForNoClass}
use Rattle.segment_steps.specs.declared.meeting.Runs.{Runs}
use Rattle.segment_steps.proofs.ChangesInTurn.{are_frames, holds_after}
use Rattle.segment_steps.proofs.KnownAfterwards.{known_after}
use Rattle.segment_steps.proofs.NeedsOfFrames.{needs_there}
use Rattle.segment_steps.proofs.StandingHere.{does_it, here, may_do}
use Rattle.segment_steps.proofs.StatesStay.{state_stays, states_stay}

module _ (old : Contents) (world : WorldRecord) (shared : SharedState) (r : Runs) (at : PlaceInCode)
    (st : StandsReady old.frames world.classes old.own.state r at) (may : MayAct old (here old world shared r at st)) (x : Setting)
    (is : IsSetting old (here old world shared r at st) x) where
  abbrev h : Here
  h = here old world shared r at st

  abbrev from : Working
  from = working (may_do old world shared r at st may)

  frames_were : may.run.frames ≡ st.top.lower ++ st.frame ∷ []
  frames_were = are_frames old h may.run may.holds st.frame st.top

  -- ---- Where its instruction needs no class, it waits for none.

  pub waits_for_none : ((c : ClassId) → InstrNeeds at.scope at.instr c → ⊥) → WaitsForNoClass x.classes r.thread may.run
  waits_for_none never top c needs elsewhere =
      let same : top.frame ≡ st.frame = (one_last top.callers st.top.lower top.frame st.frame (sym top.are_frames ∙ frames_were)).1 in
      let here_needs : FrameNeeds world.classes st.frame c =
      subst (λ (cs : List ClassRecord). FrameNeeds cs st.frame c) is.classes (subst (λ (f : FrameState). FrameNeeds x.classes f c) same needs) in
      by here_needs
    where
      by : FrameNeeds world.classes st.frame c → ⊥
      by (inl some) = none-some c (sym st.no_need ∙ ap (λ (k : FrameHead). k.need) st.head ∙ some)
      by (inr (no_need, (code, needs))) = never c (needs_there world.classes st.frame at st.head st.place code c needs)

  -- ---- It is a step.

  module _ (w : Working) (n : ℕ) where
    abbrev pub gone : Run
    gone = with_frame st.top.lower (at_place w.frame n) w.inside

    pub step : Executes x at.scope at.instr from w (GoesOn n) → LocalStep x r.thread may.run gone WentOn
    step executes = does (does_it old world shared r at st may x is w (GoesOn n) executes) WentOn (goes_on n)

    -- ---- It may act again.

    module _ (mid : Contents) (kept : IsKept (around may.domain) x from w) (fits : FitsHere world.classes w.inside.heap (at_place w.frame n))
        (becomes : Becomes old mid h may.run gone) (rooms : HasRooms world.classes may.domain.names.table mid.own) where
      abbrev g : FrameState
      g = at_place w.frame n

      none_needed : g.head.need ≡ None
      none_needed = ap (λ (k : FrameHead). k.need) (kept.head ∙ sym st.head) ∙ st.no_need

      before : Stand (around may.domain) (FitsAsTop world.classes w.inside.heap) w.inside.heap (st.top.lower ++ st.frame ∷ [])
      before = (
        frames_sealed may.run.inside.heap w.inside.heap kept.inside.grown (FitsAsTop world.classes may.run.inside.heap)
            (FitsAsTop world.classes w.inside.heap) (fits_as_top may.run.inside.heap w.inside.heap kept.inside.grown world.classes) (around may.domain)
            (st.top.lower ++ st.frame ∷ [])
            (subst (AreSealedFrames (around may.domain) (FitsAsTop world.classes may.run.inside.heap) may.run.inside.heap) frames_were
            may.sealed.frames),
        subst (FramesAnswer world.classes) frames_were may.answers,
      )

      known_before : KnownFrame (around may.domain) w.inside.heap st.frame
      known_before = top_known (around may.domain) w.inside.heap (FitsAsTop world.classes w.inside.heap) st.top.lower st.frame before

      known_now : KnownFrame (around may.domain) w.inside.heap g
      known_now = record {
        initialises = subst (λ (k : FrameHead). InitialisesWell world.classes (let f : FrameState = record w.frame { head = k } in f)) (sym kept.head)
            known_before.initialises;
        at_home = subst (λ (k : FrameHead). IsAtHome may.domain.names.table (let f : FrameState = record w.frame { head = k } in f)) (sym kept.head)
            known_before.at_home;
        known = kept.known;
      }

      pub now : Stand (around may.domain) (FitsAsTop world.classes w.inside.heap) w.inside.heap (st.top.lower ++ g ∷ [])
      now =
          top_replaced (around may.domain) w.inside.heap (FitsAsTop world.classes w.inside.heap) st.top.lower st.frame before
          (FitsAsTop world.classes w.inside.heap) g
          (ap (λ (k : FrameHead). k.initialises) kept.head, ap (λ (k : FrameHead). k.method) kept.head)
          (inr (inl none_needed, fits)) known_now

      pub inside_sealed : IsSealedInside (around may.domain) may.domain.quota w.inside
      inside_sealed =
          subst (λ (q : ℕ). IsSealedInside (around may.domain) q w.inside) (sym (same_quota (may_do old world shared r at st may) x is))
          kept.inside.sealed

      pub states_now : KeepsStates w.inside.own (st.top.lower ++ g ∷ [])
      states_now =
          states_stay may.run.inside.own w.inside.own
          (state_stays world.classes may.domain.names.table may.run.inside.own w.inside.own may.sealed.inside.own inside_sealed.own) st.top.lower
          st.frame g (ap (λ (k : FrameHead). k.initialises) kept.head) (subst (KeepsStates may.run.inside.own) frames_were may.states)

      abbrev pub acts_again : MayAct mid h
      acts_again = record {
        domain = known_after old mid h w.inside becomes.inside may.domain rooms;
        run = gone;
        holds = holds_after old mid h may.run gone becomes;
        sealed = record { inside = inside_sealed; frames = now.0 };
        answers = now.1;
        states = states_now;
      }
