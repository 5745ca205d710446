-- A store of frames that is as it was, by what it holds, is nothing to a step: what is done after it is done before it.
use Rattle.std.proofs.Common.{List, refl, ◌∙◌}
use Rattle.jk_model.specs.declared.identifiers.ThreadNo.{ThreadNo}
use Rattle.jk_model.specs.declared.output.Line.{Line}
use Rattle.jk_model_heaps.specs.Workings.{Run, Setting}
use Rattle.frame_store.specs.FrameContents.{FrameContent, IsSame}
use Rattle.jk_model_classes.specs.declared.records.ClassRecord.{ClassRecord}
use Rattle.jk_model_domains.specs.OwnStates.{OwnState}
use Rattle.step_contents.specs.Contents.{Becomes, Contents, Here, LeftBehind, contents_of}
use Rattle.step_contents.specs.PlacesInCode.{PlaceInCode}
use Rattle.step_contents.specs.Settings.{IsSetting}
use Rattle.segment_steps.specs.ActingSegments.{Acted, ActsSo, MayAct, crosses, ended, goes_on, is_denied, is_granted, leaves, says, terminates}
use Rattle.segment_steps.specs.StepsAlone.{StandsReady}
use Rattle.segment_steps.specs.declared.meeting.Runs.{Runs}
use Rattle.segment_steps.specs.declared.went.Went.{Went}
use Rattle.segment_steps.proofs.ChangesInTurn.{becomes_then, free_after, holds_after}
use Rattle.segment_steps.proofs.KnownAfterwards.{known_after, setting_after}
use Rattle.segment_steps.proofs.StandingHere.{becomes_same}

-- the frame stands there still
pub stands_still : (old new : FrameContent) (classes : List ClassRecord) (own : OwnState) (r : Runs) (at : PlaceInCode) → IsSame old new
    → StandsReady old classes own r at → StandsReady new classes own r at
stands_still old new classes own r at same st = record {
  frame = st.frame;
  top = record {
    segment = st.top.segment;
    is_there = same.segment r.segment ∙ st.top.is_there;
    lower = st.top.lower;
    frames = st.top.frames;
  };
  head = st.head;
  no_need = st.no_need;
  place = st.place;
  ready = st.ready;
}

module _ (old : Contents) (here : Here) (frames : FrameContent) (same : IsSame old.frames frames) where
  abbrev mid : Contents
  mid = contents_of old.heaps frames old.own

  module _ (may : MayAct old here) where
    pub first : Becomes old mid here may.run may.run
    first = becomes_same old here may.run may.domain may.holds frames same

    abbrev pub moved : MayAct mid here
    moved = record {
      domain = known_after old mid here may.run.inside first.inside may.domain may.domain.rooms;
      run = may.run;
      holds = holds_after old mid here may.run may.run first;
      sealed = may.sealed;
      answers = may.answers;
      states = may.states;
    }

    setting_moved : (x : Setting) → IsSetting old here x → IsSetting mid here x
    setting_moved x is =
        setting_after old mid here may.run.inside first.inside (free_after old mid here may.run.frames may.run.frames first.frames refl) x is

    module _ (x : Setting) (t : ThreadNo) (left : LeftBehind) where
      before : (run : Run) → Becomes mid left.contents here may.run run → Becomes old left.contents here may.run run
      before run becomes = becomes_then old mid left.contents here may.run may.run run first becomes

      acted_before : (went : Went) (lines : List Line) → Acted x t moved left went lines → Acted x t may left went lines
      acted_before went lines (goes_on run step becomes shares) = goes_on run step (before run becomes) shares
      acted_before went lines (says run text step becomes shares) = says run text step (before run becomes) shares
      acted_before went lines (ended run v step becomes shares) = ended run v step (before run becomes) shares
      acted_before went lines (leaves run a step becomes shares) = leaves run a step (before run becomes) shares
      acted_before went lines (crosses run k m step becomes shares) = crosses run k m step (before run becomes) shares
      acted_before went lines (terminates run step becomes shares) = terminates run step (before run becomes) shares
      acted_before went lines (is_granted run top request v step answers becomes) =
          is_granted run top request v step answers (before _ becomes)
      acted_before went lines (is_denied run new request r unwound step answers raises becomes) =
          is_denied run new request r unwound step answers raises (before new becomes)

  pub acts_before : (t : ThreadNo) (left : LeftBehind) (went : Went) (GoOut : List Line → Type 0) → ActsSo mid here t left went GoOut
      → ActsSo old here t left went GoOut
  acts_before t left went GoOut acts = λ x may is.
      let did = acts x (moved may) (setting_moved may x is) in (did.0, acted_before may x t left went did.0 did.1, did.2)
