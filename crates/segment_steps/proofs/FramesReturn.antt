-- A frame that runs and returned may be taken off, and what follows is what a step leaves.
use Rattle.std.proofs.Common.{◌≡◌, ◌≢◌, List, [], ◌∷◌, ◌++◌, Option, Some, None, sym, ap, subst, ◌∙◌}
use Rattle.std.proofs.lemmas.List.Elements.{Contains-append_right}
use Rattle.list_lemmas.proofs.ItemsOfLists.{Contains-here}
use Rattle.jk_model.specs.declared.frames.FrameHead.{FrameHead}
use Rattle.jk_model.specs.declared.identifiers.ClassId.{ClassId}
use Rattle.jk_model.specs.declared.values.Value.{Value}
use Rattle.jk_model_classes.specs.Worlds.{WorldRecord}
use Rattle.jk_model_domains.specs.OwnStates.{HasState}
use Rattle.jk_model_frames.specs.Frames.{FrameState}
use Rattle.jk_model_heaps.specs.Workings.{Returns, Setting, Working}
use Rattle.jk_model_running.specs.Executions.{Executes}
use Rattle.jk_model_sealing.specs.AnsweringFrames.{FramesAnswer}
use Rattle.jk_model_sealing.specs.FittingFrames.{FitsAsTop, FramesFit}
use Rattle.jk_model_sharing.specs.SharedStates.{SharedState}
use Rattle.heap_laws.specs.FittingOutcomes.{IsResult}
use Rattle.heap_laws.specs.RaisableObjects.{KeepsStates}
use Rattle.step_contents.specs.Conditions.{around, working}
use Rattle.step_contents.specs.Contents.{Becomes, Contents, Here, with_frame}
use Rattle.step_contents.specs.PlacesInCode.{PlaceInCode}
use Rattle.step_contents.specs.Settings.{IsSetting}
use Rattle.step_contents.proofs.InstructionsBegin.{runs_code}
use Rattle.segment_steps.specs.ActingSegments.{MayAct}
use Rattle.segment_steps.specs.Returning.{HasReturned, MayResume, MayReturn}
use Rattle.segment_steps.specs.StepsAlone.{StandsReady, Stepped}
use Rattle.segment_steps.specs.declared.meeting.Runs.{Runs}
use Rattle.segment_steps.specs.declared.went.Went.{Went}
use Rattle.segment_steps.proofs.CallersBelow.{lowest_plain, may_resume}
use Rattle.segment_steps.proofs.ChangesInTurn.{are_frames, becomes_then, holds_after}
use Rattle.segment_steps.proofs.StandingHere.{here, may_do, stepped}

-- an instruction on numbers, which leaves the domain's inside as it was, answered a value, or none
module _ (old mid : Contents) (world : WorldRecord) (shared : SharedState) (r : Runs) (at : PlaceInCode)
    (st : StandsReady old.frames world.classes old.own.state r at) (may : MayAct old (here old world shared r at st)) (g : FrameState)
    (head : g.head ≡ st.frame.head) where
  abbrev h : Here
  h = here old world shared r at st

  abbrev w : Working
  w = record { inside = may.run.inside; frame = g }

  frames_were : may.run.frames ≡ st.top.lower ++ st.frame ∷ []
  frames_were = are_frames old h may.run may.holds st.frame st.top

  states : KeepsStates may.run.inside.own (st.top.lower ++ st.frame ∷ [])
  states = subst (KeepsStates may.run.inside.own) frames_were may.states

  answers : FramesAnswer world.classes (st.top.lower ++ st.frame ∷ [])
  answers = subst (FramesAnswer world.classes) frames_were may.answers

  fit : FramesFit (FitsAsTop world.classes may.run.inside.heap) world.classes may.run.inside.heap (st.top.lower ++ st.frame ∷ [])
  fit =
      subst (FramesFit (FitsAsTop world.classes may.run.inside.heap) world.classes may.run.inside.heap) frames_were may.sealed.frames.fit

  was : (o : Option ClassId) → g.head.initialises ≡ o → st.frame.head.initialises ≡ o
  was o e = ap (λ (k : FrameHead). k.initialises) (sym head) ∙ e

  class_there : (k : ClassId) → g.head.initialises ≡ Some k → HasState may.run.inside.own k × (st.top.lower ≢ [])
  class_there k is = (
    states st.frame k (Contains-append_right st.top.lower (st.frame ∷ []) st.frame (Contains-here st.frame [])) (was (Some k) is),
    lowest_plain world.classes st.top.lower st.frame k answers (was (Some k) is),
  )

  module _ (becomes : Becomes old mid h may.run (with_frame st.top.lower g may.run.inside)) (v : Option Value)
      (answer : IsResult (around may.domain) may.run.inside.heap at.scope.method.result v) where
    resumes_there : (lower : List FrameState) (below : FrameState) → g.head.initialises ≡ None → st.top.lower ≡ lower ++ below ∷ []
        → MayResume below v
    resumes_there lower below none are =
        may_resume (around may.domain) may.domain.codes may.run.inside.heap (FitsAsTop world.classes may.run.inside.heap) lower below st.frame
        (was None none) (runs_code (may_do old world shared r at st may)) v answer
        (subst (λ (fs : List FrameState). FramesFit (FitsAsTop world.classes may.run.inside.heap) world.classes may.run.inside.heap
        (fs ++ st.frame ∷ [])) are fit)
        (subst (λ (fs : List FrameState). FramesAnswer world.classes (fs ++ st.frame ∷ [])) are answers)

    pub may_return : MayReturn mid h st.top.lower w v
    may_return = record {
      holds = holds_after old mid h may.run (with_frame st.top.lower g may.run.inside) becomes;
      used = becomes.inside.heaps.uses;
      class = class_there;
      resumes = resumes_there;
    }

    pub returned : (x : Setting) (is : IsSetting old h x) (new : Contents) (went : Went)
        → Executes x at.scope at.instr (working (may_do old world shared r at st may)) w (Returns v)
        → HasReturned x mid new h st.top.lower w v went → Stepped x r.thread may new went
    returned x is new went executes back =
        stepped old world shared r at st may x is w (Returns v) executes new back.run back.way went back.continues back.is_went
        (becomes_then old mid new h may.run (with_frame st.top.lower g may.run.inside) back.run becomes back.becomes)
