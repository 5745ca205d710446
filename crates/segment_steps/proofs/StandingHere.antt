-- A segment that acts stands at an instruction: it may be done, and what it leaves is what a step leaves.
use Rattle.std.proofs.Common.{◌≡◌, List, None, slice_get, refl, sym, ap, subst, ◌∙◌}
use Rattle.jk_model.specs.declared.frames.FrameHead.{FrameHead}
use Rattle.jk_model.specs.declared.identifiers.ClassId.{ClassId}
use Rattle.jk_model_classes.specs.declared.records.ClassRecord.{ClassRecord}
use Rattle.jk_model_classes.specs.Worlds.{WorldRecord}
use Rattle.jk_model_frames.specs.Frames.{FrameState}
use Rattle.jk_model_heaps.specs.RunningCode.{InstrNeeds, RunsCode}
use Rattle.jk_model_heaps.specs.Workings.{Inside, Outcome, Run, Setting, Working}
use Rattle.jk_model_running.specs.Executions.{Executes}
use Rattle.jk_model_running.specs.Initialising.{IsReady}
use Rattle.jk_model_running.specs.LocalSteps.{Continues, DoesInstr, TopFrame, does}
use Rattle.jk_model_running.specs.Ways.{Went as Way}
use Rattle.jk_model_sharing.specs.SharedStates.{SharedState}
use Rattle.jk_model_typing.specs.Scopes.{IsScopeOf}
use Rattle.frame_store.specs.FrameContents.{FrameContent, IsSame}
use Rattle.step_contents.specs.Conditions.{KnowsDomain, MayDo, working}
use Rattle.step_contents.specs.Contents.{Becomes, Contents, Here, Holds, InsideBecomes, contents_of, here_at, with_frame}
use Rattle.step_contents.specs.PlacesInCode.{PlaceInCode}
use Rattle.step_contents.specs.Settings.{IsSetting}
use Rattle.step_contents.specs.StandingTops.{StandsThere}
use Rattle.exception_unwind.proofs.InsidesChanged.{nothing_changed}
use Rattle.segment_steps.specs.ActingSegments.{MayAct}
use Rattle.segment_steps.specs.StepsAlone.{IsWent, StandsReady, Stepped}
use Rattle.segment_steps.specs.declared.meeting.Runs.{Runs}
use Rattle.segment_steps.specs.declared.went.Went.{Went}
use Rattle.segment_steps.proofs.ChangesInTurn.{are_frames, frames_same, inside_kept, top_of}

-- ---- Nothing changed, whatever a store of frames calls it.

pub inside_same : (old : Contents) (here : Here) (run : Run) → KnowsDomain old here → Holds old here run → (frames : FrameContent)
    → IsSame old.frames frames → InsideBecomes old (contents_of old.heaps frames old.own) here run.inside
inside_same old here run known holds frames same =
    inside_kept old old.heaps old.frames frames old.own here run.inside (same.domains.first_page here.domain)
    (subst (InsideBecomes old old here) (sym holds.inside) (nothing_changed old here known))

pub becomes_same : (old : Contents) (here : Here) (run : Run) → KnowsDomain old here → Holds old here run → (frames : FrameContent)
    → IsSame old.frames frames → Becomes old (contents_of old.heaps frames old.own) here run run
becomes_same old here run known holds frames same = record {
  inside = inside_same old here run known holds frames same;
  frames = frames_same old (contents_of old.heaps frames old.own) here run.frames same holds.frames;
}

pub same_frames : (frames : FrameContent) → IsSame frames frames
same_frames frames = record {
  domains = record { pages = refl; took_all = refl; quota = λ d. refl; first_page = λ d. refl };
  used = λ d. refl;
  segment = λ s. refl;
}

-- ---- The instruction.

-- it may be done wherever the top frame stands, whatever class it needs
pub may_do_there : (old : Contents) (world : WorldRecord) (shared : SharedState) (r : Runs) (at : PlaceInCode)
    → StandsThere old.frames world.classes r.segment at → MayAct old (here_at world shared r.domain r.segment)
    → MayDo old (here_at world shared r.domain r.segment) at
may_do_there old world shared r at st may = record {
  domain = may.domain;
  run = may.run;
  holds = may.holds;
  sealed = may.sealed;
  callers = st.top.lower;
  frame = st.frame;
  are_frames = are_frames old (here_at world shared r.domain r.segment) may.run may.holds st.frame st.top;
  head = st.head;
  no_need = st.no_need;
  place = st.place;
}

module _ (old : Contents) (world : WorldRecord) (shared : SharedState) (r : Runs) (at : PlaceInCode)
    (st : StandsReady old.frames world.classes old.own.state r at) where
  abbrev pub here : Here
  here = here_at world shared r.domain r.segment

  module _ (may : MayAct old here) where
    abbrev pub top : TopFrame may.run
    top = top_of old here may.run may.holds st.frame st.top

    abbrev pub may_do : MayDo old here at
    may_do = record {
      domain = may.domain;
      run = may.run;
      holds = may.holds;
      sealed = may.sealed;
      callers = st.top.lower;
      frame = st.frame;
      are_frames = are_frames old here may.run may.holds st.frame st.top;
      head = st.head;
      no_need = st.no_need;
      place = st.place;
    }

    pub no_need_there : st.frame.head.need ≡ None
    no_need_there = ap (λ (h : FrameHead). h.need) (sym st.head) ∙ st.no_need

    pub ready_there : (c : ClassId) → InstrNeeds at.scope at.instr c → IsReady may.run.inside.own r.thread c
    ready_there c needs = subst (λ (i : Inside). IsReady i.own r.thread c) (sym may.holds.inside) (st.ready c needs)

    -- it left everything as it was
    pub becomes_still : (frames : FrameContent) → IsSame old.frames frames
        → Becomes old (contents_of old.heaps frames old.own) here may.run (with_frame st.top.lower st.frame may.run.inside)
    becomes_still frames same =
        subst (λ (fs : List FrameState). Becomes old (contents_of old.heaps frames old.own) here may.run
        (let run : Run = record { inside = may.run.inside; frames = fs } in run)) (are_frames old here may.run may.holds st.frame st.top)
        (becomes_same old here may.run may.domain may.holds frames same)

    module _ (x : Setting) (is : IsSetting old here x) where
      abbrev pub code : RunsCode x.classes st.frame
      code = record {
        method = st.place.method;
        is_method = ap (λ (h : FrameHead). h.method) (sym st.head) ∙ st.place.is_method;
        scope = at.scope;
        is_scope =
            subst (λ (classes : List ClassRecord). IsScopeOf classes st.place.method at.scope) (sym is.classes) st.place.is_scope;
        instr = at.instr;
        stands = ap (λ (h : FrameHead). slice_get at.scope.code.instrs h.at) (sym st.head) ∙ st.place.stands;
      }

      abbrev pub does_it : (w : Working) (outcome : Outcome) → Executes x at.scope at.instr (working may_do) w outcome
          → DoesInstr x r.thread may.run
      does_it w outcome executes = record {
        top = top;
        no_need = no_need_there;
        code = code;
        ready = ready_there;
        working = w;
        outcome = outcome;
        executes = executes;
      }

      pub stepped : (w : Working) (outcome : Outcome) → Executes x at.scope at.instr (working may_do) w outcome → (new : Contents) (run : Run)
          (way : Way) (went : Went) → Continues x st.top.lower w outcome run way → IsWent way went → Becomes old new here may.run run
          → Stepped x r.thread may new went
      stepped w outcome executes new run way went continues is_went becomes = record {
        run = run;
        way = way;
        steps = does (does_it w outcome executes) way continues;
        is_went = is_went;
        becomes = becomes;
      }
