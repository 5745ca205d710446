-- The need falls of a top frame whose class is ready.
use Rattle.std.proofs.Common.{◌≡◌, List, Some, None, refl, sym, ap, subst, ◌∙◌}
use Rattle.jk_model.specs.declared.frames.FrameHead.{FrameHead}
use Rattle.jk_model.specs.declared.identifiers.ClassId.{ClassId}
use Rattle.jk_model_classes.specs.Worlds.{WorldRecord}
use Rattle.jk_model_frames.specs.Frames.{FrameState}
use Rattle.jk_model_heaps.specs.Workings.{Inside, Run, Setting}
use Rattle.jk_model_running.specs.Initialising.{IsReady}
use Rattle.jk_model_running.specs.LocalSteps.{HasReadyNeed, need_falls, with_top, without_need}
use Rattle.jk_model_running.specs.Ways.{GoesOn}
use Rattle.jk_model_sharing.specs.SharedStates.{SharedState}
use Rattle.frame_store.specs.FrameContents.{FrameContent, SetsTop, TopFrame}
use Rattle.step_contents.specs.Contents.{Becomes, Contents, Here, contents_of, here_at, with_frame}
use Rattle.step_contents.specs.Settings.{IsSetting}
use Rattle.segment_steps.specs.ActingSegments.{MayAct}
use Rattle.segment_steps.specs.StepsAlone.{Stepped}
use Rattle.segment_steps.specs.declared.meeting.Runs.{Runs}
use Rattle.segment_steps.specs.declared.went.Went.TheVariants as Goes
use Rattle.segment_steps.proofs.ChangesInTurn.{are_frames, top_of, top_set}
use Rattle.segment_steps.proofs.StandingHere.{becomes_same, same_frames}

module _ (old : Contents) (world : WorldRecord) (shared : SharedState) (r : Runs) (may : MayAct old (here_at world shared r.domain r.segment))
    (f : FrameState) (top : TopFrame old.frames r.segment f) (head : FrameHead) (is : head ≡ f.head) (c : ClassId) (need : head.need ≡ Some c)
    (ready : IsReady old.own.state r.thread c) where
  abbrev pub here : Here
  here = here_at world shared r.domain r.segment

  abbrev pub has_need : (x : Setting) → HasReadyNeed x r.thread may.run
  has_need x = record {
    top = top_of old here may.run may.holds f top;
    class = c;
    need = ap (λ (h : FrameHead). h.need) (sym is) ∙ need;
    ready = subst (λ (i : Inside). IsReady i.own r.thread c) (sym may.holds.inside) ready;
  }

  pub still : Becomes old (contents_of old.heaps old.frames old.own) here may.run (with_frame top.lower f may.run.inside)
  still =
      subst (λ (fs : List FrameState). Becomes old (contents_of old.heaps old.frames old.own) here may.run
      (let run : Run = record { inside = may.run.inside; frames = fs } in run)) (are_frames old here may.run may.holds f top)
      (becomes_same old here may.run may.domain may.holds old.frames (same_frames old.frames))

  -- the frame that the store has without its need
  pub forgets : (frames new : FrameContent) → SetsTop frames new r.segment (record f { head = record f.head { at = head.at; need = None } })
      → SetsTop frames new r.segment (without_need f)
  forgets frames new sets =
      subst (λ (h : FrameHead). SetsTop frames new r.segment
      (let g : FrameState = record f { head = record f.head { at = h.at; need = None } } in g)) is sets

  pub need_fell : head.initialises ≡ None → (new : FrameContent)
      → SetsTop old.frames new r.segment (record f { head = record f.head { at = head.at; need = None } }) → (x : Setting) → IsSetting old here x
      → Stepped x r.thread may (contents_of old.heaps new old.own) Goes.GoesOn
  need_fell plain new sets x set = record {
    run = with_top top.lower (without_need f) may.run.inside;
    way = GoesOn;
    steps = need_falls (has_need x) (ap (λ (h : FrameHead). h.initialises) (sym is) ∙ plain) refl;
    is_went = refl;
    becomes =
        top_set old old.heaps old.frames new old.own here may.run top.lower f (without_need f) may.run.inside still refl
        (forgets old.frames new sets);
  }
