-- Of the frame on top.
use Rattle.std.proofs.Common.{List, sym, subst}
use Rattle.jk_model.specs.declared.frames.FrameHead.{FrameHead}
use Rattle.jk_model_classes.specs.declared.records.ClassRecord.{ClassRecord}
use Rattle.step_contents.specs.StandingFrames.{IsPlaceOf, place_of}
use Rattle.std.specs.Prelude.{option_map}
use Rattle.segment_steps.proofs.meeting.meet.Goals as goal

pub returns : goal.returns
returns g c = λ f on.
    let head = c.head-head.ensures f on in
    let place = subst (λ (cs : List ClassRecord). IsPlaceOf cs c.head-head.result (option_map place_of c.stands_at-at.result)) c.classes.ensures
    c.stands_at-at.ensures in
    record {
      head = head;
      at = subst (λ (h : FrameHead). IsPlaceOf c.args.w.now.classes h (option_map place_of c.stands_at-at.result)) head place;
      needed = c.class_needed-needed.ensures c.args.w.now.classes f (sym head) place;
      look = c.look_at-look.ensures;
    }
