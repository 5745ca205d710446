-- By the need, or by the instruction.
use Rattle.std.proofs.Common.{Option, None, option_map, sym, ap, subst, ◌∙◌}
use Rattle.jk_model.specs.declared.frames.FrameHead.{FrameHead}
use Rattle.step_contents.specs.StandingFrames.{IsPlaceOf, place_of}
use Rattle.step_contents.specs.declared.places.StandsAt.{StandsAt}
use Rattle.segment_steps.proofs.NeedsOfFrames.{by_instr, by_need, by_nothing}
use Rattle.segment_steps.proofs.meeting.class_needed.Goals as goal

pub returns-in-Some : goal.returns-in-Some
returns-in-Some c = λ classes f same there. by_need classes f c.in-Some.c (ap (λ (h : FrameHead). h.need) same ∙ c.in-Some.is)

pub returns-in-Some-at : goal.returns-in-Some-at
returns-in-Some-at c = λ classes f same there.
    let place = subst (λ (o : Option StandsAt). IsPlaceOf classes c.args.head.now (option_map place_of o)) c.in-Some-at.is there in
    by_instr classes f (ap (λ (h : FrameHead). h.need) same ∙ c.in_default.is) (place_of c.in-Some-at.at) (place.0 ∙ sym same) place.1
    c.needed_by.result c.needed_by.ensures

pub returns-in-None : goal.returns-in-None
returns-in-None c = λ classes f same there.
    by_nothing classes f (ap (λ (h : FrameHead). h.need) same ∙ c.in_default.is)
    (subst (λ (h : FrameHead). IsPlaceOf classes h None) (sym same)
    (subst (λ (o : Option StandsAt). IsPlaceOf classes c.args.head.now (option_map place_of o)) c.in-None.is there))
