-- By its head, which is looked up twice.
use Rattle.std.proofs.Common.{List, Some, subst}
use Rattle.jk_model.specs.declared.frames.FrameHead.{FrameHead}
use Rattle.jk_model_classes.specs.declared.records.ClassRecord.{ClassRecord}
use Rattle.step_contents.specs.StandingFrames.{IsPlaceOf, place_of}
use Rattle.segment_steps.proofs.StandsAfterwards.{stands_again}
use Rattle.segment_steps.proofs.working.stand_anew.Goals as goal

pub returns-in-Some-clause-stands : goal.returns-in-Some-clause-stands
returns-in-Some-clause-stands g c = λ at_instruction.
    let frames = g.F.SegmentFrames.content c.args.frames.now in
    stands_again frames c.args.w.now.classes c.args.s c.requires.0 c.requires.1 c.requires.2 (place_of c.in-Some.there)
    (subst (λ (cs : List ClassRecord). IsPlaceOf cs c.requires.0.head (Some (place_of c.in-Some.there))) c.classes.ensures
    (subst (λ (h : FrameHead). IsPlaceOf c.classes.result.now h (Some (place_of c.in-Some.there))) (c.head.ensures c.requires.0 c.requires.1)
    c.in-Some.ensures))
    c.head-at.result (c.head-at.ensures c.requires.0 c.requires.1)
