-- By the frame's head.
use Rattle.std.proofs.Common.{List, option_map, sym, subst}
use Rattle.jk_model_classes.specs.declared.records.ClassRecord.{ClassRecord}
use Rattle.step_contents.specs.StandingFrames.{IsPlaceOf, place_of}
use Rattle.segment_steps.proofs.StandsAfterwards.{none_there, stood}
use Rattle.segment_steps.proofs.in_frame.stand.Goals as goal

pub returns : goal.returns
returns g c =
    let frames = g.F.SegmentFrames.content c.args.frames.now in
    stood frames c.args.w.now.classes c.args.s c.requires.0 c.requires.1 c.head-head.result (c.head-head.ensures c.requires.0 c.requires.1)
    (none_there c.head-head.result.need (sym c.if-is_some.ensures))
    c.stands_at.result
    (subst (λ (cs : List ClassRecord). IsPlaceOf cs c.head-head.result (option_map place_of c.stands_at.result)) c.classes.ensures
    c.stands_at.ensures)
