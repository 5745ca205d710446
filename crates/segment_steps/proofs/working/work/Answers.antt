-- By the kind of the instruction.
use Rattle.step_contents.specs.Contents.{Contents, contents_of}
use Rattle.step_contents.specs.StandingFrames.{place_of}
use Rattle.segment_steps.proofs.NumbersBegin.{has_row}
use Rattle.segment_steps.proofs.ReadyClasses.{stands_ready}
use Rattle.segment_steps.proofs.StandingHere.{may_do}
use Rattle.segment_steps.proofs.working.work.Goals as goal

pub kind_of-requires : goal.kind_of-requires
kind_of-requires g c =
    let frames = g.F.SegmentFrames.content c.args.frames.now in
    let at = place_of c.args.at.now in
    let st = stands_ready frames c.args.w.now.classes c.args.own.now.state c.args.r at c.requires.stands (c.is_ready.ensures c.if-not-is_ready.false) in
    let old : Contents = contents_of (g.H.ObjectStore.content c.args.heap.now) frames c.args.own.now in
    has_row (may_do old c.args.w.now c.args.shared.now c.args.r at st c.requires.may)
