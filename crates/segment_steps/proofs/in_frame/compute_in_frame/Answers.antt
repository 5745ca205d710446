-- An instruction on numbers that is no return goes on at a place, or changed nothing.
use Rattle.std.proofs.Common.{subst}
use Rattle.number_ops.specs.NumberSteps.{DoesNumbers}
use Rattle.step_contents.specs.StandingFrames.{place_of}
use Rattle.segment_steps.proofs.NumbersInFrame.{stays}
use Rattle.segment_steps.proofs.in_frame.compute_in_frame.Goals as goal

pub step-requires : goal.step-requires
step-requires g c = c.requires.ready c.requires.stays.0

pub returns-in-Goto-clause-some : goal.returns-in-Goto-clause-some
returns-in-Goto-clause-some g c =
    let old = g.F.SegmentFrames.content c.args.frames.now in
    let new = g.F.SegmentFrames.content c.step.new.frames in
    let at = place_of c.args.here.now in
    record {
      numbers = c.requires.stays.0;
      does = subst (DoesNumbers old new c.args.w.now.classes c.args.s at.head at.instr) c.in-Goto.is c.step.ensures;
    }

pub returns-in_default : goal.returns-in_default
returns-in_default g c =
    let old = g.F.SegmentFrames.content c.args.frames.now in
    let new = g.F.SegmentFrames.content c.step.new.frames in
    record {
      none = stays old new c.args.w.now.classes c.args.s (place_of c.args.here.now) c.step.result c.requires.stays c.step.ensures c.in_default.not-Goto;
      some = tt;
    }
