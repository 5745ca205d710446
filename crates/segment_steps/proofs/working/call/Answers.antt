-- By what is answered.
use Rattle.std.proofs.Common.{refl}
use Rattle.step_contents.specs.Contents.{Contents, contents_of}
use Rattle.step_contents.specs.StandingFrames.{place_of}
use Rattle.step_contents.proofs.InstructionsBegin.{is_some_setting, some_setting}
use Rattle.segment_steps.proofs.CallsFollowed.{frame_called, none_called}
use Rattle.segment_steps.proofs.StandingHere.{may_do}
use Rattle.segment_steps.proofs.working.call.Goals as goal

pub step-requires-clause-may : goal.step-requires-clause-may
step-requires-clause-may g c =
    let old : Contents = contents_of (g.H.ObjectStore.content c.args.heap.now) (g.F.SegmentFrames.content c.args.frames.now) c.requires.may.0 in (
      c.requires.may.0,
      c.requires.may.1,
      may_do old c.args.w.now c.requires.may.1 c.args.r (place_of c.args.at.now) c.requires.may.3 c.requires.may.2,
    )

pub returns-in-Goto-clause-steps : goal.returns-in-Goto-clause-steps
returns-in-Goto-clause-steps g c = λ done own shared st x may is.
    let old : Contents = contents_of (g.H.ObjectStore.content c.args.heap.now) (g.F.SegmentFrames.content c.args.frames.now) own in
    frame_called (g.H.ObjectStore.content c.args.heap.now) (g.F.SegmentFrames.content c.args.frames.now) (g.F.SegmentFrames.content c.step.new.frames)
    own c.args.w.now shared c.args.r (place_of c.args.at.now) st may x is _
    (c.in-Goto.ensures.call own shared x (may_do old c.args.w.now shared c.args.r (place_of c.args.at.now) st may) is)

pub returns-in-Goto-clause-stands : goal.returns-in-Goto-clause-stands
returns-in-Goto-clause-stands g c = λ at_instruction. c.in-Goto.ensures.stands _ refl

pub returns-in_default-clause-undone : goal.returns-in_default-clause-undone
returns-in_default-clause-undone g c = λ undone.
    let old : Contents = contents_of (g.H.ObjectStore.content c.args.heap.now) (g.F.SegmentFrames.content c.args.frames.now) c.requires.may.0 in
    let doing = may_do old c.args.w.now c.requires.may.1 c.args.r (place_of c.args.at.now) c.requires.may.3 c.requires.may.2 in
    none_called (g.H.ObjectStore.content c.args.heap.now) (g.F.SegmentFrames.content c.args.frames.now)
    (g.F.SegmentFrames.content c.step.new.frames) c.requires.may.0 c.args.w.now c.requires.may.1 c.args.r (place_of c.args.at.now)
    c.requires.may.3 c.requires.may.2 (some_setting doing) (is_some_setting doing) c.step.result
    (c.step.ensures.call c.requires.may.0 c.requires.may.1 (some_setting doing) doing (is_some_setting doing)) c.in_default.not-Goto
