-- By the value that is returned.
use Rattle.std.proofs.Common.{◌≤◌, Option, is_some, sym, ap, arith}
use Rattle.frame_store.specs.FrameContents.{StoredSegment}
use Rattle.number_laws.specs.FrameLaws.{with_head}
use Rattle.step_contents.specs.Contents.{contents_of}
use Rattle.step_contents.specs.StandingFrames.{place_of}
use Rattle.step_contents.proofs.InstructionsBegin.{is_some_setting, some_setting}
use Rattle.segment_steps.proofs.NumbersFollowed.{last_there, none_left, w}
use Rattle.segment_steps.proofs.OnlyReturns.{no_callers_below, only_returns}
use Rattle.segment_steps.proofs.ReturnsBegin.{return_begins, return_ready, return_waits_for_none}
use Rattle.segment_steps.proofs.StandingHere.{may_do}
use Rattle.segment_steps.proofs.StandsAfterwards.{none_there}
use Rattle.segment_steps.proofs.leaving.return_last.Goals as goal

pub depth-requires : goal.depth-requires
depth-requires g c = ap (λ (o : Option StoredSegment). is_some o) c.requires.stands.top.is_there

pub step-requires : goal.step-requires
step-requires g c =
    let m = c.requires.may in
    let from : 0xac ≤ c.args.at.now.instr.now.op = omega arith in
    let to : c.args.at.now.instr.now.op ≤ 0xb1 = omega arith in
    return_begins (g.F.SegmentFrames.content c.args.frames.now) c.args.w.now c.args.r (place_of c.args.at.now) c.requires.stands from to
    m.0 m.1 m.2 m.3

pub unreachable-requires : goal.unreachable-requires
unreachable-requires g c =
    let from : 0xac ≤ c.args.at.now.instr.now.op = omega arith in
    let to : c.args.at.now.instr.now.op ≤ 0xb1 = omega arith in
    only_returns c.step.ensures.3 c.args.at.now.instr.now c.args.at.now.head.at (with_head c.step.ensures.0 c.args.at.now.head) c.step.ensures.1
    c.step.result c.step.ensures.8 from to c.in_default.not-Return

pub pop-requires : goal.pop-requires
pop-requires g c =
    let m = c.requires.may in
    let from : 0xac ≤ c.args.at.now.instr.now.op = omega arith in
    let to : c.args.at.now.instr.now.op ≤ 0xb1 = omega arith in
    let frames = g.F.SegmentFrames.content c.args.frames.now in
    let at = place_of c.args.at.now in
    let st = return_ready frames c.args.w.now c.args.r at c.requires.stands from to m.1.state in
    let doing = may_do (contents_of m.0 frames m.1) c.args.w.now m.2 c.args.r at st m.3 in (
      (w m.0 frames (g.F.SegmentFrames.content c.step.new.frames) m.1 c.args.w.now m.2 c.args.r at st m.3 (some_setting doing)
          (is_some_setting doing) c.in-Return.v c.in-Return.ensures).frame,
      last_there m.0 frames (g.F.SegmentFrames.content c.step.new.frames) m.1 c.args.w.now m.2 c.args.r at st m.3 (some_setting doing)
          (is_some_setting doing) c.in-Return.v c.in-Return.ensures,
    )

pub returns-clause-free : goal.returns-clause-free
returns-clause-free g c = λ done own.
    let from : 0xac ≤ c.args.at.now.instr.now.op = omega arith in
    let to : c.args.at.now.instr.now.op ≤ 0xb1 = omega arith in
    return_waits_for_none (g.F.SegmentFrames.content c.args.frames.now) c.args.w.now c.args.r (place_of c.args.at.now) c.requires.stands from to own

pub returns-clause-steps : goal.returns-clause-steps
returns-clause-steps g c = λ done heaps own shared x may is.
    let from : 0xac ≤ c.args.at.now.instr.now.op = omega arith in
    let to : c.args.at.now.instr.now.op ≤ 0xb1 = omega arith in
    let frames = g.F.SegmentFrames.content c.args.frames.now in
    let at = place_of c.args.at.now in
    let st = return_ready frames c.args.w.now c.args.r at c.requires.stands from to own.state in
    none_left heaps frames (g.F.SegmentFrames.content c.step.new.frames) own c.args.w.now shared c.args.r at st may x is c.in-Return.v
    c.in-Return.ensures (none_there c.args.at.now.head.initialises (sym c.if-is_some.ensures))
    (no_callers_below frames c.args.r.segment st.frame st.top c.depth.result c.depth.ensures (omega arith)) c.requires.paid
    (g.F.SegmentFrames.content c.pop.new.self) c.pop.ensures
