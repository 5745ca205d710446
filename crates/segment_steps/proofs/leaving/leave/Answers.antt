-- By what is answered: a call through a capability changes nothing in the segment.
use Rattle.step_contents.specs.Contents.{contents_of}
use Rattle.step_contents.specs.StandingFrames.{place_of}
use Rattle.segment_steps.proofs.CallsFollowed.{crossing}
use Rattle.segment_steps.proofs.ReadyClasses.{interface_ready, waits_for_none}
use Rattle.segment_steps.proofs.StandingHere.{may_do, may_do_there}
use Rattle.segment_steps.proofs.leaving.leave.Goals as goal

pub crossing_at-requires : goal.crossing_at-requires
crossing_at-requires g c =
    let m = c.requires.may in
    let frames = g.F.SegmentFrames.content c.args.frames.now in (
      m.0,
      m.1,
      m.2,
      c.args.r.domain,
      may_do_there (contents_of m.0 frames m.1) c.args.w.now m.2 c.args.r (place_of c.args.at.now) c.requires.stands m.3,
    )

pub returns-in-Some-clause-free : goal.returns-in-Some-clause-free
returns-in-Some-clause-free g c = λ done own.
    let frames = g.F.SegmentFrames.content c.args.frames.now in
    let at = place_of c.args.at.now in
    waits_for_none frames c.args.w.now.classes own c.args.r at
    (interface_ready frames c.args.w.now.classes own c.args.r at c.requires.stands c.in-Some.ensures.kind)

pub returns-in-Some-clause-steps : goal.returns-in-Some-clause-steps
returns-in-Some-clause-steps g c = λ done heaps own shared x may is.
    let frames = g.F.SegmentFrames.content c.args.frames.now in
    let at = place_of c.args.at.now in
    let st = interface_ready frames c.args.w.now.classes own.state c.args.r at c.requires.stands c.in-Some.ensures.kind in
    crossing heaps frames frames own c.args.w.now shared c.args.r at st may x is c.in-Some.crossing.capability c.in-Some.crossing.method
    (c.in-Some.ensures.call heaps own shared c.args.r.domain x (may_do (contents_of heaps frames own) c.args.w.now shared c.args.r at st may) is)
