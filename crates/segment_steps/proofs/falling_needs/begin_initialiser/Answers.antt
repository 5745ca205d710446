-- By whether the constant texts fit.
use Rattle.step_contents.specs.Contents.{Contents, contents_of}
use Rattle.exception_unwind.proofs.KnownDomains.{some_setting}
use Rattle.step_contents.specs.Contents.{here_at}
use Rattle.segment_steps.proofs.ConstantsFollowed.{ended_need, lacked, may_set, raising, state_there}
use Rattle.segment_steps.proofs.falling_needs.begin_initialiser.Goals as goal

pub set_constants-requires : goal.set_constants-requires
set_constants-requires g c = (
  g.F.SegmentFrames.content c.args.frames.now,
  c.requires.may.0,
  c.args.r.segment,
  may_set (g.H.ObjectStore.content c.args.heap.now) (g.F.SegmentFrames.content c.args.frames.now) c.args.own.now c.args.w.now c.requires.may.0 c.args.r
      c.requires.may.1 c.requires.top.0 c.requires.top.1 c.args.head.now c.requires.top.2 c.args.c c.requires.class,
)

pub end_need-requires-clause-state : goal.end_need-requires-clause-state
end_need-requires-clause-state g c =
    let frames = g.F.SegmentFrames.content c.args.frames.now in
    let old : Contents = contents_of (g.H.ObjectStore.content c.args.heap.now) frames c.args.own.now in
    let here = here_at c.args.w.now c.requires.may.0 c.args.r.domain c.args.r.segment in
    let x = some_setting old here c.requires.may.1.domain in
    state_there (g.H.ObjectStore.content c.args.heap.now) frames c.args.own.now c.args.w.now c.requires.may.0 c.args.r
    c.requires.may.1 c.requires.top.0 c.requires.top.1 c.args.head.now c.requires.top.2 c.args.c c.requires.class
    (g.H.ObjectStore.content c.set_constants.new.heap) c.set_constants.new.own (c.in-Ok.ensures.ok frames c.requires.may.0 c.args.r.segment) x.0 x.1

pub raise_here-requires-clause-may : goal.raise_here-requires-clause-may
raise_here-requires-clause-may g c = (
  c.requires.may.0,
  raising (g.H.ObjectStore.content c.args.heap.now) (g.F.SegmentFrames.content c.args.frames.now) c.args.own.now c.args.w.now c.requires.may.0 c.args.r
      c.requires.may.1 c.requires.top.0 c.requires.top.1 c.args.head.now c.requires.top.2 c.args.c c.requires.class
      (g.H.ObjectStore.content c.set_constants.new.heap) c.set_constants.new.own c.in-Err.ensures.as_before.0 c.in-Err.ensures.as_before.1,
)

pub returns-in-Ok : goal.returns-in-Ok
returns-in-Ok g c = λ shared x may is.
    ended_need (g.H.ObjectStore.content c.args.heap.now) (g.F.SegmentFrames.content c.args.frames.now) c.args.own.now c.args.w.now shared c.args.r
    may c.requires.top.0 c.requires.top.1 c.args.head.now c.requires.top.2 c.args.c c.requires.class
    (g.H.ObjectStore.content c.set_constants.new.heap) c.set_constants.new.own
    (c.in-Ok.ensures.ok (g.F.SegmentFrames.content c.args.frames.now) shared c.args.r.segment) x is c.requires.ready.0 c.requires.ready.1
    c.requires.ready.2 (g.F.SegmentFrames.content c.end_need.new.frames) c.end_need.new.own c.end_need.ensures.code c.end_need.ensures.none
    (g.met.F.FrameStore.holds c.args.frames.now)

pub returns-in-Err : goal.returns-in-Err
returns-in-Err g c = λ shared x may is.
    lacked (g.H.ObjectStore.content c.args.heap.now) (g.F.SegmentFrames.content c.args.frames.now) c.args.own.now c.args.w.now shared c.args.r
    may c.requires.top.0 c.requires.top.1 c.args.head.now c.requires.top.2 c.args.c c.requires.class
    (g.H.ObjectStore.content c.set_constants.new.heap) c.set_constants.new.own c.in-Err.ensures.as_before.0 c.in-Err.ensures.as_before.1 _
    c.raise_here.result (c.in-Err.ensures.err (g.F.SegmentFrames.content c.args.frames.now) shared c.args.r.segment) (c.raise_here.ensures shared) x is
    c.requires.ready.0 c.requires.ready.1 c.requires.ready.2
