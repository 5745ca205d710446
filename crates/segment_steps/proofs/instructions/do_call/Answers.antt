-- By what is answered.
use Rattle.step_contents.specs.Contents.{Contents, contents_of}
use Rattle.step_contents.specs.StandingFrames.{place_of}
use Rattle.step_contents.proofs.InstructionsBegin.{is_some_setting, some_setting}
use Rattle.segment_steps.proofs.CallsFollowed.{crossing, frame_called, keeps_frames, left_to_system, may_be_raised, nothing_else, raised, raising}
use Rattle.segment_steps.proofs.StandingHere.{may_do}
use Rattle.segment_steps.proofs.instructions.do_call.Goals as goal

pub step-requires-clause-may : goal.step-requires-clause-may
step-requires-clause-may g c =
    let old : Contents = contents_of (g.H.ObjectStore.content c.args.heap.now) (g.F.SegmentFrames.content c.args.frames.now) c.args.own.now in (
      c.args.own.now,
      c.requires.may.0,
      may_do old c.args.w.now c.requires.may.0 c.args.r (place_of c.args.at.now) c.requires.stands c.requires.may.1,
    )

pub raise_here-requires-clause-may : goal.raise_here-requires-clause-may
raise_here-requires-clause-may g c =
    let old : Contents = contents_of (g.H.ObjectStore.content c.args.heap.now) (g.F.SegmentFrames.content c.args.frames.now) c.args.own.now in
    let doing = may_do old c.args.w.now c.requires.may.0 c.args.r (place_of c.args.at.now) c.requires.stands c.requires.may.1 in (
      c.requires.may.0,
      raising (g.H.ObjectStore.content c.args.heap.now) (g.F.SegmentFrames.content c.args.frames.now) (g.F.SegmentFrames.content c.step.new.frames)
          c.args.own.now c.args.w.now c.requires.may.0 c.args.r (place_of c.args.at.now) c.requires.stands c.requires.may.1 (some_setting doing)
          (is_some_setting doing) c.in-Raise.raise
          (c.in-Raise.ensures.call c.args.own.now c.requires.may.0 (some_setting doing) doing (is_some_setting doing)),
    )

pub raise_here-requires-clause-raise : goal.raise_here-requires-clause-raise
raise_here-requires-clause-raise g c =
    let old : Contents = contents_of (g.H.ObjectStore.content c.args.heap.now) (g.F.SegmentFrames.content c.args.frames.now) c.args.own.now in
    let doing = may_do old c.args.w.now c.requires.may.0 c.args.r (place_of c.args.at.now) c.requires.stands c.requires.may.1 in
    may_be_raised (g.H.ObjectStore.content c.args.heap.now) (g.F.SegmentFrames.content c.args.frames.now) (g.F.SegmentFrames.content c.step.new.frames)
    c.args.own.now c.args.w.now c.requires.may.0 c.args.r (place_of c.args.at.now) c.requires.stands c.requires.may.1 (some_setting doing)
    (is_some_setting doing) c.in-Raise.raise
    (c.in-Raise.ensures.call c.args.own.now c.requires.may.0 (some_setting doing) doing (is_some_setting doing))

pub unreachable-requires : goal.unreachable-requires
unreachable-requires g c =
    nothing_else (g.H.ObjectStore.content c.args.heap.now) (g.F.SegmentFrames.content c.args.frames.now) (g.F.SegmentFrames.content c.step.new.frames)
    c.args.own.now c.args.w.now c.requires.may.0 c.args.r (place_of c.args.at.now) c.requires.stands c.requires.may.1 c.step.result
    (c.step.ensures.call c.args.own.now c.requires.may.0) c.in_default.not-Goto c.in_default.not-Raise c.in_default.not-Crossing
    c.in_default.not-Call

pub returns-in-Goto : goal.returns-in-Goto
returns-in-Goto g c = λ shared x may is.
    let old : Contents = contents_of (g.H.ObjectStore.content c.args.heap.now) (g.F.SegmentFrames.content c.args.frames.now) c.args.own.now in
    frame_called (g.H.ObjectStore.content c.args.heap.now) (g.F.SegmentFrames.content c.args.frames.now) (g.F.SegmentFrames.content c.step.new.frames)
    c.args.own.now c.args.w.now shared c.args.r (place_of c.args.at.now) c.requires.stands may x is _
    (c.in-Goto.ensures.call c.args.own.now shared x (may_do old c.args.w.now shared c.args.r (place_of c.args.at.now) c.requires.stands may) is)

pub returns-in-Raise : goal.returns-in-Raise
returns-in-Raise g c = λ shared x may is.
    let old : Contents = contents_of (g.H.ObjectStore.content c.args.heap.now) (g.F.SegmentFrames.content c.args.frames.now) c.args.own.now in
    raised (g.H.ObjectStore.content c.args.heap.now) (g.F.SegmentFrames.content c.args.frames.now) (g.F.SegmentFrames.content c.step.new.frames)
    c.args.own.now c.args.w.now shared c.args.r (place_of c.args.at.now) c.requires.stands may x is c.in-Raise.raise
    (c.in-Raise.ensures.call c.args.own.now shared x (may_do old c.args.w.now shared c.args.r (place_of c.args.at.now) c.requires.stands may) is) _
    c.raise_here.result (c.raise_here.ensures shared)

pub returns-in-Crossing : goal.returns-in-Crossing
returns-in-Crossing g c = λ shared x may is.
    let old : Contents = contents_of (g.H.ObjectStore.content c.args.heap.now) (g.F.SegmentFrames.content c.args.frames.now) c.args.own.now in
    crossing (g.H.ObjectStore.content c.args.heap.now) (g.F.SegmentFrames.content c.args.frames.now) (g.F.SegmentFrames.content c.step.new.frames)
    c.args.own.now c.args.w.now shared c.args.r (place_of c.args.at.now) c.requires.stands may x is c.in-Crossing.k c.in-Crossing.m
    (c.in-Crossing.ensures.call c.args.own.now shared x (may_do old c.args.w.now shared c.args.r (place_of c.args.at.now) c.requires.stands may) is)

pub returns-in-Call : goal.returns-in-Call
returns-in-Call g c = λ shared.
    left_to_system (g.H.ObjectStore.content c.args.heap.now) (g.F.SegmentFrames.content c.args.frames.now) (g.F.SegmentFrames.content c.step.new.frames)
    c.args.own.now c.args.w.now shared c.args.r (place_of c.args.at.now) c.requires.stands c.in-Call.m
    (keeps_frames (g.H.ObjectStore.content c.args.heap.now) (g.F.SegmentFrames.content c.args.frames.now) (g.F.SegmentFrames.content c.step.new.frames)
    c.args.own.now c.args.w.now c.requires.may.0 c.args.r (place_of c.args.at.now) c.requires.stands c.in-Call.m c.requires.may.1
    (c.in-Call.ensures.call c.args.own.now c.requires.may.0))
    (c.in-Call.ensures.call c.args.own.now shared)
