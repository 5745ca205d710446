-- The object is there, and goes through the segment.
use Rattle.std.proofs.Common.{sym, ap}
use Rattle.step_contents.specs.Contents.{Contents, contents_of}
use Rattle.segment_steps.specs.declared.went.Went.TheVariants as Goes
use Rattle.segment_steps.specs.RaisingHere.{went_of}
use Rattle.segment_steps.proofs.RaisedInSegments.{may_change, may_unwind_there, raised_here, throwable_there}
use Rattle.segment_steps.proofs.raising.raise_here.Goals as goal

pub raised-throwable-requires-clause-may : goal.raised-throwable-requires-clause-may
raised-throwable-requires-clause-may g c =
    let old : Contents = contents_of (g.H.ObjectStore.content c.args.heap.now) (g.F.SegmentFrames.content c.args.frames.now) c.args.own.now in
    (g.F.SegmentFrames.content c.args.frames.now, c.requires.may.0, c.args.r.segment, may_change old _ c.requires.may.1)

pub unwind-requires-clause-may : goal.unwind-requires-clause-may
unwind-requires-clause-may g c = (
  c.requires.may.0,
  may_unwind_there c.args.w.now c.args.r.domain c.args.r.segment (g.H.ObjectStore.content c.args.heap.now)
      (g.H.ObjectStore.content c.raised-throwable.new.heap) (g.F.SegmentFrames.content c.args.frames.now) c.args.own.now c.args.raise
      c.raised-throwable.result c.requires.raise
      (λ shared. c.raised-throwable.ensures (g.F.SegmentFrames.content c.args.frames.now) shared c.args.r.segment)
      c.requires.may.0 c.requires.may.1,
)

pub unwind-requires-clause-throwable : goal.unwind-requires-clause-throwable
unwind-requires-clause-throwable g c =
    throwable_there c.args.w.now c.args.r.domain c.args.r.segment (g.H.ObjectStore.content c.args.heap.now)
    (g.H.ObjectStore.content c.raised-throwable.new.heap) (g.F.SegmentFrames.content c.args.frames.now) c.args.own.now c.args.raise
    c.raised-throwable.result c.requires.raise
    (λ shared. c.raised-throwable.ensures (g.F.SegmentFrames.content c.args.frames.now) shared c.args.r.segment)
    c.requires.may.0 c.requires.may.1

pub returns-in-Caught : goal.returns-in-Caught
returns-in-Caught g c =
    let new : Contents = contents_of (g.H.ObjectStore.content c.unwind.new.heap) (g.F.SegmentFrames.content c.unwind.new.frames) c.unwind.new.own in
    raised_here c.args.w.now c.args.r.domain c.args.r.segment (g.H.ObjectStore.content c.args.heap.now)
    (g.H.ObjectStore.content c.raised-throwable.new.heap) (g.F.SegmentFrames.content c.args.frames.now) c.args.own.now c.args.raise
    c.raised-throwable.result c.requires.raise
    (λ shared. c.raised-throwable.ensures (g.F.SegmentFrames.content c.args.frames.now) shared c.args.r.segment)
    new c.unwind.result Goes.GoesOn (sym (ap went_of c.in-Caught.is)) c.unwind.ensures

pub returns-in-Uncaught : goal.returns-in-Uncaught
returns-in-Uncaught g c =
    let new : Contents = contents_of (g.H.ObjectStore.content c.unwind.new.heap) (g.F.SegmentFrames.content c.unwind.new.frames) c.unwind.new.own in
    raised_here c.args.w.now c.args.r.domain c.args.r.segment (g.H.ObjectStore.content c.args.heap.now)
    (g.H.ObjectStore.content c.raised-throwable.new.heap) (g.F.SegmentFrames.content c.args.frames.now) c.args.own.now c.args.raise
    c.raised-throwable.result c.requires.raise
    (λ shared. c.raised-throwable.ensures (g.F.SegmentFrames.content c.args.frames.now) shared c.args.r.segment)
    new c.unwind.result (Goes.Left c.in-Uncaught.left) (sym (ap went_of c.in-Uncaught.is)) c.unwind.ensures
