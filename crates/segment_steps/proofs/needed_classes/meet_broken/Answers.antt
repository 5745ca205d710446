-- The class is broken.
use Rattle.step_contents.specs.Contents.{Contents, contents_of}
use Rattle.segment_steps.proofs.NeededClasses.{error_raisable, met_broken}
use Rattle.segment_steps.proofs.SegmentsRaise.{raise_still}
use Rattle.segment_steps.proofs.StandingHere.{becomes_same, same_frames}
use Rattle.step_contents.specs.Contents.{here_at}
use Rattle.segment_steps.proofs.needed_classes.meet_broken.Goals as goal

pub raise_here-requires-clause-may : goal.raise_here-requires-clause-may
raise_here-requires-clause-may g c =
    let old : Contents = contents_of (g.H.ObjectStore.content c.args.heap.now) (g.F.SegmentFrames.content c.args.frames.now) c.args.own.now in
    let may = c.requires.may.1 in
    let here = here_at c.args.w.now c.requires.may.0 c.args.r.domain c.args.r.segment in (
      c.requires.may.0,
      raise_still old old here may (becomes_same old here may.run may.domain may.holds old.frames (same_frames old.frames)) may.domain.rooms,
    )

pub raise_here-requires-clause-raise : goal.raise_here-requires-clause-raise
raise_here-requires-clause-raise g c =
    let old : Contents = contents_of (g.H.ObjectStore.content c.args.heap.now) (g.F.SegmentFrames.content c.args.frames.now) c.args.own.now in
    error_raisable old c.args.w.now c.requires.may.0 c.args.r c.requires.may.1 c.requires.broken.2

pub returns : goal.returns
returns g c = λ shared x may is.
    let old : Contents = contents_of (g.H.ObjectStore.content c.args.heap.now) (g.F.SegmentFrames.content c.args.frames.now) c.args.own.now in
    met_broken old c.args.w.now shared c.args.r may c.requires.broken.2 c.requires.broken.0 c.requires.broken.1 c.requires.broken.3
    c.requires.broken.4 _ c.raise_here.result (c.raise_here.ensures shared) x is
