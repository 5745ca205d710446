-- Once the place is stored the segment may act there; and where something is raised, nothing changed after that.
use Rattle.std.proofs.Common.{sym, subst}
use Rattle.frame_store.specs.FrameContents.{FrameContent}
use Rattle.step_contents.specs.StandingFrames.{place_of}
use Rattle.segment_steps.specs.InFrameTurns.{StoresPlace}
use Rattle.segment_steps.proofs.AccessesMade.{does_here, next_fits_there, nothing_else}
use Rattle.segment_steps.proofs.in_frame.access_in_frame.Goals as goal

pub access-requires-clause-may : goal.access-requires-clause-may
access-requires-clause-may g c =
    let mid = g.F.SegmentFrames.content c.go.new.self in
    let may = c.requires.may.2 mid c.go.ensures in (
      c.requires.may.0,
      c.requires.may.1,
      does_here (g.H.ObjectStore.content c.args.heap.now) mid c.requires.may.0 c.args.w.now c.requires.may.1 c.args.d c.args.s (place_of c.args.here.now)
          c.requires.access may.0 may.1,
    )

pub overflow_add-result : goal.overflow_add-result
overflow_add-result g c =
    let mid = g.F.SegmentFrames.content c.go.new.self in
    let may = c.requires.may.2 mid c.go.ensures in
    let fits = next_fits_there (g.H.ObjectStore.content c.args.heap.now) mid c.requires.may.0 c.args.w.now c.requires.may.1 c.args.d c.args.s
    (place_of c.args.here.now) c.requires.access may.0 may.1 in
    record { fits = fits }

pub returns-in-Ok-clause-some : goal.returns-in-Ok-clause-some
returns-in-Ok-clause-some g c = record {
  access = c.requires.access;
  mid = g.F.SegmentFrames.content c.go.new.self;
  stores = c.go.ensures;
  does = c.in-Ok.ensures;
}

pub returns-in-Err-clause-none : goal.returns-in-Err-clause-none
returns-in-Err-clause-none g c =
    let old = g.F.SegmentFrames.content c.args.frames.now in
    let mid = g.F.SegmentFrames.content c.go.new.self in
    let may = c.requires.may.2 mid c.go.ensures in
    let same = nothing_else (g.H.ObjectStore.content c.args.heap.now) mid c.requires.may.0 c.args.w.now c.requires.may.1 c.args.d c.args.s
    (place_of c.args.here.now) c.requires.access may.0 may.1 c.heap_rows_keep.ensures c.what_follows_is_determined.ensures.raises
    (g.H.ObjectStore.content c.access.new.heap) (g.F.SegmentFrames.content c.access.new.frames) _ (c.in-Err.ensures c.requires.may.0 c.requires.may.1) in
    subst (λ (new : FrameContent). StoresPlace old new c.args.s (place_of c.args.here.now)) (sym same.frames) c.go.ensures

pub returns-in-Err-clause-same : goal.returns-in-Err-clause-same
returns-in-Err-clause-same g c =
    let mid = g.F.SegmentFrames.content c.go.new.self in
    let may = c.requires.may.2 mid c.go.ensures in
    (nothing_else (g.H.ObjectStore.content c.args.heap.now) mid c.requires.may.0 c.args.w.now c.requires.may.1 c.args.d c.args.s
    (place_of c.args.here.now) c.requires.access may.0 may.1 c.heap_rows_keep.ensures c.what_follows_is_determined.ensures.raises
    (g.H.ObjectStore.content c.access.new.heap) (g.F.SegmentFrames.content c.access.new.frames) _
    (c.in-Err.ensures c.requires.may.0 c.requires.may.1)).heaps
