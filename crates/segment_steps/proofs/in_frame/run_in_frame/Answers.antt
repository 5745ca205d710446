-- By the turns.
use Rattle.std.proofs.Common.{◌≡◌, subst, arith}
use Rattle.step_contents.specs.Contents.{contents_of, here_at}
use Rattle.step_contents.specs.StandingFrames.{place_of}
use Rattle.segment_steps.specs.InFrameTurns.{RunsInFrame}
use Rattle.segment_steps.proofs.TurnsInFrame.{begun, ended, gone_on, may_once_stored, ready_there, rested, row_there, stands_then, top_there}
use Rattle.segment_steps.proofs.in_frame.run_in_frame.Goals as goal

pub loop-done-init : goal.loop-done-init
loop-done-init g c =
    begun (g.H.ObjectStore.content c.args.heap.now) (g.F.SegmentFrames.content c.args.frames.now) c.args.w.now c.args.d c.args.s
    (place_of c.args.at.now) c.requires.stands

pub next_in_frame-requires-clause-row : goal.next_in_frame-requires-clause-row
next_in_frame-requires-clause-row g c =
    row_there (g.H.ObjectStore.content c.args.heap.now) (g.F.SegmentFrames.content c.args.frames.now) c.args.w.now c.args.d c.args.s
    (g.H.ObjectStore.content c.loop-done.heap) (g.F.SegmentFrames.content c.loop-done.frames) (place_of c.loop-done.at) c.loop-done.done
    c.loop-done.invariant c.requires.may.0 c.requires.may.1 c.requires.may.2

pub next_in_frame-requires-clause-ready : goal.next_in_frame-requires-clause-ready
next_in_frame-requires-clause-ready g c =
    ready_there (g.H.ObjectStore.content c.args.heap.now) (g.F.SegmentFrames.content c.args.frames.now) c.args.w.now c.args.d c.args.s
    (g.H.ObjectStore.content c.loop-done.heap) (g.F.SegmentFrames.content c.loop-done.frames) (place_of c.loop-done.at) c.loop-done.done
    c.loop-done.invariant c.requires.may.0 c.requires.may.1 c.requires.may.2

pub next_in_frame-requires-clause-top : goal.next_in_frame-requires-clause-top
next_in_frame-requires-clause-top g c =
    top_there (g.H.ObjectStore.content c.args.heap.now) (g.F.SegmentFrames.content c.args.frames.now) c.args.w.now c.args.d c.args.s
    (g.H.ObjectStore.content c.loop-done.heap) (g.F.SegmentFrames.content c.loop-done.frames) (place_of c.loop-done.at) c.loop-done.done
    c.loop-done.invariant c.requires.may.0 c.requires.may.1 c.requires.may.2

pub next_in_frame-requires-clause-may : goal.next_in_frame-requires-clause-may
next_in_frame-requires-clause-may g c =
    may_once_stored (g.H.ObjectStore.content c.args.heap.now) (g.F.SegmentFrames.content c.args.frames.now) c.args.w.now c.args.d c.args.s
    (g.H.ObjectStore.content c.loop-done.heap) (g.F.SegmentFrames.content c.loop-done.frames) (place_of c.loop-done.at) c.loop-done.done
    c.loop-done.invariant c.requires.may.0 c.requires.may.1 c.requires.may.2

pub next_in_frame-requires-clause-place : goal.next_in_frame-requires-clause-place
next_in_frame-requires-clause-place g c = c.loop-done.invariant.place

pub loop-done-preserved : goal.loop-done-preserved
loop-done-preserved g c =
    gone_on (g.H.ObjectStore.content c.args.heap.now) (g.F.SegmentFrames.content c.args.frames.now) c.args.w.now c.args.d c.args.s
    (g.H.ObjectStore.content c.loop-done.heap) (g.F.SegmentFrames.content c.loop-done.frames) (place_of c.loop-done.at) c.loop-done.done
    c.loop-done.invariant c.heap_rows_keep.ensures (g.H.ObjectStore.content c.next_in_frame.new.heap) (g.F.SegmentFrames.content c.next_in_frame.new.frames)
    c.in-Some.next.at c.in-Some.next.instr.now c.in-Some.ensures.some c.in-Some.ensures.there

pub go-requires : goal.go-requires
go-requires g c =
    let far = rested (g.H.ObjectStore.content c.args.heap.now) (g.F.SegmentFrames.content c.args.frames.now) c.args.w.now c.args.d c.args.s
    (g.H.ObjectStore.content c.loop-done.heap) (g.F.SegmentFrames.content c.loop-done.frames) (place_of c.loop-done.at) c.loop-done.done
    c.loop-done.invariant (g.H.ObjectStore.content c.next_in_frame.new.heap)
    (g.F.SegmentFrames.content c.next_in_frame.new.frames) c.in-None.ensures.none in
    top_there (g.H.ObjectStore.content c.args.heap.now) (g.F.SegmentFrames.content c.args.frames.now) c.args.w.now c.args.d c.args.s
    (g.H.ObjectStore.content c.next_in_frame.new.heap) (g.F.SegmentFrames.content c.next_in_frame.new.frames) (place_of c.loop-done.at)
    c.loop-done.done far c.requires.may.0 c.requires.may.1 c.requires.may.2

pub returns-in-None-clause-runs : goal.returns-in-None-clause-runs
returns-in-None-clause-runs g c =
    let far = rested (g.H.ObjectStore.content c.args.heap.now) (g.F.SegmentFrames.content c.args.frames.now) c.args.w.now c.args.d c.args.s
    (g.H.ObjectStore.content c.loop-done.heap) (g.F.SegmentFrames.content c.loop-done.frames) (place_of c.loop-done.at) c.loop-done.done
    c.loop-done.invariant (g.H.ObjectStore.content c.next_in_frame.new.heap)
    (g.F.SegmentFrames.content c.next_in_frame.new.frames) c.in-None.ensures.none in
    ended (g.H.ObjectStore.content c.args.heap.now) (g.F.SegmentFrames.content c.args.frames.now) c.args.w.now c.args.d c.args.s
    (g.H.ObjectStore.content c.next_in_frame.new.heap) (g.F.SegmentFrames.content c.next_in_frame.new.frames) (place_of c.loop-done.at)
    c.loop-done.done far (g.F.SegmentFrames.content c.go.new.self) c.go.ensures

pub returns-in-None-clause-stands : goal.returns-in-None-clause-stands
returns-in-None-clause-stands g c =
    let far = rested (g.H.ObjectStore.content c.args.heap.now) (g.F.SegmentFrames.content c.args.frames.now) c.args.w.now c.args.d c.args.s
    (g.H.ObjectStore.content c.loop-done.heap) (g.F.SegmentFrames.content c.loop-done.frames) (place_of c.loop-done.at) c.loop-done.done
    c.loop-done.invariant (g.H.ObjectStore.content c.next_in_frame.new.heap)
    (g.F.SegmentFrames.content c.next_in_frame.new.frames) c.in-None.ensures.none in
    stands_then (g.H.ObjectStore.content c.args.heap.now) (g.F.SegmentFrames.content c.args.frames.now) c.args.w.now c.args.d c.args.s
    (g.H.ObjectStore.content c.next_in_frame.new.heap) (g.F.SegmentFrames.content c.next_in_frame.new.frames) (place_of c.loop-done.at)
    c.loop-done.done far c.requires.may.0 c.requires.may.1 c.requires.may.2 (g.F.SegmentFrames.content c.go.new.self) c.go.ensures

pub go-requires-2 : goal.go-requires-2
go-requires-2 g c =
    top_there (g.H.ObjectStore.content c.args.heap.now) (g.F.SegmentFrames.content c.args.frames.now) c.args.w.now c.args.d c.args.s
    (g.H.ObjectStore.content c.loop-done.heap) (g.F.SegmentFrames.content c.loop-done.frames) (place_of c.loop-done.at) c.loop-done.done
    c.loop-done.invariant c.requires.may.0 c.requires.may.1 c.requires.may.2

pub returns-clause-runs : goal.returns-clause-runs
returns-clause-runs g c =
    let old = g.F.SegmentFrames.content c.args.frames.now in
    let new = g.F.SegmentFrames.content c.go-2.new.self in
    let all : c.loop-done.done ≡ c.args.steps = omega (arith, c.loop-done-test.false, c.loop-done.auto.done-end) in
    λ own shared.
    subst (RunsInFrame (contents_of (g.H.ObjectStore.content c.args.heap.now) old own)
    (contents_of (g.H.ObjectStore.content c.loop-done.heap) new own) (here_at c.args.w.now shared c.args.d c.args.s)) all
    (ended (g.H.ObjectStore.content c.args.heap.now) (g.F.SegmentFrames.content c.args.frames.now) c.args.w.now c.args.d c.args.s
    (g.H.ObjectStore.content c.loop-done.heap) (g.F.SegmentFrames.content c.loop-done.frames) (place_of c.loop-done.at) c.loop-done.done
    c.loop-done.invariant new c.go-2.ensures own shared)

pub returns-clause-stands : goal.returns-clause-stands
returns-clause-stands g c =
    stands_then (g.H.ObjectStore.content c.args.heap.now) (g.F.SegmentFrames.content c.args.frames.now) c.args.w.now c.args.d c.args.s
    (g.H.ObjectStore.content c.loop-done.heap) (g.F.SegmentFrames.content c.loop-done.frames) (place_of c.loop-done.at) c.loop-done.done
    c.loop-done.invariant c.requires.may.0 c.requires.may.1 c.requires.may.2 (g.F.SegmentFrames.content c.go-2.new.self) c.go-2.ensures
