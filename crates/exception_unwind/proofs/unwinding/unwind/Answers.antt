-- By the turns.
use Rattle.std.proofs.Common.{None, refl, sym, subst, arith}
use Rattle.step_contents.specs.Contents.{Contents, contents_of}
use Rattle.exception_unwind.specs.declared.catching.CodePlace.{CodePlace}
use Rattle.exception_unwind.specs.Trials.{IsTried}
use Rattle.exception_unwind.proofs.UnwindingTurns.{caught_turn, inside_may_change, name_there, next_turn, nothing_yet, room_there, state_there, thrown_there, top_there, tried_turn, uncaught_all}
use Rattle.exception_unwind.proofs.unwinding.unwind.Goals as goal

pub loop-init : goal.loop-init
loop-init g c =
    let old : Contents = contents_of (g.H.ObjectStore.content c.args.heap.now) (g.F.SegmentFrames.content c.args.frames.now) c.args.own.now in
    nothing_yet old c.args.w.now c.args.d c.args.s c.args.throwable c.requires.throwable (record { method = None; at = 0 }) refl

pub head-head-requires : goal.head-head-requires
head-head-requires g c =
    let old : Contents = contents_of (g.H.ObjectStore.content c.args.heap.now) (g.F.SegmentFrames.content c.args.frames.now) c.args.own.now in
    let now : Contents = contents_of (g.H.ObjectStore.content c.loop.heap) (g.F.SegmentFrames.content c.loop.frames) c.loop.own in
    top_there old c.args.w.now c.args.d c.args.s c.args.throwable c.requires.throwable now c.loop.counter c.loop.thrown c.depth-end.result
    c.loop.tried c.loop.invariant c.depth-end.ensures c.requires.may.0 c.requires.may.1 c.loop-test.true

pub handler_in-requires-clause-name : goal.handler_in-requires-clause-name
handler_in-requires-clause-name g c =
    let old : Contents = contents_of (g.H.ObjectStore.content c.args.heap.now) (g.F.SegmentFrames.content c.args.frames.now) c.args.own.now in
    let now : Contents = contents_of (g.H.ObjectStore.content c.loop.heap) (g.F.SegmentFrames.content c.loop.frames) c.loop.own in
    name_there old c.args.w.now c.args.d c.args.s c.args.throwable c.requires.throwable now c.loop.counter c.loop.thrown c.depth-end.result
    c.loop.tried c.loop.invariant c.depth-end.ensures c.requires.may.0 c.requires.may.1

pub catch-requires : goal.catch-requires
catch-requires g c =
    let old : Contents = contents_of (g.H.ObjectStore.content c.args.heap.now) (g.F.SegmentFrames.content c.args.frames.now) c.args.own.now in
    let now : Contents = contents_of (g.H.ObjectStore.content c.loop.heap) (g.F.SegmentFrames.content c.loop.frames) c.loop.own in
    room_there old c.args.w.now c.args.d c.args.s c.args.throwable c.requires.throwable now c.loop.counter c.loop.thrown c.depth-end.result
    c.loop.tried c.loop.invariant c.depth-end.ensures c.requires.may.0 c.requires.may.1 c.loop-test.true c.head-head.result c.head-head.ensures
    c.in-Some.handler c.in-Some.ensures.some

pub returns-in-Some : goal.returns-in-Some
returns-in-Some g c =
    let old : Contents = contents_of (g.H.ObjectStore.content c.args.heap.now) (g.F.SegmentFrames.content c.args.frames.now) c.args.own.now in
    let now : Contents = contents_of (g.H.ObjectStore.content c.loop.heap) (g.F.SegmentFrames.content c.loop.frames) c.loop.own in
    let new : Contents = contents_of (g.H.ObjectStore.content c.loop.heap) (g.F.SegmentFrames.content c.catch.new.frames) c.loop.own in
    caught_turn old c.args.w.now c.args.d c.args.s c.args.throwable c.requires.throwable now c.loop.counter c.loop.thrown c.depth-end.result
    c.loop.tried c.loop.invariant c.depth-end.ensures c.loop-test.true c.head-head.result c.head-head.ensures new c.in-Some.handler refl refl
    c.in-Some.ensures.some c.catch.ensures

pub leave-thrown-requires-clause-may : goal.leave-thrown-requires-clause-may
leave-thrown-requires-clause-may g c =
    let old : Contents = contents_of (g.H.ObjectStore.content c.args.heap.now) (g.F.SegmentFrames.content c.args.frames.now) c.args.own.now in
    let now : Contents = contents_of (g.H.ObjectStore.content c.loop.heap) (g.F.SegmentFrames.content c.loop.frames) c.loop.own in (
      g.F.SegmentFrames.content c.args.frames.now,
      c.requires.may.0,
      c.args.s,
      inside_may_change old c.args.w.now c.args.d c.args.s c.args.throwable c.requires.throwable now c.loop.counter c.loop.thrown
          c.depth-end.result c.loop.tried c.loop.invariant c.depth-end.ensures c.requires.may.0 c.requires.may.1,
    )

pub leave-thrown-requires-clause-thrown : goal.leave-thrown-requires-clause-thrown
leave-thrown-requires-clause-thrown g c =
    let old : Contents = contents_of (g.H.ObjectStore.content c.args.heap.now) (g.F.SegmentFrames.content c.args.frames.now) c.args.own.now in
    let now : Contents = contents_of (g.H.ObjectStore.content c.loop.heap) (g.F.SegmentFrames.content c.loop.frames) c.loop.own in
    thrown_there old c.args.w.now c.args.d c.args.s c.args.throwable c.requires.throwable now c.loop.counter c.loop.thrown c.depth-end.result
    c.loop.tried c.loop.invariant c.depth-end.ensures c.requires.may.0 c.requires.may.1

pub leave-thrown-requires-clause-state : goal.leave-thrown-requires-clause-state
leave-thrown-requires-clause-state g c =
    let old : Contents = contents_of (g.H.ObjectStore.content c.args.heap.now) (g.F.SegmentFrames.content c.args.frames.now) c.args.own.now in
    let now : Contents = contents_of (g.H.ObjectStore.content c.loop.heap) (g.F.SegmentFrames.content c.loop.frames) c.loop.own in
    state_there old c.args.w.now c.args.d c.args.s c.args.throwable c.requires.throwable now c.loop.counter c.loop.thrown c.depth-end.result
    c.loop.tried c.loop.invariant c.depth-end.ensures c.requires.may.0 c.requires.may.1 c.loop-test.true c.head-head.result c.head-head.ensures

pub pop-requires : goal.pop-requires
pop-requires g c =
    let old : Contents = contents_of (g.H.ObjectStore.content c.args.heap.now) (g.F.SegmentFrames.content c.args.frames.now) c.args.own.now in
    let now : Contents = contents_of (g.H.ObjectStore.content c.loop.heap) (g.F.SegmentFrames.content c.loop.frames) c.loop.own in
    top_there old c.args.w.now c.args.d c.args.s c.args.throwable c.requires.throwable now c.loop.counter c.loop.thrown c.depth-end.result
    c.loop.tried c.loop.invariant c.depth-end.ensures c.requires.may.0 c.requires.may.1 c.loop-test.true

pub loop-preserved : goal.loop-preserved
loop-preserved g c =
    let old : Contents = contents_of (g.H.ObjectStore.content c.args.heap.now) (g.F.SegmentFrames.content c.args.frames.now) c.args.own.now in
    let now : Contents = contents_of (g.H.ObjectStore.content c.loop.heap) (g.F.SegmentFrames.content c.loop.frames) c.loop.own in
    let new : Contents =
    contents_of (g.H.ObjectStore.content c.leave-thrown.new.heap) (g.F.SegmentFrames.content c.pop.new.self) c.leave-thrown.new.own in
    record {
      midway = next_turn old c.args.w.now c.args.d c.args.s c.args.throwable c.requires.throwable now c.loop.counter c.loop.thrown
          c.depth-end.result c.loop.tried c.loop.invariant c.depth-end.ensures c.loop-test.true c.head-head.result c.head-head.ensures new
          c.leave-thrown.result (g.met.F.FrameStore.holds c.loop.frames) c.in_default.ensures.none
          (λ shared. c.leave-thrown.ensures (g.F.SegmentFrames.content c.args.frames.now) shared c.args.s) c.pop.ensures;
      tried = subst (λ (p : CodePlace). IsTried c.args.w.now.classes ((g.H.ObjectStore.content c.leave-thrown.new.heap).heap c.args.d) p
          c.leave-thrown.result) (sym c.tried_after-tried.ensures)
          (tried_turn old c.args.w.now c.args.d c.args.s c.args.throwable c.requires.throwable now c.loop.counter c.loop.thrown
          c.depth-end.result c.loop.tried c.loop.invariant c.depth-end.ensures c.loop-test.true c.head-head.result c.head-head.ensures new
          c.leave-thrown.result c.requires.may.0 c.requires.may.1
          (c.leave-thrown.ensures (g.F.SegmentFrames.content c.args.frames.now) c.requires.may.0 c.args.s) c.in_default.ensures.tried);
    }

pub returns : goal.returns
returns g c =
    let old : Contents = contents_of (g.H.ObjectStore.content c.args.heap.now) (g.F.SegmentFrames.content c.args.frames.now) c.args.own.now in
    let now : Contents = contents_of (g.H.ObjectStore.content c.loop.heap) (g.F.SegmentFrames.content c.loop.frames) c.loop.own in
    uncaught_all old c.args.w.now c.args.d c.args.s c.args.throwable c.requires.throwable now c.loop.counter c.loop.thrown c.depth-end.result
    c.loop.tried c.loop.invariant c.depth-end.ensures (omega (arith, c.loop-test.false, c.loop.auto.counter-end))
