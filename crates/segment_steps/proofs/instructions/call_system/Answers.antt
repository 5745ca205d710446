-- By what is answered.
use Rattle.std.proofs.Common.{List, Result, Ok, Err, subst, arith}
use Rattle.jk_model.specs.declared.output.Line.{Line}
use Rattle.jk_model.specs.declared.steps.After.{After}
use Rattle.jk_outside.specs.declared.sinks.SinkFailed.{SinkFailed}
use Rattle.step_contents.specs.Contents.{Contents, contents_of, here_at, left_behind}
use Rattle.step_contents.specs.StandingFrames.{place_of}
use Rattle.system_calls.specs.SystemSteps.{CallSite, SystemDone, call_site}
use Rattle.segment_steps.proofs.ActingAlone.{gone_out}
use Rattle.segment_steps.proofs.NumbersBegin.{next_fits}
use Rattle.segment_steps.proofs.StandingHere.{may_do}
use Rattle.segment_steps.proofs.SystemCalled.{ends, goes, has_top, may_call, may_raise, nothing_else, raisable, rises}
use Rattle.segment_steps.proofs.instructions.call_system.Goals as goal

pub call-requires : goal.call-requires
call-requires g c = (
  c.args.own.now,
  may_call (g.H.ObjectStore.content c.args.heap.now) (g.F.SegmentFrames.content c.args.frames.now) c.args.own.now c.args.w.now
      c.args.shared.now c.args.r (place_of c.args.at.now) c.requires.stands c.args.m c.requires.calls
      c.requires.may,
)

pub overflow_add-at : goal.overflow_add-at
overflow_add-at g c =
    let old : Contents = contents_of (g.H.ObjectStore.content c.args.heap.now) (g.F.SegmentFrames.content c.args.frames.now) c.args.own.now in
    omega (arith, next_fits (may_do old c.args.w.now c.args.shared.now c.args.r (place_of c.args.at.now) c.requires.stands c.requires.may))

pub go-requires : goal.go-requires
go-requires g c =
    let old : Contents = contents_of (g.H.ObjectStore.content c.args.heap.now) (g.F.SegmentFrames.content c.args.frames.now) c.args.own.now in
    let mid : Contents = contents_of (g.H.ObjectStore.content c.call.new.heap) (g.F.SegmentFrames.content c.call.new.frames) c.args.own.now in
    let site : CallSite = call_site (here_at c.args.w.now c.args.shared.now c.args.r.domain c.args.r.segment) (place_of c.args.at.now) c.args.m in
    let result : Result (Unit {0}) SinkFailed = Ok tt in
    let Out : List Line → Type 0 = gone_out result (g.S.Sink.bytes c.args.out.now) (g.S.Sink.bytes c.call.new.out)
    (g.S.Sink.pieces c.args.out.now) (g.S.Sink.pieces c.call.new.out) (g.S.Sink.faults c.args.out.now) (g.S.Sink.faults c.call.new.out) in
    has_top (g.H.ObjectStore.content c.args.heap.now) (g.F.SegmentFrames.content c.args.frames.now) c.args.own.now c.args.w.now
    c.args.shared.now c.args.r (place_of c.args.at.now) c.requires.stands c.args.m c.requires.calls
    (g.H.ObjectStore.content c.call.new.heap) (g.F.SegmentFrames.content c.call.new.frames) c.call.new.shared Out
    c.requires.may c.in-Goto.n
    (subst (λ (k : After). SystemDone old site (left_behind mid c.call.new.shared) k Out) c.in-Goto.is (c.in-Ok.ensures.ok c.args.own.now))

pub raise_here-requires-clause-may : goal.raise_here-requires-clause-may
raise_here-requires-clause-may g c =
    let old : Contents = contents_of (g.H.ObjectStore.content c.args.heap.now) (g.F.SegmentFrames.content c.args.frames.now) c.args.own.now in
    let mid : Contents = contents_of (g.H.ObjectStore.content c.call.new.heap) (g.F.SegmentFrames.content c.call.new.frames) c.args.own.now in
    let site : CallSite = call_site (here_at c.args.w.now c.args.shared.now c.args.r.domain c.args.r.segment) (place_of c.args.at.now) c.args.m in
    let result : Result (Unit {0}) SinkFailed = Ok tt in
    let Out : List Line → Type 0 = gone_out result (g.S.Sink.bytes c.args.out.now) (g.S.Sink.bytes c.call.new.out)
    (g.S.Sink.pieces c.args.out.now) (g.S.Sink.pieces c.call.new.out) (g.S.Sink.faults c.args.out.now) (g.S.Sink.faults c.call.new.out) in (
      c.args.shared.now,
      may_raise
          (g.H.ObjectStore.content c.args.heap.now) (g.F.SegmentFrames.content c.args.frames.now) c.args.own.now c.args.w.now
          c.args.shared.now c.args.r (place_of c.args.at.now) c.requires.stands c.args.m c.requires.calls
          (g.H.ObjectStore.content c.call.new.heap) (g.F.SegmentFrames.content c.call.new.frames) c.call.new.shared Out
          c.requires.may c.in-Raise.raise
          (subst (λ (k : After). SystemDone old site (left_behind mid c.call.new.shared) k Out) c.in-Raise.is (c.in-Ok.ensures.ok c.args.own.now)),
    )

pub raise_here-requires-clause-raise : goal.raise_here-requires-clause-raise
raise_here-requires-clause-raise g c =
    let old : Contents = contents_of (g.H.ObjectStore.content c.args.heap.now) (g.F.SegmentFrames.content c.args.frames.now) c.args.own.now in
    let mid : Contents = contents_of (g.H.ObjectStore.content c.call.new.heap) (g.F.SegmentFrames.content c.call.new.frames) c.args.own.now in
    let site : CallSite = call_site (here_at c.args.w.now c.args.shared.now c.args.r.domain c.args.r.segment) (place_of c.args.at.now) c.args.m in
    let result : Result (Unit {0}) SinkFailed = Ok tt in
    let Out : List Line → Type 0 = gone_out result (g.S.Sink.bytes c.args.out.now) (g.S.Sink.bytes c.call.new.out)
    (g.S.Sink.pieces c.args.out.now) (g.S.Sink.pieces c.call.new.out) (g.S.Sink.faults c.args.out.now) (g.S.Sink.faults c.call.new.out) in
    raisable (g.H.ObjectStore.content c.args.heap.now) (g.F.SegmentFrames.content c.args.frames.now) c.args.own.now c.args.w.now
    c.args.shared.now c.args.r (place_of c.args.at.now) c.requires.stands c.args.m c.requires.calls
    (g.H.ObjectStore.content c.call.new.heap) (g.F.SegmentFrames.content c.call.new.frames) c.call.new.shared Out
    c.requires.may c.in-Raise.raise
    (subst (λ (k : After). SystemDone old site (left_behind mid c.call.new.shared) k Out) c.in-Raise.is (c.in-Ok.ensures.ok c.args.own.now))

pub unreachable-requires : goal.unreachable-requires
unreachable-requires g c =
    let old : Contents = contents_of (g.H.ObjectStore.content c.args.heap.now) (g.F.SegmentFrames.content c.args.frames.now) c.args.own.now in
    let mid : Contents = contents_of (g.H.ObjectStore.content c.call.new.heap) (g.F.SegmentFrames.content c.call.new.frames) c.args.own.now in
    let site : CallSite = call_site (here_at c.args.w.now c.args.shared.now c.args.r.domain c.args.r.segment) (place_of c.args.at.now) c.args.m in
    let result : Result (Unit {0}) SinkFailed = Ok tt in
    let Out : List Line → Type 0 = gone_out result (g.S.Sink.bytes c.args.out.now) (g.S.Sink.bytes c.call.new.out)
    (g.S.Sink.pieces c.args.out.now) (g.S.Sink.pieces c.call.new.out) (g.S.Sink.faults c.args.out.now) (g.S.Sink.faults c.call.new.out) in
    nothing_else (g.H.ObjectStore.content c.args.heap.now) (g.F.SegmentFrames.content c.args.frames.now) c.args.own.now c.args.w.now
    c.args.shared.now c.args.r (place_of c.args.at.now) c.requires.stands c.args.m c.requires.calls
    (g.H.ObjectStore.content c.call.new.heap) (g.F.SegmentFrames.content c.call.new.frames) c.call.new.shared Out
    c.requires.may c.in-Ok.after (c.in-Ok.ensures.ok c.args.own.now) c.in_default.not-Goto c.in_default.not-Raise c.in_default.not-Terminate

pub go-requires-in-Err : goal.go-requires-in-Err
go-requires-in-Err g c =
    let old : Contents = contents_of (g.H.ObjectStore.content c.args.heap.now) (g.F.SegmentFrames.content c.args.frames.now) c.args.own.now in
    let mid : Contents = contents_of (g.H.ObjectStore.content c.call.new.heap) (g.F.SegmentFrames.content c.call.new.frames) c.args.own.now in
    let site : CallSite = call_site (here_at c.args.w.now c.args.shared.now c.args.r.domain c.args.r.segment) (place_of c.args.at.now) c.args.m in
    let result : Result (Unit {0}) SinkFailed = Err c.in-Err.failed in
    let Out : List Line → Type 0 = gone_out result (g.S.Sink.bytes c.args.out.now) (g.S.Sink.bytes c.call.new.out)
    (g.S.Sink.pieces c.args.out.now) (g.S.Sink.pieces c.call.new.out) (g.S.Sink.faults c.args.out.now) (g.S.Sink.faults c.call.new.out) in
    has_top (g.H.ObjectStore.content c.args.heap.now) (g.F.SegmentFrames.content c.args.frames.now) c.args.own.now c.args.w.now
    c.args.shared.now c.args.r (place_of c.args.at.now) c.requires.stands c.args.m c.requires.calls
    (g.H.ObjectStore.content c.call.new.heap) (g.F.SegmentFrames.content c.call.new.frames) c.call.new.shared Out
    c.requires.may _ (c.in-Err.ensures.err c.args.own.now)

pub returns-in-Goto : goal.returns-in-Goto
returns-in-Goto g c =
    let old : Contents = contents_of (g.H.ObjectStore.content c.args.heap.now) (g.F.SegmentFrames.content c.args.frames.now) c.args.own.now in
    let mid : Contents = contents_of (g.H.ObjectStore.content c.call.new.heap) (g.F.SegmentFrames.content c.call.new.frames) c.args.own.now in
    let site : CallSite = call_site (here_at c.args.w.now c.args.shared.now c.args.r.domain c.args.r.segment) (place_of c.args.at.now) c.args.m in
    let result : Result (Unit {0}) SinkFailed = Ok tt in
    let Out : List Line → Type 0 = gone_out result (g.S.Sink.bytes c.args.out.now) (g.S.Sink.bytes c.call.new.out)
    (g.S.Sink.pieces c.args.out.now) (g.S.Sink.pieces c.call.new.out) (g.S.Sink.faults c.args.out.now) (g.S.Sink.faults c.call.new.out) in
    goes (g.H.ObjectStore.content c.args.heap.now) (g.F.SegmentFrames.content c.args.frames.now) c.args.own.now c.args.w.now
    c.args.shared.now c.args.r (place_of c.args.at.now) c.requires.stands c.args.m c.requires.calls
    (g.H.ObjectStore.content c.call.new.heap) (g.F.SegmentFrames.content c.call.new.frames) c.call.new.shared Out
    c.in-Goto.n
    (subst (λ (k : After). SystemDone old site (left_behind mid c.call.new.shared) k Out) c.in-Goto.is (c.in-Ok.ensures.ok c.args.own.now))
    (g.F.SegmentFrames.content c.go.new.self) c.go.ensures

pub returns-in-Raise : goal.returns-in-Raise
returns-in-Raise g c =
    let old : Contents = contents_of (g.H.ObjectStore.content c.args.heap.now) (g.F.SegmentFrames.content c.args.frames.now) c.args.own.now in
    let mid : Contents = contents_of (g.H.ObjectStore.content c.call.new.heap) (g.F.SegmentFrames.content c.call.new.frames) c.args.own.now in
    let site : CallSite = call_site (here_at c.args.w.now c.args.shared.now c.args.r.domain c.args.r.segment) (place_of c.args.at.now) c.args.m in
    let result : Result (Unit {0}) SinkFailed = Ok tt in
    let Out : List Line → Type 0 = gone_out result (g.S.Sink.bytes c.args.out.now) (g.S.Sink.bytes c.call.new.out)
    (g.S.Sink.pieces c.args.out.now) (g.S.Sink.pieces c.call.new.out) (g.S.Sink.faults c.args.out.now) (g.S.Sink.faults c.call.new.out) in
    rises (g.H.ObjectStore.content c.args.heap.now) (g.F.SegmentFrames.content c.args.frames.now) c.args.own.now c.args.w.now
    c.args.shared.now c.args.r (place_of c.args.at.now) c.requires.stands c.args.m c.requires.calls
    (g.H.ObjectStore.content c.call.new.heap) (g.F.SegmentFrames.content c.call.new.frames) c.call.new.shared Out
    c.in-Raise.raise
    (subst (λ (k : After). SystemDone old site (left_behind mid c.call.new.shared) k Out) c.in-Raise.is (c.in-Ok.ensures.ok c.args.own.now))
    _ c.raise_here.result (c.raise_here.ensures c.args.shared.now)

pub returns-in-Terminate : goal.returns-in-Terminate
returns-in-Terminate g c =
    let old : Contents = contents_of (g.H.ObjectStore.content c.args.heap.now) (g.F.SegmentFrames.content c.args.frames.now) c.args.own.now in
    let mid : Contents = contents_of (g.H.ObjectStore.content c.call.new.heap) (g.F.SegmentFrames.content c.call.new.frames) c.args.own.now in
    let site : CallSite = call_site (here_at c.args.w.now c.args.shared.now c.args.r.domain c.args.r.segment) (place_of c.args.at.now) c.args.m in
    let result : Result (Unit {0}) SinkFailed = Ok tt in
    let Out : List Line → Type 0 = gone_out result (g.S.Sink.bytes c.args.out.now) (g.S.Sink.bytes c.call.new.out)
    (g.S.Sink.pieces c.args.out.now) (g.S.Sink.pieces c.call.new.out) (g.S.Sink.faults c.args.out.now) (g.S.Sink.faults c.call.new.out) in
    ends (g.H.ObjectStore.content c.args.heap.now) (g.F.SegmentFrames.content c.args.frames.now) c.args.own.now c.args.w.now
    c.args.shared.now c.args.r (place_of c.args.at.now) c.requires.stands c.args.m c.requires.calls
    (g.H.ObjectStore.content c.call.new.heap) (g.F.SegmentFrames.content c.call.new.frames) c.call.new.shared Out
    (subst (λ (k : After). SystemDone old site (left_behind mid c.call.new.shared) k Out) c.in-Terminate.is (c.in-Ok.ensures.ok c.args.own.now))

pub returns-in-Err : goal.returns-in-Err
returns-in-Err g c =
    let old : Contents = contents_of (g.H.ObjectStore.content c.args.heap.now) (g.F.SegmentFrames.content c.args.frames.now) c.args.own.now in
    let mid : Contents = contents_of (g.H.ObjectStore.content c.call.new.heap) (g.F.SegmentFrames.content c.call.new.frames) c.args.own.now in
    let site : CallSite = call_site (here_at c.args.w.now c.args.shared.now c.args.r.domain c.args.r.segment) (place_of c.args.at.now) c.args.m in
    let result : Result (Unit {0}) SinkFailed = Err c.in-Err.failed in
    let Out : List Line → Type 0 = gone_out result (g.S.Sink.bytes c.args.out.now) (g.S.Sink.bytes c.call.new.out)
    (g.S.Sink.pieces c.args.out.now) (g.S.Sink.pieces c.call.new.out) (g.S.Sink.faults c.args.out.now) (g.S.Sink.faults c.call.new.out) in
    goes (g.H.ObjectStore.content c.args.heap.now) (g.F.SegmentFrames.content c.args.frames.now) c.args.own.now c.args.w.now
    c.args.shared.now c.args.r (place_of c.args.at.now) c.requires.stands c.args.m c.requires.calls
    (g.H.ObjectStore.content c.call.new.heap) (g.F.SegmentFrames.content c.call.new.frames) c.call.new.shared Out
    _ (c.in-Err.ensures.err c.args.own.now) (g.F.SegmentFrames.content c.go-in-Err.new.self) c.go-in-Err.ensures
