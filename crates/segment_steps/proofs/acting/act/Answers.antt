-- By what the thread met.
use Rattle.std.proofs.Common.{List, Result, Ok}
use Rattle.jk_model.specs.declared.output.Line.{Line}
use Rattle.jk_outside.specs.declared.sinks.SinkFailed.{SinkFailed}
use Rattle.exception_unwind.proofs.KnownDomains.{some_setting}
use Rattle.step_contents.specs.Contents.{Contents, Here, LeftBehind, contents_of, here_at, left_behind}
use Rattle.segment_steps.proofs.ActingAlone.{acts_alone, gone_out, on_err_so, on_ok_so, prints_none, went_badly, went_well}
use Rattle.segment_steps.proofs.acting.act.Goals as goal

pub returns-in-Some-clause-ok : goal.returns-in-Some-clause-ok
returns-in-Some-clause-ok g c =
    let old : Contents = contents_of (g.H.ObjectStore.content c.args.heap.now) (g.F.SegmentFrames.content c.args.frames.now) c.args.own.now in
    let new : Contents = contents_of (g.H.ObjectStore.content c.touch.new.heap) (g.F.SegmentFrames.content c.touch.new.frames) c.touch.new.own in
    let here : Here = here_at c.args.w.now c.args.shared.now c.args.r.domain c.args.r.segment in
    let result : Result (Unit {0}) SinkFailed = Ok tt in
    let Out : List Line → Type 0 = gone_out result (g.S.Sink.bytes c.args.out.now) (g.S.Sink.bytes c.args.out.now) (g.S.Sink.pieces c.args.out.now)
    (g.S.Sink.pieces c.args.out.now) (g.S.Sink.faults c.args.out.now) (g.S.Sink.faults c.args.out.now) in
    acts_alone old new here c.args.r.thread c.touch.result Out (c.touch.ensures c.args.shared.now)
    (prints_none (g.S.Sink.bytes c.args.out.now) (g.S.Sink.pieces c.args.out.now) (g.S.Sink.faults c.args.out.now)
    (g.met.S.Sink.faults_fit c.args.out.now))

pub returns-in-Broken-clause-ok : goal.returns-in-Broken-clause-ok
returns-in-Broken-clause-ok g c =
    let old : Contents = contents_of (g.H.ObjectStore.content c.args.heap.now) (g.F.SegmentFrames.content c.args.frames.now) c.args.own.now in
    let new : Contents = contents_of (g.H.ObjectStore.content c.meet_broken.new.heap) (g.F.SegmentFrames.content c.meet_broken.new.frames)
    c.meet_broken.new.own in
    let here : Here = here_at c.args.w.now c.args.shared.now c.args.r.domain c.args.r.segment in
    let result : Result (Unit {0}) SinkFailed = Ok tt in
    let Out : List Line → Type 0 = gone_out result (g.S.Sink.bytes c.args.out.now) (g.S.Sink.bytes c.args.out.now) (g.S.Sink.pieces c.args.out.now)
    (g.S.Sink.pieces c.args.out.now) (g.S.Sink.faults c.args.out.now) (g.S.Sink.faults c.args.out.now) in
    acts_alone old new here c.args.r.thread c.meet_broken.result Out (c.meet_broken.ensures c.args.shared.now)
    (prints_none (g.S.Sink.bytes c.args.out.now) (g.S.Sink.pieces c.args.out.now) (g.S.Sink.faults c.args.out.now)
    (g.met.S.Sink.faults_fit c.args.out.now))

pub returns-in-Ready-clause-ok : goal.returns-in-Ready-clause-ok
returns-in-Ready-clause-ok g c =
    let old : Contents = contents_of (g.H.ObjectStore.content c.args.heap.now) (g.F.SegmentFrames.content c.args.frames.now) c.args.own.now in
    let here : Here = here_at c.args.w.now c.args.shared.now c.args.r.domain c.args.r.segment in
    let left : LeftBehind = left_behind
    (contents_of (g.H.ObjectStore.content c.go_on.new.heap) (g.F.SegmentFrames.content c.go_on.new.frames) c.go_on.new.own) c.go_on.new.shared in
    went_well old here c.args.r.thread left c.go_on.result _ c.go_on.ensures

pub returns-in-Ready-clause-err : goal.returns-in-Ready-clause-err
returns-in-Ready-clause-err g c =
    let old : Contents = contents_of (g.H.ObjectStore.content c.args.heap.now) (g.F.SegmentFrames.content c.args.frames.now) c.args.own.now in
    let here : Here = here_at c.args.w.now c.args.shared.now c.args.r.domain c.args.r.segment in
    let left : LeftBehind = left_behind
    (contents_of (g.H.ObjectStore.content c.go_on.new.heap) (g.F.SegmentFrames.content c.go_on.new.frames) c.go_on.new.own) c.go_on.new.shared in
    went_badly old here c.args.r.thread left c.go_on.result _ c.go_on.ensures

pub returns-in-Ready-clause-cause : goal.returns-in-Ready-clause-cause
returns-in-Ready-clause-cause g c =
    let old : Contents = contents_of (g.H.ObjectStore.content c.args.heap.now) (g.F.SegmentFrames.content c.args.frames.now) c.args.own.now in
    let here : Here = here_at c.args.w.now c.args.shared.now c.args.r.domain c.args.r.segment in
    let is = some_setting old here c.requires.may.domain in
    let lines = (c.go_on.ensures is.0 c.requires.may is.1).2 in
    on_err_so _ c.go_on.result lines.cause

pub returns-in-Ready-clause-calm : goal.returns-in-Ready-clause-calm
returns-in-Ready-clause-calm g c =
    let old : Contents = contents_of (g.H.ObjectStore.content c.args.heap.now) (g.F.SegmentFrames.content c.args.frames.now) c.args.own.now in
    let here : Here = here_at c.args.w.now c.args.shared.now c.args.r.domain c.args.r.segment in
    let is = some_setting old here c.requires.may.domain in
    let lines = (c.go_on.ensures is.0 c.requires.may is.1).2 in
    on_ok_so _ c.go_on.result lines.calm

pub returns-in-Ready-clause-faults : goal.returns-in-Ready-clause-faults
returns-in-Ready-clause-faults g c =
    let old : Contents = contents_of (g.H.ObjectStore.content c.args.heap.now) (g.F.SegmentFrames.content c.args.frames.now) c.args.own.now in
    let here : Here = here_at c.args.w.now c.args.shared.now c.args.r.domain c.args.r.segment in
    let is = some_setting old here c.requires.may.domain in
    let lines = (c.go_on.ensures is.0 c.requires.may is.1).2 in
    lines.faults
