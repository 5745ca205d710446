-- By the kind of the instruction.
use Rattle.std.proofs.Common.{List, Result, Ok}
use Rattle.jk_model.specs.declared.output.Line.{Line}
use Rattle.jk_outside.specs.declared.sinks.SinkFailed.{SinkFailed}
use Rattle.step_contents.specs.Contents.{Contents, Here, contents_of, here_at}
use Rattle.step_contents.specs.StandingFrames.{place_of}
use Rattle.segment_steps.proofs.ActingAlone.{acts_alone, gone_out, prints_none}
use Rattle.segment_steps.proofs.CallsMoved.{acts_as_before, calls_it_still, may_still_act, stands_ready_still}
use Rattle.segment_steps.proofs.NumbersBegin.{has_row}
use Rattle.segment_steps.proofs.StandingHere.{may_do}
use Rattle.segment_steps.proofs.instructions.execute.Goals as goal

pub kind_of-requires : goal.kind_of-requires
kind_of-requires g c =
    let old : Contents = contents_of (g.H.ObjectStore.content c.args.heap.now) (g.F.SegmentFrames.content c.args.frames.now) c.args.own.now in
    has_row (may_do old c.args.w.now c.args.shared.now c.args.r (place_of c.args.at.now) c.requires.stands c.requires.may)

pub call_system-requires-clause-may : goal.call_system-requires-clause-may
call_system-requires-clause-may g c =
    let old : Contents = contents_of (g.H.ObjectStore.content c.args.heap.now) (g.F.SegmentFrames.content c.args.frames.now) c.args.own.now in
    let new : Contents = contents_of (g.H.ObjectStore.content c.do_call.new.heap) (g.F.SegmentFrames.content c.do_call.new.frames) c.do_call.new.own in
    let here : Here = here_at c.args.w.now c.args.shared.now c.args.r.domain c.args.r.segment in
    let left = c.in-OfSystem.ensures c.args.shared.now in
    may_still_act old new here (place_of c.args.at.now) c.in-OfSystem.m left c.requires.may

pub call_system-requires-clause-stands : goal.call_system-requires-clause-stands
call_system-requires-clause-stands g c =
    let old : Contents = contents_of (g.H.ObjectStore.content c.args.heap.now) (g.F.SegmentFrames.content c.args.frames.now) c.args.own.now in
    let new : Contents = contents_of (g.H.ObjectStore.content c.do_call.new.heap) (g.F.SegmentFrames.content c.do_call.new.frames) c.do_call.new.own in
    let here : Here = here_at c.args.w.now c.args.shared.now c.args.r.domain c.args.r.segment in
    let left = c.in-OfSystem.ensures c.args.shared.now in
    stands_ready_still old new here (place_of c.args.at.now) c.in-OfSystem.m left c.args.r c.requires.stands

pub call_system-requires-clause-calls : goal.call_system-requires-clause-calls
call_system-requires-clause-calls g c =
    let old : Contents = contents_of (g.H.ObjectStore.content c.args.heap.now) (g.F.SegmentFrames.content c.args.frames.now) c.args.own.now in
    let new : Contents = contents_of (g.H.ObjectStore.content c.do_call.new.heap) (g.F.SegmentFrames.content c.do_call.new.frames) c.do_call.new.own in
    let here : Here = here_at c.args.w.now c.args.shared.now c.args.r.domain c.args.r.segment in
    let left = c.in-OfSystem.ensures c.args.shared.now in
    calls_it_still old new here (place_of c.args.at.now) c.in-OfSystem.m left

pub returns-in-Numbers : goal.returns-in-Numbers
returns-in-Numbers g c =
    let old : Contents = contents_of (g.H.ObjectStore.content c.args.heap.now) (g.F.SegmentFrames.content c.args.frames.now) c.args.own.now in
    let new : Contents = contents_of (g.H.ObjectStore.content c.do_numbers.new.heap) (g.F.SegmentFrames.content c.do_numbers.new.frames) c.do_numbers.new.own in
    let here : Here = here_at c.args.w.now c.args.shared.now c.args.r.domain c.args.r.segment in
    let result : Result (Unit {0}) SinkFailed = Ok tt in
    let Out : List Line → Type 0 = gone_out result (g.S.Sink.bytes c.args.out.now) (g.S.Sink.bytes c.args.out.now) (g.S.Sink.pieces c.args.out.now)
    (g.S.Sink.pieces c.args.out.now) (g.S.Sink.faults c.args.out.now) (g.S.Sink.faults c.args.out.now) in
    acts_alone old new here c.args.r.thread c.do_numbers.result Out (c.do_numbers.ensures c.args.shared.now)
    (prints_none (g.S.Sink.bytes c.args.out.now) (g.S.Sink.pieces c.args.out.now) (g.S.Sink.faults c.args.out.now)
    (g.met.S.Sink.faults_fit c.args.out.now))

pub returns-in-Heap : goal.returns-in-Heap
returns-in-Heap g c =
    let old : Contents = contents_of (g.H.ObjectStore.content c.args.heap.now) (g.F.SegmentFrames.content c.args.frames.now) c.args.own.now in
    let new : Contents = contents_of (g.H.ObjectStore.content c.do_heap.new.heap) (g.F.SegmentFrames.content c.do_heap.new.frames) c.do_heap.new.own in
    let here : Here = here_at c.args.w.now c.args.shared.now c.args.r.domain c.args.r.segment in
    let result : Result (Unit {0}) SinkFailed = Ok tt in
    let Out : List Line → Type 0 = gone_out result (g.S.Sink.bytes c.args.out.now) (g.S.Sink.bytes c.args.out.now) (g.S.Sink.pieces c.args.out.now)
    (g.S.Sink.pieces c.args.out.now) (g.S.Sink.faults c.args.out.now) (g.S.Sink.faults c.args.out.now) in
    acts_alone old new here c.args.r.thread c.do_heap.result Out c.do_heap.ensures
    (prints_none (g.S.Sink.bytes c.args.out.now) (g.S.Sink.pieces c.args.out.now) (g.S.Sink.faults c.args.out.now)
    (g.met.S.Sink.faults_fit c.args.out.now))

pub returns-in-Went : goal.returns-in-Went
returns-in-Went g c =
    let old : Contents = contents_of (g.H.ObjectStore.content c.args.heap.now) (g.F.SegmentFrames.content c.args.frames.now) c.args.own.now in
    let new : Contents = contents_of (g.H.ObjectStore.content c.do_call.new.heap) (g.F.SegmentFrames.content c.do_call.new.frames) c.do_call.new.own in
    let here : Here = here_at c.args.w.now c.args.shared.now c.args.r.domain c.args.r.segment in
    let result : Result (Unit {0}) SinkFailed = Ok tt in
    let Out : List Line → Type 0 = gone_out result (g.S.Sink.bytes c.args.out.now) (g.S.Sink.bytes c.args.out.now) (g.S.Sink.pieces c.args.out.now)
    (g.S.Sink.pieces c.args.out.now) (g.S.Sink.faults c.args.out.now) (g.S.Sink.faults c.args.out.now) in
    acts_alone old new here c.args.r.thread c.in-Went.went Out (c.in-Went.ensures c.args.shared.now)
    (prints_none (g.S.Sink.bytes c.args.out.now) (g.S.Sink.pieces c.args.out.now) (g.S.Sink.faults c.args.out.now)
    (g.met.S.Sink.faults_fit c.args.out.now))

pub returns-in-OfSystem : goal.returns-in-OfSystem
returns-in-OfSystem g c =
    let old : Contents = contents_of (g.H.ObjectStore.content c.args.heap.now) (g.F.SegmentFrames.content c.args.frames.now) c.args.own.now in
    let new : Contents = contents_of (g.H.ObjectStore.content c.do_call.new.heap) (g.F.SegmentFrames.content c.do_call.new.frames) c.do_call.new.own in
    let here : Here = here_at c.args.w.now c.args.shared.now c.args.r.domain c.args.r.segment in
    let left = c.in-OfSystem.ensures c.args.shared.now in
    acts_as_before old new here (place_of c.args.at.now) c.in-OfSystem.m left c.args.r.thread _ _ _ c.call_system.ensures
