-- By whether the frame has a need.
use Rattle.std.proofs.Common.{List, Result, Ok, sym, ap, ◌∙◌}
use Rattle.jk_model.specs.declared.output.Line.{Line}
use Rattle.jk_outside.specs.declared.sinks.SinkFailed.{SinkFailed}
use Rattle.step_contents.specs.Contents.{Contents, Here, contents_of, here_at}
use Rattle.segment_steps.proofs.ActingAlone.{acts_alone, gone_out, prints_none}
use Rattle.jk_model.specs.declared.frames.FrameHead.{FrameHead}
use Rattle.step_contents.specs.StandingFrames.{place_of}
use Rattle.segment_steps.proofs.ChangesInTurn.{are_frames}
use Rattle.segment_steps.proofs.MeetingsKnown.{need_met, no_need, nowhere_met, place_met, stands_ready, stands_somewhere}
use Rattle.segment_steps.proofs.acting.go_on.Goals as goal

pub fall-requires-clause-ready : goal.fall-requires-clause-ready
fall-requires-clause-ready g c =
    need_met c.args.w.now.classes c.args.own.now.state c.args.r c.requires.met.0 c.args.met.now c.requires.met.2 c.requires.ready (sym c.if-is_some.ensures)

pub returns-then-is_some : goal.returns-then-is_some
returns-then-is_some g c =
    let old : Contents = contents_of (g.H.ObjectStore.content c.args.heap.now) (g.F.SegmentFrames.content c.args.frames.now) c.args.own.now in
    let new : Contents = contents_of (g.H.ObjectStore.content c.fall.new.heap) (g.F.SegmentFrames.content c.fall.new.frames) c.fall.new.own in
    let here : Here = here_at c.args.w.now c.args.shared.now c.args.r.domain c.args.r.segment in
    let result : Result (Unit {0}) SinkFailed = Ok tt in
    let Out : List Line → Type 0 = gone_out result (g.S.Sink.bytes c.args.out.now) (g.S.Sink.bytes c.args.out.now) (g.S.Sink.pieces c.args.out.now)
    (g.S.Sink.pieces c.args.out.now) (g.S.Sink.faults c.args.out.now) (g.S.Sink.faults c.args.out.now) in
    acts_alone old new here c.args.r.thread c.fall.result Out (c.fall.ensures c.args.shared.now)
    (prints_none (g.S.Sink.bytes c.args.out.now) (g.S.Sink.pieces c.args.out.now) (g.S.Sink.faults c.args.out.now)
    (g.met.S.Sink.faults_fit c.args.out.now))

pub execute-requires-clause-stands : goal.execute-requires-clause-stands
execute-requires-clause-stands g c =
    let place = place_met c.args.w.now.classes c.args.own.now.state c.args.r c.requires.met.0 c.args.met.now c.requires.met.2 c.in-Some.at c.in-Some.is in
    let none = ap (λ (h : FrameHead). h.need) (sym c.requires.met.2.head)
    ∙ no_need c.args.w.now.classes c.args.own.now.state c.args.r c.requires.met.0 c.args.met.now c.requires.met.2 c.args.met.now.head.need
    (sym c.if-is_some.ensures) in
    stands_ready c.args.w.now.classes c.args.own.now.state c.args.r c.requires.met.0 c.args.met.now c.requires.met.2
    c.requires.ready (g.F.SegmentFrames.content c.args.frames.now) c.requires.met.1 (place_of c.in-Some.at) place.0 place.1 none

pub unreachable-requires : goal.unreachable-requires
unreachable-requires g c =
    let old : Contents = contents_of (g.H.ObjectStore.content c.args.heap.now) (g.F.SegmentFrames.content c.args.frames.now) c.args.own.now in
    let here : Here = here_at c.args.w.now c.args.shared.now c.args.r.domain c.args.r.segment in
    let none = ap (λ (h : FrameHead). h.need) (sym c.requires.met.2.head)
    ∙ no_need c.args.w.now.classes c.args.own.now.state c.args.r c.requires.met.0 c.args.met.now c.requires.met.2 c.args.met.now.head.need
    (sym c.if-is_some.ensures) in
    let may = c.requires.may in
    let at = stands_somewhere c.args.w.now.classes may.run.inside.heap may.run.frames c.requires.met.1.lower c.requires.met.0
    (are_frames old here may.run may.holds c.requires.met.0 c.requires.met.1) may.sealed.frames.fit none in
    nowhere_met c.args.w.now.classes c.args.own.now.state c.args.r c.requires.met.0 c.args.met.now c.requires.met.2 c.in-None.is at.0 at.1 at.2
