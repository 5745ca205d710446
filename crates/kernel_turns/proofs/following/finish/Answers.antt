-- Nothing follows where the sink failed.
use Rattle.std.proofs.Common.{List, [], Result, Err, append-nil, refl, sym, subst}
use Rattle.jk_model.specs.declared.output.Line.{Line}
use Rattle.jk_outside.specs.declared.sinks.SinkFailed.{SinkFailed}
use Rattle.kernel_events.specs.PrintedLines.{Prints}
use Rattle.segment_steps.specs.StepsAlone.{went_so}
use Rattle.segment_steps.specs.declared.went.Went.{Went}
use Rattle.system_calls.specs.SystemSteps.{printed}
use Rattle.kernel_parts.specs.SoundKernels.{KernelContent}
use Rattle.kernel_turns.specs.SteppedParts.{Follows}
use Rattle.kernel_turns.specs.StepsOfThreads.{content_of, sink_state}
use Rattle.kernel_turns.proofs.following.finish.Goals as goal

pub returns-in-Err : goal.returns-in-Err
returns-in-Err g c = (
  [],
  λ from before h.
      subst
      (λ (ls : List Line). Prints {E = SinkFailed} from
      (sink_state (g.S.Sink.bytes c.args.out.now) (g.S.Sink.pieces c.args.out.now) (g.S.Sink.faults c.args.out.now)) (Err c.in-Err.e) ls)
      (sym (append-nil before))
      (subst
      (λ (r : Result Went SinkFailed). Prints from
      (sink_state (g.S.Sink.bytes c.args.out.now) (g.S.Sink.pieces c.args.out.now) (g.S.Sink.faults c.args.out.now)) (printed r) before)
      c.in-Err.is h),
  λ main may.
      let k : KernelContent = content_of c.args.w.now c.args.owns.now.items c.args.shared.now (g.H.ObjectStore.content c.args.heap.now)
      (g.F.SegmentFrames.content c.args.frames.now) main in
      subst (λ (r : Result Went SinkFailed). Follows k c.args.r.thread (went_so r) [] k) (sym c.in-Err.is) (refl, refl),
)
