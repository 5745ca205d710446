-- What is pending is raised, and else the segment acts.
use Rattle.std.proofs.Common.{[]}
use Rattle.kernel_turns.specs.StepsOfThreads.{sink_state}
use Rattle.domain_ends.proofs.PrintedLines.{printed_none}
use Rattle.kernel_turns.proofs.stepping.begin.Goals as goal

pub returns-then-running : goal.returns-then-running
returns-then-running g c = λ main ready. (
  [],
  printed_none (sink_state (g.S.Sink.bytes c.args.out.now) (g.S.Sink.pieces c.args.out.now) (g.S.Sink.faults c.args.out.now))
      (g.met.S.Sink.faults_fit c.args.out.now),
  c.raise_pending.ensures main ready,
)
