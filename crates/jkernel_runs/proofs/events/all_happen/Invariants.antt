-- The events so far were run, their text went out, and this is what they asked for.
use Rattle.std.proofs.Common.{◌≡◌, ◌+◌, ◌*◌, ◌≤◌, length}
use Rattle.std.specs.Prelude.{IsSome}
use Rattle.jk_model.specs.Outside.{NeverFalls}
use Rattle.kernel_events.specs.PrintedLines.{sink}
use Rattle.jkernel_runs.specs.DomainEvents.{OpensFolder}
use Rattle.jkernel_runs.specs.DrawnNumbers.{MOST_DRAWN}
use Rattle.jkernel_runs.specs.Events.{moment}
use Rattle.jkernel_runs.proofs.EventsInTurn.{RunsSoFar}
use Rattle.jkernel_runs.proofs.events.all_happen.Given as goal

abbrev pub invariant-loop-event : goal.invariant-loop-event
invariant-loop-event g l = record {
  run : RunsSoFar (g.F.Files.tree l.fn.files) l.root (OpensFolder (g.F.Files.tree l.fn.files) l.root) l.events l.event-index l.kernel
      (moment (sink (g.S.Sink.bytes l.fn.out) (g.S.Sink.pieces l.fn.out) (g.S.Sink.faults l.fn.out)) (g.F.Files.asked l.fn.files) (g.F.Files.faults l.fn.files))
      (moment (sink (g.S.Sink.bytes l.out) (g.S.Sink.pieces l.out) (g.S.Sink.faults l.out)) (g.F.Files.asked l.files) (g.F.Files.faults l.files));
  within : l.event-index ≤ length l.events;
  threads : l.kernel.next_thread ≤ l.event-index + 1;
  segments : l.kernel.next_segment ≤ 1 + l.event-index * MOST_DRAWN;
  stays : g.F.Files.tree l.files ≡ g.F.Files.tree l.fn.files;
  calm : IsSome (g.F.Files.tree l.fn.files) → g.F.Files.faults l.files ≡ g.F.Files.faults l.fn.files;
  files_faults : NeverFalls (g.F.Files.faults l.fn.files) (g.F.Files.faults l.files);
  calm_out : g.S.Sink.faults l.out ≡ g.S.Sink.faults l.fn.out;
  faults : NeverFalls (g.S.Sink.faults l.fn.out) (g.S.Sink.faults l.out);
}
