-- The threads up to a number have been told, and what came of their lines follows what came of those before.
use Rattle.std.proofs.Common.{◌-◌, ◌++◌, List}
use Rattle.jk_model.specs.declared.output.Line.{Line}
use Rattle.kernel_events.specs.PrintedLines.{Prints, SinkState, sink}
use Rattle.domain_ends.specs.EndingLines.{lines_of_threads}
use Rattle.domain_ends.proofs.ThreadsTold.{ToldUpTo}
use Rattle.domain_ends.proofs.lines.tell_ended.Given as goal

abbrev pub invariant-loop-thread : goal.invariant-loop-thread
invariant-loop-thread g l =
    (upto : ToldUpTo l.fn.d l.fn.shared l.above)
    × ((from : SinkState) (before : List Line)
    → Prints from (sink (g.S.Sink.bytes l.fn.out) (g.S.Sink.pieces l.fn.out) (g.S.Sink.faults l.fn.out)) l.fn.so_far before
    → Prints from (sink (g.S.Sink.bytes l.out) (g.S.Sink.pieces l.out) (g.S.Sink.faults l.out)) l.told (before ++ lines_of_threads upto.front))

abbrev pub decreases-loop-thread : goal.decreases-loop-thread
decreases-loop-thread g l = l.fn.shared.next_thread - l.above
