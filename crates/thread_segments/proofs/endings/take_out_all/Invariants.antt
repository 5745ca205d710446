-- What the end leaves is the same, and domains are counted as they are now.
use Rattle.std.proofs.Common.{length}
use Rattle.thread_stacks.specs.StackAnswers.{segments_in}
use Rattle.thread_segments.proofs.ThreadsTakenOut.{AreEnding}
use Rattle.thread_segments.proofs.endings.take_out_all.Given as goal

abbrev pub invariant-loop-taken : goal.invariant-loop-taken
invariant-loop-taken l = AreEnding l.d l.initial.domains.items l.domains.items l.initial.threads l.threads

abbrev pub decreases-loop-taken : goal.decreases-loop-taken
decreases-loop-taken l = length (segments_in l.threads.threads)
