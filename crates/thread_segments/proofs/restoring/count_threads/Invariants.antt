-- Those so far are counted.
use Rattle.std.proofs.Common.{take}
use Rattle.thread_segments.specs.RestoredParts.{AreCountedUp, more_threads, thread_home}
use Rattle.thread_segments.proofs.restoring.count_threads.Given as goal

abbrev pub invariant-loop-thread : goal.invariant-loop-thread
invariant-loop-thread l = AreCountedUp thread_home more_threads l.fn.domains.items l.domains.items (take l.thread-index l.threads)
