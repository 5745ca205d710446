-- The threads so far are counted.
use Rattle.std.proofs.Common.{◌≡◌, take}
use Rattle.thread_check.specs.AskedOfParts.{count_in}
use Rattle.thread_check.proofs.asking.counted_in.Given as goal

abbrev pub invariant-loop-thread : goal.invariant-loop-thread
invariant-loop-thread l = l.count ≡ count_in (take l.thread-index l.threads) l.d
