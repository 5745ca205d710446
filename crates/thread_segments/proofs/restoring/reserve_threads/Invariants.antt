-- There is room for what the domains so far ask for.
use Rattle.std.proofs.Common.{◌≡◌, take}
use Rattle.thread_segments.specs.RestoredParts.{with_thread_room}
use Rattle.thread_segments.proofs.restoring.reserve_threads.Given as goal

abbrev pub invariant-loop-domain : goal.invariant-loop-domain
invariant-loop-domain l = l.threads ≡ with_thread_room (take l.domain-index l.domains) l.fn.threads
