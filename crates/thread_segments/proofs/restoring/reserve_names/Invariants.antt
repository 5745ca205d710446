-- There is room for what the domains so far ask for.
use Rattle.std.proofs.Common.{◌≡◌, take}
use Rattle.thread_segments.specs.RestoredParts.{with_name_room}
use Rattle.thread_segments.proofs.restoring.reserve_names.Given as goal

abbrev pub invariant-loop-domain : goal.invariant-loop-domain
invariant-loop-domain l = l.names ≡ with_name_room (take l.domain-index l.domains) l.fn.names
