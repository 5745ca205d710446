-- Those so far are counted.
use Rattle.std.proofs.Common.{take}
use Rattle.thread_segments.specs.RestoredParts.{AreCountedUp, more_names, name_home}
use Rattle.thread_segments.proofs.restoring.count_names.Given as goal

abbrev pub invariant-loop-name : goal.invariant-loop-name
invariant-loop-name l = AreCountedUp name_home more_names l.fn.domains.items l.domains.items (take l.name-index l.names)
