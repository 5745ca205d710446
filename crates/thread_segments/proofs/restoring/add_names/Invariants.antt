-- The names so far are bound.
use Rattle.std.proofs.Common.{◌≡◌, take}
use Rattle.thread_segments.specs.RestoredParts.{with_names}
use Rattle.thread_segments.proofs.restoring.add_names.Given as goal

abbrev pub invariant-loop-part : goal.invariant-loop-part
invariant-loop-part l = l.names ≡ with_names (take l.part-index l.parts) l.fn.names
