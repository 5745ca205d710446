-- Those of the numbers so far are listed.
use Rattle.std.proofs.Common.{◌≡◌}
use Rattle.std.specs.List.{flat_map}
use Rattle.thread_segments.specs.StateParts.{part_at}
use Rattle.thread_segments.proofs.PartsByNumber.{numbers_from}
use Rattle.thread_segments.proofs.capabilities.Capabilities.parts.Given as goal

abbrev pub invariant-loop-place : goal.invariant-loop-place
invariant-loop-place l = l.parts ≡ flat_map (part_at l.self) (numbers_from 1 l.place)
