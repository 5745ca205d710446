-- The events of the first domains were put.
use Rattle.std.proofs.Common.{◌≡◌, ◌≤◌, ◌++◌, map}
use Rattle.std.specs.List.{range_with_len}
use Rattle.ring_demo.specs.DemoEvents.{main_starts}
use Rattle.ring_demo.proofs.events.push_mains.Given as goal

abbrev pub invariant-loop-domain : goal.invariant-loop-domain
invariant-loop-domain l = record {
  so_far : l.events ≡ l.fn.events ++ map (main_starts l.domains) (range_with_len 0 l.domain);
  within : l.domain ≤ l.domains;
}
