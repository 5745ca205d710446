use Rattle.extent_map.specs.MapState.{AreSame}
use Rattle.bench_calls.proofs.stores.make_runs.Given as goal

abbrev pub invariant-loop : goal.invariant-loop
invariant-loop l = AreSame l.map.out l.out.items

abbrev pub invariant-loop-place : goal.invariant-loop-place
invariant-loop-place l = AreSame l.map.out l.out.items
