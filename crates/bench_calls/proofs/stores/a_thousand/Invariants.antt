use Rattle.extent_map.specs.MapState.{AreSame}
use Rattle.bench_calls.proofs.stores.a_thousand.Given as goal

abbrev pub invariant-loop : goal.invariant-loop
invariant-loop l = AreSame l.map.out l.fn.map.out
