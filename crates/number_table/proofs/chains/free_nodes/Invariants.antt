-- So many nodes are made.
use Rattle.std.proofs.Common.{◌≡◌, vec_capacity}
use Rattle.number_table.specs.Chains.{AreFree}
use Rattle.number_table.proofs.chains.free_nodes.Given as goal

abbrev pub invariant-loop-position : goal.invariant-loop-position
invariant-loop-position l = AreFree l.nodes.items l.position l.stack × (vec_capacity l.nodes ≡ l.count)
