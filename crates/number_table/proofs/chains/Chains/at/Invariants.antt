-- The walk stays on the stack, at or above the position.
use Rattle.std.proofs.Common.{◌≡◌, ◌<◌, ◌≤◌, length}
use Rattle.number_table.specs.Chains.{node_at}
use Rattle.number_table.proofs.chains.Chains.at.Given as goal

abbrev pub invariant-loop-number : goal.invariant-loop-number
invariant-loop-number l =
    (l.number < length l.self.nodes.items) × ((node_at l.self.nodes.items l.number).stack ≡ l.stack)
    × (l.position ≤ (node_at l.self.nodes.items l.number).position)

abbrev pub decreases-loop-number : goal.decreases-loop-number
decreases-loop-number l = (node_at l.self.nodes.items l.number).position
