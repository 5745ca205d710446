-- The nodes so far have no entry.
use Rattle.std.proofs.Common.{◌≡◌, [], map, replicate}
use Rattle.handler_cover.proofs.tree.bare_level.Given as goal

abbrev pub invariant-loop : goal.invariant-loop
invariant-loop l = map (λ node. node.items) l.level.items ≡ replicate l.counter []
