-- A sort by number leaves the numbers in order.
use Rattle.std.proofs.Common.{rules}
use Rattle.std.proofs.lemmas.List.Sorted.{IsNonDecreasingBy-from_sort_by_key}
use Rattle.thread_stacks.specs.LiveStacks.{placed_key}
use Rattle.thread_stacks.proofs.restoring.placed_in_order.Goals as goal

pub returns-clause-order : goal.returns-clause-order
returns-clause-order c = IsNonDecreasingBy-from_sort_by_key placed_key _ c.in_ok-sort_by_key.ensures.sorted (λ a r q k. search rules)
