-- So many stacks are made.
use Rattle.std.proofs.Common.{◌≡◌, ◌+◌, ◌<◌, ℕ, length, vec_capacity}
use Rattle.number_table.specs.Chains.{stack_at, no_stack}
use Rattle.number_table.proofs.chains.one_stack.Given as goal

abbrev pub invariant-loop : goal.invariant-loop
invariant-loop l =
    (length l.stacks.items ≡ l.counter) × ((i : ℕ) → i < l.counter → stack_at l.stacks.items i ≡ no_stack)
    × (vec_capacity l.stacks ≡ l.last + 1)
