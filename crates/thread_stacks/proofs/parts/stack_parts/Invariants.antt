-- What was looked at is listed, and the rest is below.
use Rattle.thread_stacks.proofs.StacksListed.{IsListed}
use Rattle.thread_stacks.proofs.StacksWalked.{to_walk}
use Rattle.thread_stacks.proofs.parts.stack_parts.Given as goal

abbrev pub invariant-loop-next : goal.invariant-loop-next
invariant-loop-next l = IsListed l.slots l.fn.entry.number l.next l.parts.items

abbrev pub decreases-loop-next : goal.decreases-loop-next
decreases-loop-next l = to_walk l.next
