-- What was looked at is of the domain, and the rest is below.
use Rattle.thread_stacks.proofs.StacksWalked.{IsOurs, to_walk}
use Rattle.thread_stacks.proofs.endings.has_only.Given as goal

abbrev pub invariant-loop-next : goal.invariant-loop-next
invariant-loop-next l = IsOurs l.slots l.entry.number l.d l.next

abbrev pub decreases-loop-next : goal.decreases-loop-next
decreases-loop-next l = to_walk l.next
