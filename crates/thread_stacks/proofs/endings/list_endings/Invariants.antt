-- The threads of the segments that were looked at are listed where they end, and the slots of the other segments stand before.
use Rattle.std.proofs.Common.{◌≡◌, ◌≤◌, length, vec_capacity}
use Rattle.thread_stacks.proofs.EndingsListed.{IsListing, StandsBefore}
use Rattle.thread_stacks.proofs.StacksWalked.{to_walk}
use Rattle.thread_stacks.proofs.endings.list_endings.Given as goal

abbrev pub invariant-loop-next : goal.invariant-loop-next
invariant-loop-next l = record {
  listing : IsListing l.entries l.slots l.d l.next l.listed.items;
  capacity : vec_capacity l.listed ≡ vec_capacity l.fn.listed;
  within : l.end ≤ length l.slots;
  before : StandsBefore l.slots l.end l.next;
}

abbrev pub decreases-loop-next : goal.decreases-loop-next
decreases-loop-next l = to_walk l.next
