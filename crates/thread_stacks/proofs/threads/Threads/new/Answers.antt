-- There are no entries and no slots.
use Rattle.std.proofs.Common.{arith, refl}
use Rattle.thread_stacks.specs.Stacks.{is_live, is_running}
use Rattle.thread_stacks.proofs.CountedAlive.{no_room}
use Rattle.thread_stacks.proofs.EndingsListed.{none_listed}
use Rattle.thread_stacks.proofs.Owned.{no_owned}
use Rattle.thread_stacks.proofs.PushedAndPopped.{no_links, no_order}
use Rattle.thread_stacks.proofs.threads.Threads.new.Goals as goal

pub invariant_of-result : goal.invariant_of-result
invariant_of-result c = (
  no_order c.new-2.result.items c.new.result.items 1 1 c.new-2.ensures.items c.new.ensures.items,
  no_links c.new-2.result.items c.new.result.items c.new-2.ensures.items c.new.ensures.items,
  no_room is_running c.new.result.items 0 _ c.new.ensures.items refl,
  no_room is_live c.new-2.result.items 0 _ c.new-2.ensures.items refl,
  no_owned c.new-2.result.items c.new-3.result.items c.new-2.ensures.items c.new-3.ensures.items,
  none_listed _ _ _ _ _ (omega arith),
)
