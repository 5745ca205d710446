-- There is memory for twice as many as may live.
use Rattle.std.proofs.Common.{arith, rules}
use Rattle.thread_stacks.proofs.EndingsListed.{none_listed}
use Rattle.thread_stacks.proofs.Owned.{owned_more}
use Rattle.thread_stacks.proofs.threads.Threads.reserve.Goals as goal

pub overflow_add-most : goal.overflow_add-most
overflow_add-most c = omega (arith, c.self.invariant.2.room, c.self.inside.entries.small)

pub overflow_add-most_segments : goal.overflow_add-most_segments
overflow_add-most_segments c = omega (arith, c.self.invariant.3.room, c.self.inside.slots.small)

pub invariant_of-self-2 : goal.invariant_of-self-2
invariant_of-self-2 c =
    let t = c.self.inside in
    let inv = c.self.invariant in
    rw (c.reserve-2.ensures.items, c.reserve.ensures.items, c.push_reserved.ensures.items, c.reserve-4.ensures.items) (
      inv.0,
      inv.1,
      record {
        counted = inv.2.counted;
        within = omega (arith, inv.2.within);
        marks = inv.2.marks;
        room = search rules;
      },
      record {
        counted = inv.3.counted;
        within = omega (arith, inv.3.within);
        marks = inv.3.marks;
        room = search rules;
      },
      owned_more t.slots.items t.newest.items inv.4,
      none_listed _ _ _ _ _ (search rules),
    )
