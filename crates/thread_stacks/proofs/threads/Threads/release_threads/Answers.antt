-- The threads that live still have room.
use Rattle.std.proofs.Common.{◌+◌, ◌≤◌, length, subst, sym, arith}
use Rattle.thread_stacks.specs.Stacks.{ThreadList}
use Rattle.thread_stacks.proofs.CountedAlive.{count_threads}
use Rattle.thread_stacks.proofs.threads.Threads.release_threads.Goals as goal

pub invariant_of-self : goal.invariant_of-self
invariant_of-self c =
    let t = c.self.inside in
    let inv = c.self.invariant in
    let P : ThreadList → Type 0 = λ x. length x.threads + c.args.fewer ≤ x.most in
    let room = subst P (sym c.self.view_is) c.requires in (
      inv.0,
      inv.1,
      record {
        counted = inv.2.counted;
        within = omega (arith, inv.2.counted, count_threads t.slots.items t.entries.items inv.1.tops, room);
        marks = inv.2.marks;
        room = omega (arith, inv.2.room);
      },
      inv.3,
      inv.4,
      inv.5,
    )
