-- The segments that live still have room.
use Rattle.std.proofs.Common.{◌+◌, ◌≤◌, length, subst, sym, arith}
use Rattle.thread_stacks.specs.StackAnswers.{segments_in}
use Rattle.thread_stacks.specs.Stacks.{ThreadList}
use Rattle.thread_stacks.proofs.CountedAlive.{count_segments}
use Rattle.thread_stacks.proofs.threads.Threads.release_segments.Goals as goal

pub invariant_of-self : goal.invariant_of-self
invariant_of-self c =
    let t = c.self.inside in
    let inv = c.self.invariant in
    let P : ThreadList → Type 0 = λ x. length (segments_in x.threads) + c.args.fewer ≤ x.most_segments in
    let room = subst P (sym c.self.view_is) c.requires in (
      inv.0,
      inv.1,
      inv.2,
      record {
        counted = inv.3.counted;
        within = omega (arith, inv.3.counted, count_segments t.slots.items t.entries.items t.next_thread t.next_segment inv.0, room);
        marks = inv.3.marks;
        room = omega (arith, inv.3.room);
      },
      inv.4,
      record { endings = inv.5.endings; room = omega (arith, inv.5.room) },
    )
