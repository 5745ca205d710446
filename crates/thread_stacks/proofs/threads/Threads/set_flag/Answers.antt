-- A flag of one segment is changed, and nothing that is counted.
use Rattle.std.proofs.Common.{refl}
use Rattle.thread_stacks.proofs.EndingsListed.{none_listed}
use Rattle.thread_stacks.proofs.FlagsOfSegments.{flags_kept, owned_flagged, room_flagged}
use Rattle.thread_stacks.proofs.threads.Threads.set_flag.Goals as goal

pub set_flag_among-requires : goal.set_flag_among-requires
set_flag_among-requires c = c.self.invariant.0.segments

pub invariant_of-self : goal.invariant_of-self
invariant_of-self c =
    let t = c.self.inside in
    let e = c.set_flag_among.ensures in
    let f =
    flags_kept t.slots.items t.entries.items t.next_thread t.next_segment c.args.s c.args.flag c.args.on c.set_flag_among.new.slots.items
    c.self.invariant.0 c.self.invariant.1 e.flagged in (
      f.order,
      f.links,
      c.self.invariant.2,
      room_flagged t.slots.items c.set_flag_among.new.slots.items c.args.s.0 t.live_segments t.most_segments _ _ c.args.flag c.args.on e.flagged
          c.self.invariant.3 e.capacity,
      owned_flagged t.slots.items t.newest.items c.args.s c.args.flag c.args.on c.set_flag_among.new.slots.items c.self.invariant.0.segments
          c.self.invariant.4 e.flagged,
      none_listed _ _ _ _ _ c.self.invariant.5.room,
    )

pub returns : goal.returns
returns c =
    let t = c.self.inside in
    let f =
    flags_kept t.slots.items t.entries.items t.next_thread t.next_segment c.args.s c.args.flag c.args.on c.set_flag_among.new.slots.items
    c.self.invariant.0 c.self.invariant.1 c.set_flag_among.ensures.flagged in
    rw (← c.self.view_is, f.threads) refl
