-- The lists say that it has room, and which numbers come next.
use Rattle.std.proofs.Common.{arith}
use Rattle.thread_check.proofs.ToldByParts.{live_told, live_with_room, room_told}
use Rattle.thread_check.proofs.asking.expect_room.Goals as goal

pub returns-clause-live : goal.returns-clause-live
returns-clause-live c =
    live_told c.args.shared.now c.in_ok-parts.parts c.in_ok-parts.ensures c.is_sound.ensures.numbered c.args.d
    (live_with_room c.in_ok-parts.parts c.args.d (c.has_room.ensures c.if-not-has_room.false))

pub returns-clause-room : goal.returns-clause-room
returns-clause-room c =
    room_told c.args.shared.now c.in_ok-parts.parts c.in_ok-parts.ensures c.is_sound.ensures.numbered c.args.d
    (c.has_room.ensures c.if-not-has_room.false)

pub returns-clause-thread : goal.returns-clause-thread
returns-clause-thread c =
    let room = c.has_room.ensures c.if-not-has_room.false in
    omega (arith, room.thread, c.in_ok-parts.ensures.next_thread)

pub returns-clause-segment : goal.returns-clause-segment
returns-clause-segment c =
    let room = c.has_room.ensures c.if-not-has_room.false in
    omega (arith, room.segment, c.in_ok-parts.ensures.next_segment)
