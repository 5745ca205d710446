-- By the handlers of the frame alone, and the frame at its handler.
use Rattle.exception_unwind.proofs.CaughtAtTop.{has_room_there, is_caught_here, is_name_there, stands_at_handler, tried_nowhere}
use Rattle.exception_unwind.proofs.catching.catch_here.Goals as goal

pub handler_in-requires-clause-name : goal.handler_in-requires-clause-name
handler_in-requires-clause-name g c =
    is_name_there (g.H.ObjectStore.content c.args.heap.now) (g.F.SegmentFrames.content c.args.frames.now) c.args.w.now c.args.d c.args.s c.args.thrown
    c.requires.throwable c.requires.top.0 c.requires.top.1 c.args.head.now c.requires.top.2 c.requires.may.0 c.requires.may.1 c.requires.may.2

pub handler_in-requires-clause-tried : goal.handler_in-requires-clause-tried
handler_in-requires-clause-tried g c =
    tried_nowhere (g.H.ObjectStore.content c.args.heap.now) (g.F.SegmentFrames.content c.args.frames.now) c.args.w.now c.args.d c.args.s c.args.thrown
    c.requires.throwable c.requires.top.0 c.requires.top.1 c.args.head.now c.requires.top.2 c.requires.may.0

pub catch-requires : goal.catch-requires
catch-requires g c =
    has_room_there (g.H.ObjectStore.content c.args.heap.now) (g.F.SegmentFrames.content c.args.frames.now) c.args.w.now c.args.d c.args.s c.args.thrown
    c.requires.throwable c.requires.top.0 c.requires.top.1 c.args.head.now c.requires.top.2 c.requires.may.0 c.requires.may.1 c.requires.may.2
    c.in_ok-handler.handler c.in_ok-handler.ensures.some

pub returns-clause-caught : goal.returns-clause-caught
returns-clause-caught g c =
    is_caught_here (g.H.ObjectStore.content c.args.heap.now) (g.F.SegmentFrames.content c.args.frames.now) c.args.w.now c.args.d c.args.s c.args.thrown
    c.requires.throwable c.requires.top.0 c.requires.top.1 c.args.head.now c.requires.top.2 (g.F.SegmentFrames.content c.catch.new.frames)
    c.in_ok-handler.handler c.in_ok-handler.ensures.some c.catch.ensures

pub returns-clause-stands : goal.returns-clause-stands
returns-clause-stands g c =
    stands_at_handler (g.H.ObjectStore.content c.args.heap.now) (g.F.SegmentFrames.content c.args.frames.now) c.args.w.now c.args.d c.args.s
    c.args.thrown c.requires.throwable c.requires.top.0 c.requires.top.1 c.args.head.now c.requires.top.2
    (g.F.SegmentFrames.content c.catch.new.frames) c.in_ok-handler.handler c.in_ok-handler.ensures.some c.catch.ensures c.requires.may.0
    c.requires.may.1 c.requires.may.2
