-- A piece that is refused leaves what fits of it.
use Rattle.std.proofs.Common.{take, drop, ap, sym, Some}
use Rattle.std.proofs.lemmas.List.{take-append-drop}
use Rattle.jk_outside.proofs.memory_sink.MemorySinkSink.write.Goals as goal

pub returns-then-named-clause-part : goal.returns-then-named-clause-part
returns-then-named-clause-part c =
    let free = c.free_room-free.result in
    let piece = c.args.piece.now in
    rw (← c.self.view_is) (take free piece, (drop free piece, sym (take-append-drop free piece)), ap Some c.append_front.ensures.items)
