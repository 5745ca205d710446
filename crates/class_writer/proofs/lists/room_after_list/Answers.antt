-- Where one part is longer than what is left, or has no bytes, the list is longer than the room, or has none.
use Rattle.class_writer.proofs.RoomIsLeft.{IsAt, ends}
use Rattle.class_writer.proofs.lists.room_after_list.Goals as goal

pub returns-in_err-left-2 : goal.returns-in_err-left-2
returns-in_err-left-2 g c =
    let xs = c.args.parts.now in
    let at : IsAt xs c.loop-part.part-index c.part-item.result = record { within = c.loop-part-test.true; is = c.part-item.is } in
    rw c.from_residual-in_err-left-2.ensures (ends g.P.Part.part_bytes g.P.Part.is_part xs c.loop-part.part-index c.args.room c.loop-part.left
    c.part-item.result at c.loop-part.invariant c.in_err-left-2.ensures)
