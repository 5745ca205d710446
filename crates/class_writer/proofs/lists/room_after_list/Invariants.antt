-- What is left is the room without the bytes of the parts so far.
use Rattle.class_writer.proofs.RoomIsLeft.{SoFar}
use Rattle.class_writer.proofs.lists.room_after_list.Given as goal

abbrev pub invariant-loop-part : goal.invariant-loop-part
invariant-loop-part g l = SoFar g.P.Part.part_bytes g.P.Part.is_part l.parts l.part-index l.fn.room l.left
